-- Lists of which the first elements were changed.
use Rattle.std.proofs.Common.{◌≡◌, ℕ, zero, suc, ◌+◌, ◌<◌, List, [], ◌∷◌, map, length, get_or, set, refl, sym, ◌∙◌, ap, arith, add-one}

module _ {X : Type 0} (f : X → X) where
  -- f at each of the first n elements
  abbrev pub changed : ℕ → List X → List X
  changed zero xs = xs
  changed (suc n) [] = []
  changed (suc n) (x ∷ xs) = f x ∷ changed n xs

  read : (n : ℕ) (xs : List X) (d : X) → get_or (changed n xs) n d ≡ get_or xs n d
  read zero xs d = refl
  read (suc n) [] d = refl
  read (suc n) (x ∷ xs) d = read n xs d

  written : (n : ℕ) (xs : List X) (d : X) → n < length xs → set (changed n xs) n (f (get_or xs n d)) ≡ changed (suc n) xs
  written zero [] d lt = absurd (omega arith)
  written zero (x ∷ xs) d lt = refl
  written (suc n) [] d lt = absurd (omega arith)
  written (suc n) (x ∷ xs) d lt = ap (λ ys. f x ∷ ys) (written n xs d (omega arith))

  all_changed : (xs : List X) → changed (length xs) xs ≡ map f xs
  all_changed [] = refl
  all_changed (x ∷ xs) = ap (λ ys. f x ∷ ys) (all_changed xs)

  -- the next element is changed
  pub one_more : (n : ℕ) (xs ys : List X) (y d : X) → ys ≡ changed n xs → n < length xs → y ≡ f (get_or ys n d) → set ys n y ≡ changed (n + 1) xs
  one_more n xs ys y d e lt is =
      let now : y ≡ f (get_or xs n d) = is ∙ ap (λ zs. f (get_or zs n d)) e ∙ ap f (read n xs d) in
      ap (λ zs. set zs n y) e ∙ ap (λ z. set (changed n xs) n z) now ∙ written n xs d lt ∙ ap (λ k. changed k xs) (sym (add-one n))

  pub each_changed : (n : ℕ) (xs ys : List X) → ys ≡ changed n xs → n ≡ length xs → ys ≡ map f xs
  each_changed n xs ys e full = e ∙ (ap (λ k. changed k xs) full ∙ all_changed xs)
