-- The numbers of the elements that pass a test, one element after the other.
use Rattle.std.proofs.Common.{◌≤◌, arith, ◌≡◌, ℕ, suc, ◌+◌, ◌<◌, Bool, true, false, List, [], ◌∷◌, ◌++◌, map, length, take, get_or, if◌then◌else◌, refl, sym, ap, ◌∙◌}
use Rattle.std.proofs.{Math.Seq.take-suc, lemmas.List.take_all, lemmas.List.append_assoc, lemmas.List.length-take-le, lemmas.List.map-append}
use Rattle.batch_warnings.specs.Warnings.{numbers_passing}

take_more : {X : Type 0} (xs : List X) (k : ℕ) (x : X) → k < length xs → x ≡ get_or xs k x → take (k + 1) xs ≡ take k xs ++ x ∷ []
take_more xs k x within is =
    let next : k + 1 ≡ suc k = omega (arith) in
    ap (λ n. take n xs) next ∙ take-suc xs k x within
    ∙ ap (λ y. take k xs ++ y ∷ []) (sym is)

map_one : {W : Type 0} (K : ℕ → W) (told : Bool) (k : ℕ) → map K (if told then k ∷ [] else []) ≡ (if told then K k ∷ [] else [])
map_one K true k = refl
map_one K false k = refl

module _ {X : Type 0} (p : X → Bool) where
  numbers-snoc : (n : ℕ) (xs : List X) (x : X) → numbers_passing p n (xs ++ x ∷ []) ≡ numbers_passing p n xs ++ (if p x then (n + length xs) ∷ [] else [])
  numbers-snoc n [] x = grind (arith)
  numbers-snoc n (y ∷ ys) x = grind (arith, numbers-snoc (n + 1) ys x)

  -- the element at k adds its number, where it passes
  pub numbers_at : (xs : List X) (k : ℕ) (x : X) → k < length xs → x ≡ get_or xs k x
      → numbers_passing p 0 (take (k + 1) xs) ≡ numbers_passing p 0 (take k xs) ++ (if p x then k ∷ [] else [])
  numbers_at xs k x within is =
      let before : length (take k xs) ≡ k = length-take-le k xs (omega (arith, within)) in
      let number : 0 + length (take k xs) ≡ k = omega (arith, before) in
      ap (numbers_passing p 0) (take_more xs k x within is) ∙ numbers-snoc 0 (take k xs) x
      ∙ ap (λ n. numbers_passing p 0 (take k xs) ++ (if p x then n ∷ [] else [])) number

  pub numbers_on : {W : Type 0} (K : ℕ → W) (before : List W) (xs : List X) (k : ℕ) (x : X) → k < length xs → x ≡ get_or xs k x
      → before ++ map K (numbers_passing p 0 (take (k + 1) xs)) ≡ (before ++ map K (numbers_passing p 0 (take k xs))) ++ (if p x then K k ∷ [] else [])
  numbers_on K before xs k x within is =
      ap (λ ns. before ++ map K ns) (numbers_at xs k x within is)
      ∙ ap (λ told. before ++ told) (map-append K (numbers_passing p 0 (take k xs)) (if p x then k ∷ [] else []) ∙ ap (λ told. map K (numbers_passing p 0 (take k xs)) ++ told) (map_one K (p x) k))
      ∙ sym (append_assoc before (map K (numbers_passing p 0 (take k xs))) (if p x then K k ∷ [] else []))

  -- once all elements are walked, all numbers of those that pass are there
  pub numbers_through : {W : Type 0} (K : ℕ → W) (before all : List W) (xs ys : List X) (k : ℕ) → length xs ≤ k → xs ≡ ys
      → all ≡ before ++ map K (numbers_passing p 0 (take k xs)) → all ≡ before ++ map K (numbers_passing p 0 ys)
  numbers_through K before all xs ys k through same is =
      is ∙ ap (λ walked. before ++ map K (numbers_passing p 0 walked)) (take_all k xs through ∙ same)
