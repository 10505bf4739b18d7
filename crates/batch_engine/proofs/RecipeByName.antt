-- The recipe with a name.
use Rattle.std.proofs.Common.{◌≡◌, ◌<◌, refl, ◌∙◌, ap, ℕ, zero, suc, List, [], ◌∷◌, Bool, true, false, Option, Some, None, arith, map, find, get_or}
use Rattle.std.{specs.Prelude.slice_get, specs.Prelude.position, proofs.lemmas.List.Quantifiers.position-Some, proofs.lemmas.Option.slice_get-get_or}
use Rattle.batch_engine.proofs.{AbsentElements.NonePasses, AbsentElements.NonePasses-position, BatchByNumber.found-true, BatchByNumber.found-false}

module _ {X Y : Type 0} (f : X → Y) (p : Y → Bool) where
  first : (xs : List X) (i : ℕ) (x d : X) → slice_get xs i ≡ Some x → p (f x) ≡ true → ((j : ℕ) → j < i → p (f (get_or xs j d)) ≡ false) → find p (map f xs) ≡ Some (f x)
  first [] i x d e t h = absurd cc
  first (y ∷ xs) zero x d e t h =
      let g : y ≡ x = cc in
      found-true (p (f y)) (Some (f y)) (find p (map f xs)) (ap (λ z. p (f z)) g ∙ t) ∙ ap (λ z. Some (f z)) g
  first (y ∷ xs) (suc i) x d e t h =
      found-false (p (f y)) (Some (f y)) (find p (map f xs)) (h 0 (omega arith)) ∙ first xs i x d e t (λ j l. h (suc j) (omega arith))

  pub find-at : (xs : List X) (i : ℕ) → position (λ x. p (f x)) xs ≡ Some i → (x : X) × (slice_get xs i ≡ Some x) × (find p (map f xs) ≡ Some (f x))
  find-at [] i e = absurd (let g : ◌≡◌ {A = Option ℕ} None (Some i) = e in cc)
  find-at (y ∷ xs) i e =
      let q = position-Some (λ x. p (f x)) (y ∷ xs) i y e in
      let at : slice_get (y ∷ xs) i ≡ Some (get_or (y ∷ xs) i y) = slice_get-get_or (y ∷ xs) i y q.0 in
      (get_or (y ∷ xs) i y, at, first (y ∷ xs) i (get_or (y ∷ xs) i y) y at q.1 q.2)

  none : (xs : List X) → NonePasses (λ x. p (f x)) xs → find p (map f xs) ≡ None
  none [] h = refl
  none (y ∷ xs) h = found-false (p (f y)) (Some (f y)) (find p (map f xs)) (h 0 y (omega arith)) ∙ none xs (λ k d l. h (suc k) d (omega arith))

  pub find-nowhere : (xs : List X) → position (λ x. p (f x)) xs ≡ None → find p (map f xs) ≡ None
  find-nowhere xs e = none xs (NonePasses-position (λ x. p (f x)) xs e)
