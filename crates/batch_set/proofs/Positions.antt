-- Where something is found first.
use Rattle.std.proofs.Common.{◌≡◌, arith, ℕ, List, [], ◌∷◌, map, Bool, true, ◌||◌, Option, Some, None, position, slice_get, get_or, refl, sym, ap, ◌∙◌}
use Rattle.std.{specs.List.list_any, specs.Option.is_some, specs.Cmp.Lexicographic.bytes_decides, proofs.lemmas.Bool.false≢true, proofs.lemmas.Bool.Decides.nat_tests, proofs.lemmas.Grind.common_steps, proofs.lemmas.List.Quantifiers.position-Some, proofs.lemmas.Option.slice_get-get_or}
use Rattle.batch_recipe.specs.Conditions.{Name, same_name}

pub any-map : {X Y : Type 0} (p : Y → Bool) (f : X → Y) (xs : List X) → list_any (λ x. p (f x)) xs ≡ list_any p (map f xs)
any-map p f [] = refl
any-map p f (x ∷ xs) = ap (λ b. p (f x) || b) (any-map p f xs)

some-there : (o : Option ℕ) → is_some o ≡ true → (q : ℕ) × (o ≡ Some q)
some-there None h = absurd (false≢true h)
some-there (Some q) h = (q, refl)

module _ {X : Type 0} (test : X → Bool) where
  pub found-any : (xs : List X) → is_some (position test xs) ≡ list_any test xs
  found-any [] = refl
  found-any (x ∷ xs) = grind (arith, nat_tests, common_steps, found-any xs)

  -- something is found where some element passes
  pub any-position : (xs : List X) → list_any test xs ≡ true → (q : ℕ) × (position test xs ≡ Some q)
  any-position xs h = some-there (position test xs) (found-any xs ∙ h)

  -- it passes
  pub found-at : (xs : List X) (q : ℕ) → position test xs ≡ Some q → (x : X) × (slice_get xs q ≡ Some x) × (test x ≡ true)
  found-at [] q e = absurd cc
  found-at (x ∷ xs) q e =
      let found = position-Some test (x ∷ xs) q x e in
      (get_or (x ∷ xs) q x, slice_get-get_or (x ∷ xs) q x found.0, found.1)

-- the name with this number
pub name-at : (names : List Name) (name : Name) (q : ℕ) → position (same_name name) names ≡ Some q → slice_get names q ≡ Some name
name-at names name q e =
    let found = found-at (same_name name) names q e in
    found.1 ∙ ap Some (sym ((bytes_decides name found.0).0 found.2))
