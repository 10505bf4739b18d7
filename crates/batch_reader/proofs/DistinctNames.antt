-- Names that differ: as a reader's sets tell it, and as a recipe asks it.
use Rattle.std.proofs.Common.{arith, ◌≡◌, ◌≢◌, Bool, true, false, not, List, [], ◌∷◌, ◌++◌, map, nat_eq, refl, sym, ap, subst, append_assoc}
use Rattle.std.{proofs.lemmas.List.map-id, specs.Cmp.Lexicographic.pointwise, specs.List.AllByRecursion, specs.List.IsDistinct}
use Rattle.batch_recipe.specs.{Conditions.Name, Conditions.same_name, WellFormed.is_among, WellFormed.are_distinct}
use Rattle.batch_reader.proofs.{NamesSoFar.IsDistinct-front, Conjunctions.both_true, Conjunctions.both_false, Conjunctions.and_true}

not_among : (name : Name) (names : List Name) → AllByRecursion (λ y. same_name name y ≡ false) names → is_among names name ≡ false
not_among name [] h = refl
not_among name (x ∷ xs) h = rw (h.0) (not_among name xs h.1)

apart : (name : Name) (names : List Name) → is_among names name ≡ false → AllByRecursion (λ y. same_name name y ≡ false) names
apart name [] h = tt
apart name (x ∷ xs) h = let p = both_false (same_name name x) (is_among xs name) h in (p.0, apart name xs p.1)

not_true : (b : Bool) → not b ≡ true → b ≡ false
not_true b h = grind arith

pub are_distinct-from_IsDistinct : (names : List Name) → IsDistinct (pointwise nat_eq) names → are_distinct names ≡ true
unfolding IsDistinct
are_distinct-from_IsDistinct [] h = refl
are_distinct-from_IsDistinct (x ∷ xs) h = and_true (not (is_among xs x)) (are_distinct xs) (ap not (not_among x xs h.0)) (are_distinct-from_IsDistinct xs h.1)

pub IsDistinct-from_are_distinct : (names : List Name) → are_distinct names ≡ true → IsDistinct (pointwise nat_eq) names
unfolding IsDistinct
IsDistinct-from_are_distinct [] h = tt
IsDistinct-from_are_distinct (x ∷ xs) h =
    let p = both_true (not (is_among xs x)) (are_distinct xs) h in
    (apart x xs (not_true (is_among xs x) p.0), IsDistinct-from_are_distinct xs p.1)

-- where names so far and some more don't differ, neither do all names
pub names_refused : (all keys more rest : List Name) → (keys ++ more) ++ rest ≡ all
    → (IsDistinct (pointwise nat_eq) (keys ++ more) → ⊥) → are_distinct all ≢ true
names_refused all keys more rest e twice h =
    let P : List Name → Type 0 = λ names. IsDistinct (pointwise nat_eq) names in
    twice (IsDistinct-front (pointwise nat_eq) (keys ++ more) rest (subst P (sym e) (IsDistinct-from_are_distinct all h)))

-- three lists, one after another, from none
module _ (xs ys zs none first second : List Name) (is_none : none ≡ []) where
  pub after_none : (none ++ xs) ++ (ys ++ zs) ≡ (xs ++ ys) ++ zs
  after_none = rw is_none (sym (append_assoc xs ys zs))

  module _ (is_first : first ≡ none ++ xs) where
    pub after_first : (first ++ ys) ++ zs ≡ (xs ++ ys) ++ zs
    after_first = rw (is_first, is_none) refl

    pub after_second : second ≡ first ++ ys → second ++ map (λ z. z) zs ≡ (xs ++ ys) ++ zs
    after_second is_second = rw (map-id zs, is_second) after_first
