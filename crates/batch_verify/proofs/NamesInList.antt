-- Names of a list, one after another.
use Rattle.std.proofs.Common.{arith, ◌≡◌, ℕ, suc, zero, ◌+◌, Bool, true, false, not, Option, Some, List, [], ◌∷◌, ◌++◌, take, slice_get, position, refl, sym, ap, ◌∙◌, subst, inl, inr}
use Rattle.std.{specs.Prelude.IsTrue, specs.Option.is_some, specs.Cmp.Lexicographic.nat_list_eq_equiv, proofs.lemmas.Bool.false≢true, proofs.lemmas.Bool.or_parts, proofs.lemmas.Bool.or_from, proofs.lemmas.Bool.or_left, proofs.lemmas.Bool.or_right, proofs.lemmas.Bool.or_cases, proofs.lemmas.Bool.and_parts, proofs.lemmas.Bool.and_from, proofs.lemmas.Bool.not-true, proofs.lemmas.Bool.not_from_false, proofs.lemmas.List.take_more, proofs.lemmas.Option.get_or_from_slice_get, proofs.lemmas.Option.slice_get_within}
use Rattle.batch_recipe.specs.{Conditions.Name, Conditions.same_name, WellFormed.is_among, WellFormed.are_distinct}
use Rattle.batch_verify.proofs.ListLookups.{found_is_among}
use Rattle.batch_model.{specs.Lists.Each, proofs.Members.Each-append}

-- Each

pub take_next : {X : Type 0} (xs : List X) (i : ℕ) (x : X) → slice_get xs i ≡ Some x → take (i + 1) xs ≡ take i xs ++ x ∷ []
take_next xs i x e = take_more xs i x (slice_get_within xs i x e) ∙ ap (λ y. take i xs ++ y ∷ []) (get_or_from_slice_get xs i x x e)

pub Each-next : {X : Type 0} (P : X → Type 0) (xs : List X) (i : ℕ) (x : X) → slice_get xs i ≡ Some x → Each P (take i xs) → P x → Each P (take (i + 1) xs)
Each-next P xs i x e h p = subst (Each P) (sym (take_next xs i x e)) (Each-append P (take i xs) (x ∷ []) h (p, tt))

pub Each-at : {X : Type 0} (P : X → Type 0) (xs : List X) (i : ℕ) (x : X) → slice_get xs i ≡ Some x → Each P xs → P x
Each-at P [] i x e h = absurd (cc)
Each-at P (y ∷ ys) zero x e h = let same : y ≡ x = cc in subst P same h.0
Each-at P (y ∷ ys) (suc i) x e h = Each-at P ys i x e h.1

-- Names that differ

is_among-push : (names : List Name) (last name : Name) → is_among names name ≡ false → same_name name last ≡ false → is_among (names ++ last ∷ []) name ≡ false
is_among-push [] last name h apart = or_from (same_name name last) false apart refl
is_among-push (x ∷ xs) last name h apart =
    let parts = or_parts (same_name name x) (is_among xs name) h in
    or_from (same_name name x) (is_among (xs ++ last ∷ []) name) parts.0 (is_among-push xs last name parts.1 apart)

pub same_name_sym : (a b : Name) (r : Bool) → same_name a b ≡ r → same_name b a ≡ r
same_name_sym a b r e = nat_list_eq_equiv.symm b a ∙ e

pub are_distinct-push : (names : List Name) (name : Name) → IsTrue (are_distinct names) → is_among names name ≡ false → IsTrue (are_distinct (names ++ name ∷ []))
are_distinct-push [] name h apart = refl
are_distinct-push (x ∷ xs) name h apart =
    let own = and_parts (not (is_among xs x)) (are_distinct xs) h in
    let others = or_parts (same_name name x) (is_among xs name) apart in
    and_from (not (is_among (xs ++ name ∷ []) x)) (are_distinct (xs ++ name ∷ []))
    (not_from_false (is_among (xs ++ name ∷ []) x) (is_among-push xs name x (not-true (is_among xs x) own.0) (same_name_sym name x false others.0)))
    (are_distinct-push xs name own.1 others.1)

pub among_at : (names : List Name) (k : ℕ) (name other : Name) → slice_get names k ≡ Some name → same_name other name ≡ true → is_among names other ≡ true
among_at [] k name other e same = absurd (cc)
among_at (y ∷ ys) zero name other e same = grind (arith, or_left)
among_at (y ∷ ys) (suc k) name other e same = or_right (same_name other y) (is_among ys other) (among_at ys k name other e same)

-- a name at an earlier place
pub are_distinct-again : (names : List Name) (k : ℕ) (name : Name) → slice_get names k ≡ Some name → IsTrue (is_among (take k names) name) → IsTrue (are_distinct names) → ⊥
are_distinct-again [] k name e again h = absurd (cc)
are_distinct-again (y ∷ ys) zero name e again h = false≢true again
are_distinct-again (y ∷ ys) (suc k) name e again h =
    let own = and_parts (not (is_among ys y)) (are_distinct ys) h in
    elim (or_cases (same_name name y) (is_among (take k ys) name) again) [
      | inl same ↦ false≢true (sym (not-true (is_among ys y) own.0) ∙ among_at ys k name y e (same_name_sym name y true same))
      | inr later ↦ are_distinct-again ys k name e later own.1
    ]

-- Places

-- whether a name is among names, by its place
pub among_by_place : (names : List Name) (name : Name) (r : Option ℕ) (b : Bool) → r ≡ position (same_name name) names → is_some r ≡ b → is_among names name ≡ b
among_by_place names name r b e some = sym (found_is_among (same_name name) names) ∙ ap is_some (sym e) ∙ some
