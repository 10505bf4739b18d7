-- Names that differ, put into an index one after another.
use Rattle.std.proofs.Common.{◌≡◌, Bool, true, false, List, [], ◌∷◌, ◌++◌, refl, sym, ap, ◌∙◌, inl, inr, subst, append_assoc, append-nil}
use Rattle.std.{proofs.lemmas.Bool.false≢true, proofs.lemmas.Bool.or_cases, specs.Cmp.IsEquivalence, specs.List.AllByRecursion, specs.List.IsDistinct, specs.List.list_any}
use Rattle.indexmap.specs.IndexSet.{insert_all, insert_key}

-- the front of names that differ
front_apart : {K : Type 0} (P : K → Type 0) (xs ys : List K) → AllByRecursion P (xs ++ ys) → AllByRecursion P xs
front_apart P [] ys h = tt
front_apart P (x ∷ xs) ys h = (h.0, front_apart P xs ys h.1)

pub IsDistinct-front : {K : Type 0} (eq : K → K → Bool) (xs ys : List K) → IsDistinct eq (xs ++ ys) → IsDistinct eq xs
unfolding IsDistinct
IsDistinct-front eq [] ys h = tt
IsDistinct-front eq (x ∷ xs) ys h = (front_apart (λ y. eq x y ≡ false) xs ys h.0, IsDistinct-front eq xs ys h.1)

last_apart : {K : Type 0} (P : K → Type 0) (xs : List K) (y : K) → AllByRecursion P (xs ++ y ∷ []) → P y
last_apart P [] y h = h.0
last_apart P (x ∷ xs) y h = last_apart P xs y h.1

-- a name that is there already
pub IsDistinct-twice : {K : Type 0} {eq : K → K → Bool} (laws : IsEquivalence eq) (keys : List K) (k : K)
    → list_any (eq k) keys ≡ true → IsDistinct eq (keys ++ k ∷ []) → ⊥
unfolding IsDistinct
IsDistinct-twice laws [] k found h = false≢true found
IsDistinct-twice {eq = eq} laws (x ∷ xs) k found h =
    elim (or_cases (eq k x) (list_any (eq k) xs) found) [
      | inl same ↦ false≢true (sym (last_apart (λ y. eq x y ≡ false) xs k h.0) ∙ laws.symm x k ∙ same)
      | inr later ↦ IsDistinct-twice laws xs k later h.1
    ]

-- each of names that differ goes last
module _ {K : Type 0} {eq : K → K → Bool} (laws : IsEquivalence eq) where
  inserted_last : (keys : List K) (k : K) → IsDistinct eq (keys ++ k ∷ []) → insert_key eq keys k ≡ keys ++ k ∷ []
  inserted_last keys k distinct = by (list_any (eq k) keys) refl
    where
      by : (found : Bool) → list_any (eq k) keys ≡ found → insert_key eq keys k ≡ keys ++ k ∷ []
      by true found = absurd (IsDistinct-twice laws keys k found distinct)
      by false found = rw found refl

  inserted_after : (keys names : List K) → IsDistinct eq (keys ++ names) → insert_all eq keys names ≡ keys ++ names
  inserted_after keys [] distinct = sym (append-nil keys)
  inserted_after keys (k ∷ names) distinct =
      let along : (keys ++ k ∷ []) ++ names ≡ keys ++ k ∷ names = append_assoc keys (k ∷ []) names in
      let all : IsDistinct eq ((keys ++ k ∷ []) ++ names) = subst (IsDistinct eq) (sym along) distinct in
      ap (λ ks. insert_all eq ks names) (inserted_last keys k (IsDistinct-front eq (keys ++ k ∷ []) names all)) ∙ inserted_after (keys ++ k ∷ []) names all ∙ along

  -- so an index of them has them in their order
  pub inserted_all : (names : List K) → IsDistinct eq names → insert_all eq [] names ≡ names
  inserted_all names distinct = inserted_after [] names distinct
