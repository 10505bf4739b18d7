-- Entries of a certificate, one after another.
use Rattle.std.proofs.Common.{arith, ◌≡◌, ℕ, ◌+◌, Bool, true, false, Option, Some, None, List, [], ◌∷◌, ◌++◌, take, map, slice_get, refl, sym, ap, ◌∙◌, subst}
use Rattle.std.{specs.Prelude.IsTrue, specs.Option.is_some, specs.Map.lookup, proofs.lemmas.Bool.true≢false, proofs.lemmas.List.take-map, proofs.lemmas.List.map-append, proofs.lemmas.Map.Made.is_some-lookup, proofs.lemmas.Option.slice_get-map}
use Rattle.batch_recipe.specs.{Conditions.Name, Conditions.same_name, WellFormed.is_among, WellFormed.are_distinct}
use Rattle.batch_verify.{specs.CertificateText.Rank, specs.Ranked.names_in, specs.Ranked.rank_of, specs.Ranked.AreAmong, specs.Ranked.IsFirstRepeated, specs.Ranked.IsFirstUnknown, proofs.NamesInList.take_next, proofs.NamesInList.Each-next, proofs.NamesInList.are_distinct-push}

pub name_at : (ranks : List Rank) (k : ℕ) (rank : Rank) → slice_get ranks k ≡ Some rank → slice_get (names_in ranks) k ≡ Some rank.0
name_at ranks k rank e = rw (slice_get-map (λ (r : Rank). r.0) ranks k, e) refl

-- whether a name has an entry, by a look-up
pub among_by_lookup : (ranks : List Rank) (name : Name) → is_among (names_in ranks) name ≡ is_some (lookup (same_name name) ranks)
among_by_lookup ranks name = sym (is_some-lookup (same_name name) ranks)

among_so_far : (ranks : List Rank) (k : ℕ) (name : Name) → is_among (take k (names_in ranks)) name ≡ is_some (lookup (same_name name) (take k ranks))
among_so_far ranks k name = ap (λ names. is_among names name) (take-map (λ (r : Rank). r.0) k ranks) ∙ among_by_lookup (take k ranks) name

-- an entry whose name is new
pub once_next : (ranks : List Rank) (k : ℕ) (rank : Rank) → slice_get ranks k ≡ Some rank → IsTrue (are_distinct (take k (names_in ranks)))
    → is_some (lookup (same_name rank.0) (take k ranks)) ≡ false → IsTrue (are_distinct (take (k + 1) (names_in ranks)))
once_next ranks k rank e once new =
    let P : List Name → Type 0 = λ names. IsTrue (are_distinct names) in
    subst P (sym (take_next (names_in ranks) k rank.0 (name_at ranks k rank e)))
    (are_distinct-push (take k (names_in ranks)) rank.0 once (among_so_far ranks k rank.0 ∙ new))

-- an entry whose name stands at an earlier one
pub first_repeated : (ranks : List Rank) (k : ℕ) (rank : Rank) → slice_get ranks k ≡ Some rank → IsTrue (are_distinct (take k (names_in ranks)))
    → is_some (lookup (same_name rank.0) (take k ranks)) ≡ true → IsFirstRepeated (names_in ranks) k
first_repeated ranks k rank e once old = record {
  name = rank.0;
  found = name_at ranks k rank e;
  differ = once;
  repeated = among_so_far ranks k rank.0 ∙ old;
}

pub is_none-some : {X : Type 0} (o : Option X) → is_some o ≡ false → o ≡ None
is_none-some o e = grind (arith, true≢false)

-- the result of a look-up among the entries so far
pub looked_up : (ranks es : List Rank) (k : ℕ) (name copy : Name) (r : Option ℕ) (b : Bool) → es ≡ take k ranks → copy ≡ name → r ≡ lookup (same_name copy) es → is_some r ≡ b
    → is_some (lookup (same_name name) (take k ranks)) ≡ b
looked_up ranks es k name copy r b so_far same old e = grind arith

-- Resources, one after another

-- a resource with an entry
pub ranks_next : (ranks : List Rank) (names : List Name) (k : ℕ) (name : Name) (rank : ℕ) (so_far : List ℕ) → slice_get names k ≡ Some name
    → so_far ≡ map (rank_of ranks) (take k names) → Some rank ≡ lookup (same_name name) ranks → so_far ++ rank ∷ [] ≡ map (rank_of ranks) (take (k + 1) names)
ranks_next ranks names k name rank so_far e h found = grind (arith, map-append (rank_of ranks) (take k names) (name ∷ []), take_next names k name e)

pub among_next : (ranks : List Rank) (names : List Name) (k : ℕ) (name : Name) (rank : ℕ) → slice_get names k ≡ Some name
    → AreAmong (names_in ranks) (take k names) → Some rank ≡ lookup (same_name name) ranks → AreAmong (names_in ranks) (take (k + 1) names)
among_next ranks names k name rank e h found =
    Each-next (λ (n : Name). IsTrue (is_among (names_in ranks) n)) names k name e h (among_by_lookup ranks name ∙ ap is_some (sym found))

-- one without
pub first_unknown : (ranks : List Rank) (names : List Name) (k : ℕ) (name : Name) → slice_get names k ≡ Some name
    → AreAmong (names_in ranks) (take k names) → None ≡ lookup (same_name name) ranks → IsFirstUnknown (names_in ranks) names k
first_unknown ranks names k name e h none = record { name = name; found = e; before = h; unknown = among_by_lookup ranks name ∙ ap is_some (sym none) }
