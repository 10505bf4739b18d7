-- The ranks that the entries of a certificate give a cell's resources.
use Rattle.std.proofs.Common.{◌≡◌, ℕ, ◌+◌, ◌<◌, false, nat_cmp, is_lt, true, List, [], ◌∷◌, map, length, get_or, position, IsTrue, IsPermutation, Option, Some, None, unwrap_or, Contains, refl, sym, ap, ◌∙◌, subst, arith}
use Rattle.std.{specs.List.AllByRecursion, specs.List.IsDistinct, specs.List.zip, specs.Cmp.Lexicographic.slice_cmp, specs.Map.keys_of, specs.Map.lookup, specs.Ordering.ordering_reverse, proofs.lemmas.Cmp.nat_list_eq_equiv, proofs.lemmas.Cmp.nat_list_cmp_total, proofs.lemmas.List.get_or-map, proofs.lemmas.List.length-map, proofs.lemmas.List.get_or_default, proofs.lemmas.List.same_lists, proofs.lemmas.List.Elements.Contains-get_or, proofs.lemmas.List.Elements.recursion_from_All, proofs.lemmas.List.Folds.list_any-from_Any, proofs.lemmas.List.Quantifiers.position-Some, proofs.lemmas.List.Sorted.IsPermutation-map, proofs.lemmas.List.Sorted.IsPermutation-sym, proofs.lemmas.List.Sorted.Contains-permutation, proofs.lemmas.Map.Keys.IsDistinct-IsPermutation, proofs.lemmas.Map.Keys.IsDistinct-head, proofs.lemmas.Map.Keys.IsDistinct-tail, proofs.lemmas.Map.Views.Contains-from_lookup, proofs.lemmas.Map.Views.lookup-from_Contains, proofs.lemmas.Slice.Eq.bytes_eq-Decides, proofs.lemmas.Slice.Zip.get_or-zip, proofs.lemmas.Slice.Zip.length-zip, proofs.lemmas.Slice.Zip.firsts-zip}
use Rattle.batch_cell.specs.{LookUps.resources_of, declared.cell.Cell.Cell}
use Rattle.batch_recipe.specs.{Conditions.Name, Conditions.same_name, WellFormed.is_among, WellFormed.are_distinct}
use Rattle.batch_model.specs.Lists.{Each}
use Rattle.batch_check.{specs.ByName.resource_name_in, specs.ByName.IsBelow, specs.ByName.IsCertificateOf, specs.RanksTold.TellsRanks, proofs.Entries.Entry, proofs.Names.resources_distinct, proofs.Names.rank_in-name}
use Rattle.batch_verify.specs.{Refusals.rank_in, Ranked.rank_of}

same_by_test : (x y : Name) → same_name x y ≡ true → x ≡ y
same_by_test x y h = (bytes_eq-Decides x y).0 h

not_before : (x y : Name) → IsBelow x y → is_lt (slice_cmp nat_cmp y x) ≡ false
not_before x y below = ap is_lt (nat_list_cmp_total.antisymm y x ∙ ap ordering_reverse below)

-- Lists of names

not_among : (x : Name) (names : List Name) → AllByRecursion (λ y. same_name x y ≡ false) names → is_among names x ≡ false
not_among x [] h = refl
not_among x (y ∷ names) h = rw h.0 (not_among x names h.1)

distinct_names : (names : List Name) → IsDistinct same_name names → IsTrue (are_distinct names)
distinct_names [] h = refl
distinct_names (x ∷ names) h = rw (not_among x names (IsDistinct-head same_name x names h)) (distinct_names names (IsDistinct-tail same_name x names h))

among_from_Contains : (names : List Name) (x : Name) → Contains names x → IsTrue (is_among names x)
among_from_Contains names x h = list_any-from_Any (same_name x) names (h.0, x, h.1, h.2, (bytes_eq-Decides x x).1 refl)

Each-from_recursion : {X : Type 0} (P : X → Type 0) (xs : List X) → AllByRecursion P xs → Each P xs
Each-from_recursion P [] h = tt
Each-from_recursion P (x ∷ xs) h = (h.0, Each-from_recursion P xs h.1)

same_parts : (x y : Name) (m n : ℕ) → ◌≡◌ {A = Entry} (x, m) (y, n) → (x ≡ y) × (m ≡ n)
same_parts x y m n h = (ap (λ (e : Entry). e.0) h, ap (λ (e : Entry). e.1) h)

-- names that change places stay among the others
all_among : (xs ys : List Name) → IsPermutation xs ys → Each (λ name. IsTrue (is_among ys name)) xs
all_among xs ys moved =
    let P : Name → Type 0 = λ name. IsTrue (is_among ys name) in
    Each-from_recursion P xs (recursion_from_All P xs (λ k d in'. among_from_Contains ys (get_or xs k d) (Contains-permutation xs ys (get_or xs k d) moved (Contains-get_or xs k d in'))))

module _ (c : Cell) (ranks : List ℕ) (entries : List Entry) (same : length ranks ≡ length (resources_of c)) (certified : IsCertificateOf c ranks entries) where
  names_moved : IsPermutation (resources_of c) (keys_of entries)
  names_moved =
      let name : Entry → Name = λ e. e.0 in
      subst (λ names. IsPermutation names (map name entries)) (firsts-zip (resources_of c) ranks same) (IsPermutation-map name (zip (resources_of c) ranks) entries certified.whole)

  keys_distinct : IsDistinct same_name (keys_of entries)
  keys_distinct = IsDistinct-IsPermutation same_name nat_list_eq_equiv.symm (resources_of c) (keys_of entries) names_moved (resources_distinct c)

  -- each entry is one of a resource and its rank
  entry_number : (name : Name) (rank : ℕ) → Contains entries (name, rank) → (k : ℕ) × (k < length (resources_of c)) × (resource_name_in c k ≡ name) × (get_or ranks k 0 ≡ rank)
  entry_number name rank h =
      let place = Contains-permutation entries (zip (resources_of c) ranks) (name, rank) (IsPermutation-sym (zip (resources_of c) ranks) entries certified.whole) h in
      let inside : place.0 < length (resources_of c) = omega (arith, place.1, length-zip (resources_of c) ranks, same) in
      let d : Entry = ([], 0) in
      let whole : length (zip (resources_of c) ranks) ≡ length (resources_of c) = omega (arith, length-zip (resources_of c) ranks, same) in
      let is : (resource_name_in c place.0, get_or ranks place.0 0) ≡ (name, rank) =
      sym (get_or-zip (resources_of c) ranks place.0 d inside (omega (arith, same)))
      ∙ (get_or_default (zip (resources_of c) ranks) place.0 d (name, rank) (omega (arith, whole)) ∙ place.2) in
      let parts = same_parts (resource_name_in c place.0) name (get_or ranks place.0 0) rank is in
      (place.0, inside, parts.0, parts.1)

  entry_found : (k : ℕ) → k < length (resources_of c) → lookup (same_name (resource_name_in c k)) entries ≡ Some (get_or ranks k 0)
  entry_found k inside =
      let d : Entry = ([], 0) in
      let whole : length (zip (resources_of c) ranks) ≡ length (resources_of c) = omega (arith, length-zip (resources_of c) ranks, same) in
      let here : Contains (zip (resources_of c) ranks) (resource_name_in c k, get_or ranks k 0) =
      subst (λ e. Contains (zip (resources_of c) ranks) e) (get_or-zip (resources_of c) ranks k d inside (omega (arith, same)))
      (Contains-get_or (zip (resources_of c) ranks) k d (omega (arith, whole))) in
      lookup-from_Contains nat_list_eq_equiv (resource_name_in c k) (get_or ranks k 0) entries keys_distinct
      (Contains-permutation (zip (resources_of c) ranks) entries (resource_name_in c k, get_or ranks k 0) certified.whole here)

  abbrev rank_found : Option ℕ → ℕ
  rank_found None = 0
  rank_found (Some number) = get_or ranks number 0

  told : (name : Name) → rank_of entries name ≡ rank_in c ranks name
  told name = go (lookup (same_name name) entries) refl
    where
      without : (p : Option ℕ) → position (same_name name) (resources_of c) ≡ p → lookup (same_name name) entries ≡ None → unwrap_or None 0 ≡ rank_found p
      without None is none = refl
      without (Some k) is none =
          let found = position-Some (same_name name) (resources_of c) k [] is in
          let some : lookup (same_name name) entries ≡ Some (get_or ranks k 0) = rw (same_by_test name (resource_name_in c k) found.1) (entry_found k found.0) in
          let bad : Some (get_or ranks k 0) ≡ None = sym some ∙ none in
          absurd cc

      go : (o : Option ℕ) → lookup (same_name name) entries ≡ o → unwrap_or o 0 ≡ rank_in c ranks name
      go None is = without (position (same_name name) (resources_of c)) refl is
      go (Some rank) is =
          let entry = entry_number name rank (Contains-from_lookup same_by_test name rank entries is) in
          sym entry.3 ∙ (sym (rank_in-name c ranks entry.0 entry.1) ∙ ap (rank_in c ranks) entry.2)

  numbered : map (rank_of entries) (resources_of c) ≡ ranks
  numbered =
      same_lists (map (rank_of entries) (resources_of c)) ranks (length-map (resources_of c) (rank_of entries) ∙ sym same)
      (λ k d in'.
      let inside : k < length (resources_of c) = subst (λ n. k < n) (length-map (resources_of c) (rank_of entries)) in' in
      get_or-map (rank_of entries) (resources_of c) k [] d inside
      ∙ (ap (λ o. unwrap_or o 0) (entry_found k inside) ∙ get_or_default ranks k 0 d (omega (arith, same))))

  pub TellsRanks-certificate : TellsRanks c ranks entries
  TellsRanks-certificate = record {
    ranked = record {
      once = distinct_names (keys_of entries) keys_distinct;
      known = all_among (keys_of entries) (resources_of c) (IsPermutation-sym (resources_of c) (keys_of entries) names_moved);
      complete = all_among (resources_of c) (keys_of entries) names_moved;
    };
    by_number = numbered;
    by_name = λ i name. told name i;
    in_order = λ k d low in'. not_before (get_or entries k d).0 (get_or entries (k + 1) d).0 (certified.in_order k (k + 1) d (omega arith) in');
  }
