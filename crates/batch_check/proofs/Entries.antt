-- Entries of names and ranks, in order of name.
use Rattle.std.proofs.Common.{◌≡◌, ◌≢◌, ℕ, ◌+◌, ◌<◌, ◌≤◌, false, List, [], ◌∷◌, ◌++◌, map, length, take, min, get_or, AllPairs, IsPermutation, refl, sym, ap, ◌∙◌, subst, arith, nat_cmp, is_lt}
use Rattle.std.{specs.Cmp.IsTotalOrder, specs.Cmp.Lexicographic.slice_cmp, specs.List.zip, specs.List.Sorted.IsSorted, specs.Ordering.ordering_then, specs.Ordering.ordering_reverse, specs.Ordering.then_cmp, specs.Ordering.on, specs.Str.bytes_eq, specs.declared.cmp.Ordering.Ordering, specs.declared.cmp.Ordering.TheVariants.Less, specs.declared.cmp.Ordering.TheVariants.Equal, specs.declared.cmp.Ordering.TheVariants.Greater, proofs.lemmas.Bool.false≢true, proofs.lemmas.Cmp.nat_list_cmp_total, proofs.lemmas.Cmp.nat_cmp_total, proofs.lemmas.Cmp.nat_list_eq_equiv, proofs.lemmas.Cmp.then_total, proofs.lemmas.Cmp.on_total, proofs.lemmas.List.get_or-map, proofs.lemmas.List.length-map, proofs.lemmas.List.take_more, proofs.lemmas.List.take_all, proofs.lemmas.List.Sorted.IsPermutation-map, proofs.lemmas.List.Sorted.sorted_far, proofs.lemmas.List.Sorted.ranks_by, proofs.lemmas.Map.Keys.IsDistinct-IsPermutation, proofs.lemmas.Map.Lookups.exact_bytes, proofs.lemmas.Map.Made.AllPairs-from_IsDistinct, proofs.lemmas.Slice.Eq.bytes_eq-Decides, proofs.lemmas.Slice.Zip.get_or-zip, proofs.lemmas.Slice.Zip.length-zip, proofs.lemmas.Slice.Zip.firsts-zip}
use Rattle.batch_cell.specs.{LookUps.resources_of, declared.cell.Cell.Cell}
use Rattle.batch_recipe.specs.Conditions.{Name}
use Rattle.batch_check.{specs.ByName.IsBelow, specs.ByName.IsCertificateOf, proofs.Names.resources_distinct}

abbrev pub Entry : Type 0
Entry = Name × ℕ

-- the order of pairs: by name, and then by rank
abbrev by_name : Entry → Entry → Ordering
by_name = then_cmp (on (λ (e : Entry). e.0) (slice_cmp nat_cmp)) (on (λ (e : Entry). e.1) nat_cmp)

by_name_total : IsTotalOrder by_name
by_name_total = then_total (on_total (λ (e : Entry). e.0) nat_list_cmp_total) (on_total (λ (e : Entry). e.1) nat_cmp_total)

-- of two different names, the one that is not after the other is below it
below_from_order : (x y : Entry) → x.0 ≢ y.0 → is_lt (by_name y x) ≡ false → IsBelow x.0 y.0
below_from_order x y differ up = go (slice_cmp nat_cmp y.0 x.0) refl up
  where
    go : (o : Ordering) → slice_cmp nat_cmp y.0 x.0 ≡ o → is_lt (ordering_then o (nat_cmp y.1 x.1)) ≡ false → IsBelow x.0 y.0
    go Less is h = absurd (false≢true (sym h))
    go Equal is h = absurd (differ (sym (exact_bytes y.0 x.0 is)))
    go Greater is h = nat_list_cmp_total.antisymm x.0 y.0 ∙ ap ordering_reverse is

-- one more entry of the names and their ranks
pub zip_more : (names : List Name) (ranks : List ℕ) (i : ℕ) → length ranks ≡ length names → i < length names
    → take (i + 1) (zip names ranks) ≡ take i (zip names ranks) ++ (get_or names i [], get_or ranks i 0) ∷ []
zip_more names ranks i same below =
    let d : Entry = ([], 0) in
    let whole : length (zip names ranks) ≡ min (length names) (length ranks) = length-zip names ranks in
    take_more (zip names ranks) i d (omega (arith, whole))
    ∙ ap (λ e. take i (zip names ranks) ++ e ∷ []) (get_or-zip names ranks i d below (omega (arith, same)))

pub zip_all : (names : List Name) (ranks : List ℕ) (i : ℕ) → length ranks ≡ length names → length names ≤ i → take i (zip names ranks) ≡ zip names ranks
zip_all names ranks i same all = take_all i (zip names ranks) (omega (arith, length-zip names ranks))

-- the names of resources, sorted together with their ranks
pub IsCertificateOf-sorted : (c : Cell) (ranks : List ℕ) (entries : List Entry) → length ranks ≡ length (resources_of c)
    → IsPermutation (zip (resources_of c) ranks) entries → IsSorted by_name entries → IsCertificateOf c ranks entries
IsCertificateOf-sorted c ranks entries same moved sorted =
    let name : Entry → Name = λ e. e.0 in
    let differ : AllPairs (λ (x y : Name). x ≢ y) (map name entries) =
    AllPairs-from_IsDistinct bytes_eq-Decides (map name entries)
    (IsDistinct-IsPermutation bytes_eq nat_list_eq_equiv.symm (resources_of c) (map name entries)
    (subst (λ names. IsPermutation names (map name entries)) (firsts-zip (resources_of c) ranks same) (IsPermutation-map name (zip (resources_of c) ranks) entries moved)) (resources_distinct c)) in
    record {
      whole = moved;
      in_order = λ i j d ij j_in.
          below_from_order (get_or entries i d) (get_or entries j d)
          (λ equal. differ i j [] ij (subst (λ n. j < n) (sym (length-map entries name)) j_in) (get_or-map name entries i d [] (omega arith) ∙ (equal ∙ sym (get_or-map name entries j d [] j_in))))
          (sorted_far (λ x y. is_lt (by_name x y)) (ranks_by by_name_total (λ (e : Entry). e)) entries sorted i j d (omega arith) j_in);
    }
