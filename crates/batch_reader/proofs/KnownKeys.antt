-- Keys of a table.
use Rattle.std.proofs.Common.{arith, ◌≡◌, Bool, false, true, ◌&&◌, ◌||◌, List, [], ◌∷◌, ℕ, map, String, Global, string_bytes, Some, None, Ordering, nat_cmp, refl, sym, ap, ◌∙◌}
use Rattle.std.{proofs.lemmas.Bool.false≢true, proofs.lemmas.Map.Lookups.exact_bytes, specs.Cmp.Lexicographic.slice_cmp, specs.List.list_any, specs.List.list_all, specs.Ordering.match_ordering, specs.Map.keys_of}
use Rattle.toml.specs.{Data.Data, Data.Members, Data.no_members, Data.member, Data.get_member, View.members_view, declared.value.Value.Value}
use Rattle.batch_reader.{proofs.Conjunctions.both_true, specs.Entries.all_keys}

pub list_any-map : {X Y : Type 0} (p : Y → Bool) (f : X → Y) (xs : List X) → list_any (λ x. p (f x)) xs ≡ list_any p (map f xs)
list_any-map p f [] = refl
list_any-map p f (x ∷ xs) = ap (λ b. p (f x) || b) (list_any-map p f xs)

-- the test of each key of the map is that of the table's members
pub all_keys-view : (is_so : List ℕ → Bool) (es : List (String Global × Value)) → list_all (λ key. is_so (string_bytes key)) (keys_of es) ≡ all_keys is_so (members_view es)
all_keys-view is_so [] = refl
all_keys-view is_so (e ∷ es) = ap (λ b. is_so (string_bytes e.0) && b) (all_keys-view is_so es)

-- a key that isn't the first one is missing where it is missing among the others
other_missing : (key l : List ℕ) (d : Data) (ms : Members) (o : Ordering) → slice_cmp nat_cmp key l ≡ o → (key ≡ l → ⊥) → get_member key ms ≡ None
    → match_ordering o (get_member key ms) (Some d) (get_member key ms) ≡ None
other_missing key l d ms o e other missing = grind (arith, exact_bytes)

-- a key is missing where it isn't so, as each key of the table
pub unknown_missing : (is_so : List ℕ → Bool) (key : List ℕ) (ms : Members) → all_keys is_so ms ≡ true → is_so key ≡ false → get_member key ms ≡ None
unknown_missing is_so key no_members all unknown = refl
unknown_missing is_so key (member l d ms) all unknown =
    let parts = both_true (is_so l) (all_keys is_so ms) all in
    let other : key ≡ l → ⊥ = λ same. false≢true (sym unknown ∙ ap is_so same ∙ parts.0) in
    other_missing key l d ms (slice_cmp nat_cmp key l) refl other (unknown_missing is_so key ms parts.1 unknown)
