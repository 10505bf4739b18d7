-- Names of desks that differ, one after another.
use Rattle.std.proofs.Common.{◌≡◌, ℕ, ◌+◌, ◌<◌, true, false, List, [], ◌∷◌, ◌++◌, length, take, get_or, nat_eq, sym, ap, subst, ◌∙◌}
use Rattle.std.{proofs.lemmas.List.map-append, proofs.lemmas.List.take_more, proofs.lemmas.Map.Keys.IsDistinct-push, specs.Cmp.Lexicographic.pointwise, specs.Cmp.Lexicographic.nat_list_eq_equiv, specs.List.IsDistinct, specs.List.list_any}
use Rattle.batch_cell.proofs.DistinctNames.{IsDistinct-twice}
use Rattle.batch_reader.specs.{DeskNames.HaveDistinctNames, DeskNames.desk_names, declared.desk.Desk.Desk}

names_more : (desks : List Desk) (i : ℕ) (d : Desk) → i < length desks → d ≡ get_or desks i d → desk_names (take (i + 1) desks) ≡ desk_names (take i desks) ++ d.name ∷ []
names_more desks i d below is =
    ap desk_names (take_more desks i d below) ∙ map-append (λ (desk : Desk). desk.name) (take i desks) (get_or desks i d ∷ [])
    ∙ ap (λ (desk : Desk). desk_names (take i desks) ++ desk.name ∷ []) (sym is)

-- one more, whose name none before it has
pub distinct_more : (desks : List Desk) (i : ℕ) (d : Desk) → i < length desks → d ≡ get_or desks i d → HaveDistinctNames (take i desks)
    → false ≡ list_any (pointwise nat_eq d.name) (desk_names (take i desks)) → HaveDistinctNames (take (i + 1) desks)
distinct_more desks i d below is distinct other =
    let P : List (List ℕ) → Type 0 = λ names. IsDistinct (pointwise nat_eq) names in
    subst P (sym (names_more desks i d below is)) (IsDistinct-push nat_list_eq_equiv (desk_names (take i desks)) d.name distinct (sym other))

-- and one whose name one before it has
pub distinct_no_more : (desks : List Desk) (i : ℕ) (d : Desk) → i < length desks → d ≡ get_or desks i d
    → true ≡ list_any (pointwise nat_eq d.name) (desk_names (take i desks)) → HaveDistinctNames (take (i + 1) desks) → ⊥
distinct_no_more desks i d below is same distinct =
    let P : List (List ℕ) → Type 0 = λ names. IsDistinct (pointwise nat_eq) names in
    IsDistinct-twice nat_list_eq_equiv (desk_names (take i desks)) d.name (sym same) (subst P (names_more desks i d below is) distinct)
