-- Each of a cell's resources by name and by number.
use Rattle.std.proofs.Common.{◌≡◌, ℕ, ◌<◌, length, get_or, slice_get, position, true, false, nat_lt, [], Some, refl, sym, ap, ◌∙◌, arith, lt-ltb}
use Rattle.std.{specs.List.position_or_len, specs.Cmp.Lexicographic.bytes_decides, proofs.lemmas.List.Sums.position_or_len_is, proofs.lemmas.Map.Keys.apart_from_distinct, proofs.lemmas.Option.get_or_from_slice_get, proofs.lemmas.Option.slice_get_within}
use Rattle.batch_cell.{specs.LookUps.resources_of, proofs.ResourceNames.resources_once}
use Rattle.batch_cell.specs.declared.cell.Cell as equipment
use Rattle.batch_recipe.specs.Conditions.{Name, same_name}
use Rattle.batch_set.proofs.DeclaredRoles.{same_name_sym}

-- the name with this number stands at it alone
pub number-own : (c : equipment.Cell) (k : ℕ) → k < length (resources_of c) → position (same_name (get_or (resources_of c) k [])) (resources_of c) ≡ Some k
number-own c k within =
    let names = resources_of c in
    let once = resources_once c.units.items c.modules.items c.shared.items c.declared_once in
    let first : position_or_len (same_name (get_or names k [])) names ≡ k =
    position_or_len_is (same_name (get_or names k [])) names k [] (omega (arith, within))
    (λ j before. same_name_sym (get_or names j []) (get_or names k []) false (apart_from_distinct same_name names j k [] once before within))
    (λ _. (bytes_decides (get_or names k []) (get_or names k [])).1 refl) in
    let inside : nat_lt k (length names) ≡ true = lt-ltb k (length names) within in
    rw first (rw inside refl)

pub number-at : (c : equipment.Cell) (k : ℕ) (name : Name) → slice_get (resources_of c) k ≡ Some name → position (same_name name) (resources_of c) ≡ Some k
number-at c k name at =
    ap (λ (n : Name). position (same_name n) (resources_of c)) (sym (get_or_from_slice_get (resources_of c) k name [] at)) ∙ number-own c k (slice_get_within (resources_of c) k name at)
