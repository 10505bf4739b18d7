-- The resources of a cell: how many there are, and their capacities.
use Rattle.std.proofs.Common.{◌≡◌, ℕ, ◌+◌, ◌-◌, ◌<◌, ◌≤◌, Bool, List, ◌++◌, length, map, filter, get_or, replicate, slice_index, position, Some, None, sym, ◌∙◌, ap, arith}
use Rattle.std.proofs.lemmas.List.{append_assoc, length-append, length-map, get_or-map, get_or_append_left, get_or-append_right, length-replicate, get_or-replicate, Sums.length-filter, Sums.count_by-le-length}
use Rattle.batch_cell.{proofs.Positions.position_within_front, proofs.Positions.position_past_front, proofs.Positions.position_nowhere, specs.Equipment.is_free, specs.Equipment.unit_names, specs.Equipment.resource_names, specs.Equipment.capacities, specs.declared.unit.Unit.Unit, specs.declared.module.Module.Module, specs.declared.shared.Shared.Shared}

length-filter-le : {X : Type 0} (p : X → Bool) (xs : List X) → length (filter p xs) ≤ length xs
length-filter-le p xs = omega (arith, length-filter p xs, count_by-le-length p xs)

pub length-resource_names : (units : List Unit) (modules : List Module) (shared : List Shared)
    → length (resource_names units modules shared) ≡ length units + length (filter is_free modules) + length shared
length-resource_names units modules shared = simp (length-append, length-map)

-- there are no more resources than units, modules and shared resources
pub few_resources : (units : List Unit) (modules : List Module) (shared : List Shared)
    → length (resource_names units modules shared) ≤ length units + length modules + length shared
few_resources units modules shared = omega (arith, length-resource_names units modules shared, length-filter-le is_free modules)

-- the units and the free modules have one user at a time
pub capacity_of_equipment : (units : List Unit) (modules : List Module) (shared : List Shared) (i n : ℕ)
    → n ≡ length (resource_names units modules shared) → i < n - length shared → slice_index (capacities units modules shared) i ≡ 1
capacity_of_equipment units modules shared i n all below =
    let count : ℕ = length units + length (filter is_free modules) in
    let before : i < count = omega (arith, length-resource_names units modules shared) in
    let one : ℕ = 1 in
    let inside : i < length (replicate count one) = omega (arith, length-replicate count one) in
    get_or_append_left _ _ 0 i inside ∙ get_or-replicate count i one 0 before

-- the shared resources come last
pub capacity_of_shared : (units : List Unit) (modules : List Module) (shared : List Shared) (i n : ℕ) (d : Shared)
    → n ≡ length (resource_names units modules shared) → n - length shared ≤ i → i < n
    → slice_index (capacities units modules shared) i ≡ (get_or shared (i - (n - length shared)) d).capacity
capacity_of_shared units modules shared i n d all past below =
    let capacity : Shared → ℕ = λ s. s.capacity in
    let count : ℕ = length units + length (filter is_free modules) in
    let front : n - length shared ≡ count = omega (arith, length-resource_names units modules shared) in
    let inside : i - (n - length shared) < length shared = omega (arith, length-resource_names units modules shared) in
    let one : ℕ = 1 in
    get_or-append_right (replicate count one) (map capacity shared) (n - length shared) i 0 (length-replicate count one ∙ sym front) past
    ∙ get_or-map capacity shared (i - (n - length shared)) d 0 inside

-- the units come first, so a unit has one number as a unit and as a resource
units_first : (units : List Unit) (modules : List Module) (shared : List Shared)
    → resource_names units modules shared ≡ unit_names units ++ (map (λ m. m.name) (filter is_free modules) ++ map (λ s. s.name) shared)
units_first units modules shared =
    append_assoc (unit_names units) (map (λ m. m.name) (filter is_free modules)) (map (λ s. s.name) shared)

pub resource_is_unit : (p : List ℕ → Bool) (units : List Unit) (modules : List Module) (shared : List Shared) (i : ℕ)
    → position p (resource_names units modules shared) ≡ Some i → i < length units → position p (unit_names units) ≡ Some i
resource_is_unit p units modules shared i found below =
    let name : Unit → List ℕ = λ u. u.name in
    position_within_front p _ _ i (ap (position p) (sym (units_first units modules shared)) ∙ found) (omega (arith, length-map units name))

pub resource_is_no_unit : (p : List ℕ → Bool) (units : List Unit) (modules : List Module) (shared : List Shared) (i : ℕ)
    → position p (resource_names units modules shared) ≡ Some i → length units ≤ i → position p (unit_names units) ≡ None
resource_is_no_unit p units modules shared i found past =
    let name : Unit → List ℕ = λ u. u.name in
    position_past_front p _ _ i (ap (position p) (sym (units_first units modules shared)) ∙ found) (omega (arith, length-map units name))

pub no_resource_no_unit : (p : List ℕ → Bool) (units : List Unit) (modules : List Module) (shared : List Shared)
    → position p (resource_names units modules shared) ≡ None → position p (unit_names units) ≡ None
no_resource_no_unit p units modules shared none =
    position_nowhere p _ _ (ap (position p) (sym (units_first units modules shared)) ∙ none)
