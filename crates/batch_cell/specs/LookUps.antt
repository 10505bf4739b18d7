-- trusted: look-ups in a cell.
use Rattle.std.specs.Prelude.{ℕ, List, [], filter, Bool, false, Some, None, nat_eq}
use Rattle.std.specs.Cmp.Lexicographic.{pointwise}
use Rattle.std.specs.List.{slice_index_or}
use Rattle.batch_cell.specs.Equipment.{resource_names, capacities, unit_names, unit_phases}
use Rattle.batch_cell.specs.declared.cell.Cell.{Cell}
use Rattle.batch_cell.specs.declared.unit.Unit.{Unit}

-- the names of the units, in order of their numbers
abbrev pub units_of : Cell → List (List ℕ)
units_of c = unit_names c.units.items

-- the names of the resources, in order of their numbers
abbrev pub resources_of : Cell → List (List ℕ)
resources_of c = resource_names c.units.items c.modules.items c.shared.items

-- how many units of capacity of each resource may be held at once
abbrev pub capacities_of : Cell → List ℕ
capacities_of c = capacities c.units.items c.modules.items c.shared.items

-- the phases that the unit with this number offers, in order of their numbers
abbrev pub phases_of : Cell → ℕ → List (List ℕ)
phases_of c unit = unit_phases c.modules.items (slice_index_or (units_of c) unit [])

-- the unit is one of this class
abbrev pub is_of_class : List ℕ → Unit → Bool
is_of_class class unit = elim unit.class [ None ↦ false | Some own ↦ pointwise nat_eq class own ]

-- the units of a class, in order of declaration
abbrev pub units_of_class : Cell → List ℕ → List (List ℕ)
units_of_class c class = unit_names (filter (is_of_class class) c.units.items)
