-- trusted: the equipment of a cell: its units, equipment modules and shared resources.
use Rattle.std.specs.Prelude.{◌≡◌, ℕ, ◌+◌, List, [], ◌++◌, length, replicate, map, filter, flat_map, if◌then◌else◌, Some, None, Bool, true, false, nat_eq}
use Rattle.std.specs.Cmp.Lexicographic.{pointwise}
use Rattle.std.specs.List.{All, IsDistinct, list_any, list_all}
use Rattle.batch_cell.specs.declared.unit.Unit.{Unit}
use Rattle.batch_cell.specs.declared.module.Module.{Module}
use Rattle.batch_cell.specs.declared.shared.Shared.{Shared}

-- a free module belongs to no unit
abbrev pub is_free : Module → Bool
is_free m = elim m.unit [ None ↦ true | Some unit ↦ false ]

abbrev pub belongs_to : List ℕ → Module → Bool
belongs_to unit m = elim m.unit [ None ↦ false | Some own ↦ pointwise nat_eq own unit ]

abbrev pub unit_names : List Unit → List (List ℕ)
unit_names units = map (λ u. u.name) units

-- the names of a cell's resources, in order of their numbers
abbrev pub resource_names : List Unit → List Module → List Shared → List (List ℕ)
resource_names units modules shared = unit_names units ++ map (λ m. m.name) (filter is_free modules) ++ map (λ s. s.name) shared

-- how many units of capacity of each resource may be held at once: a unit and a free module have the capacity 1
abbrev pub capacities : List Unit → List Module → List Shared → List ℕ
capacities units modules shared = replicate (length units + length (filter is_free modules)) 1 ++ map (λ s. s.capacity) shared

-- all names that a cell declares
abbrev pub declared_names : List Unit → List Module → List Shared → List (List ℕ)
declared_names units modules shared = unit_names units ++ map (λ m. m.name) modules ++ map (λ s. s.name) shared

-- the names of units, modules and shared resources differ from one another
abbrev pub IsDeclaredOnce : List Unit → List Module → List Shared → Type 0
IsDeclaredOnce units modules shared = IsDistinct (pointwise nat_eq) (declared_names units modules shared)

-- the module is free, or its unit is one of these
abbrev pub has_declared_unit : List (List ℕ) → Module → Bool
has_declared_unit units m = elim m.unit [ None ↦ true | Some own ↦ list_any (pointwise nat_eq own) units ]

-- each module is free or belongs to a unit of the cell
abbrev pub HasDeclaredUnits : List Unit → List Module → Type 0
HasDeclaredUnits units modules = list_all (has_declared_unit (unit_names units)) modules ≡ true

-- the phases that a module lets the unit offer
abbrev pub phases_for : List ℕ → Module → List (List ℕ)
phases_for unit m = if belongs_to unit m then m.phases.items else []

-- the phases that a unit offers: those of its modules, in order of declaration
abbrev pub unit_phases : List Module → List ℕ → List (List ℕ)
unit_phases modules unit = flat_map (phases_for unit) modules

-- each phase name stands once in its unit
abbrev pub OffersPhasesOnce : List Unit → List Module → Type 0
OffersPhasesOnce units modules = All (λ u. IsDistinct (pointwise nat_eq) (unit_phases modules u.name)) units

-- for each unit the phases that it offers
abbrev pub offered_phases : List Unit → List Module → List (List (List ℕ))
offered_phases units modules = map (λ u. unit_phases modules u.name) units
