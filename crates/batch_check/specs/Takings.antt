-- private: the units that take roles, by the numbers of the candidates.
use Rattle.std.specs.Prelude.{◌≡◌, ℕ, ◌-◌, ltb, List, map, length, slice_get, Vec, true, false, Option, Some, None}
use Rattle.std.specs.Global.{Global}
use Rattle.std.specs.List.{slice_index_or}
use Rattle.batch_cell.specs.declared.cell.Cell.{Cell}
use Rattle.batch_recipe.specs.Conditions.{Name, same_name}
use Rattle.batch_recipe.specs.Expanding.{Binding}
use Rattle.batch_recipe.specs.declared.role.Role.{Role}
use Rattle.batch_verify.specs.Bindings.{numbered_binding}
use Rattle.batch_check.specs.Edges.{numbers_of_resources}

-- which candidate takes each role: its number, by the role's name
abbrev pub Taking : Type 0
Taking = Name → ℕ

-- the candidate with this number takes each role
abbrev pub alike : ℕ → Taking
alike number name = number

-- the one takes the role with this name, and the other each other role
abbrev pub apart : Name → ℕ → ℕ → Taking
apart role own other name = elim (same_name name role) [ true ↦ own | false ↦ other ]

abbrev pub bound_by : Cell → List Role → Taking → Binding
bound_by cell roles taking name = numbered_binding cell roles (taking name) name

-- the number of the unit that takes each role
abbrev pub units_by : Cell → List Role → Taking → List (Option ℕ)
units_by cell roles taking = numbers_of_resources cell (map (λ role. bound_by cell roles taking role.name) roles)

-- those of the candidates with each number below count
pub record AreUnitsOf (cell : Cell) (roles : List Role) (count : ℕ) (units : List (Vec (Option ℕ) Global)) : Type 0 where
  pub as_many : length units ≡ count
  pub each : (number : ℕ) (taken : Vec (Option ℕ) Global) → slice_get units number ≡ Some taken → taken.items ≡ units_by cell roles (alike number)

-- the resource for which a number stands, where these units take the roles: so many numbers are those of the resources, and those of the
-- roles come after them
abbrev pub resource_for : ℕ → List (Option ℕ) → ℕ → Option ℕ
resource_for count units number = elim (ltb number count) [ true ↦ Some number | false ↦ slice_index_or units (number - count) None ]
