-- private: the units that take the roles of a recipe.
use Rattle.std.specs.Prelude.{◌≡◌, ◌<◌, ℕ, List, [], ◌∷◌, length, map, Bool, true, false, ◌&&◌, not, Option, Some, None, slice_get}
use Rattle.std.specs.List.{slice_index_or}
use Rattle.batch_cell.specs.LookUps.{units_of, units_of_class}
use Rattle.batch_cell.specs.declared.cell.Cell.{Cell}
use Rattle.batch_recipe.specs.Conditions.{Name}
use Rattle.batch_recipe.specs.WellFormed.{is_among}
use Rattle.batch_recipe.specs.declared.role.Role as document
use Rattle.batch_recipe.specs.declared.role.TheConstants.{MAX_ROLES}
use Rattle.batch_model.specs.Events.{bound_by, is_binding}
use Rattle.batch_model.specs.Lists.{Each}
use Rattle.batch_model.specs.Plant.{Role}

-- the roles of a recipe, as the machine's definitions have them
abbrev pub roles_in : Cell → List document.Role → List Role
roles_in cell roles = map (λ role. record { name = role.name; candidates = units_of_class cell role.class }) roles

-- no role is bound twice, and each pair is of one of the roles
abbrev pub are_of_roles : List Name → List (Name × Name) → Bool
are_of_roles names [] = true
are_of_roles names (pair ∷ pairs) = not (is_among (map (λ p. p.0) pairs) pair.0) && (is_among names pair.0 && are_of_roles names pairs)

-- the number of the unit with this name, if it is one of the class
abbrev pub IsTakenBy : Cell → Name → Name → Option ℕ → Type 0
IsTakenBy cell class name None = is_among (units_of_class cell class) name ≡ false
IsTakenBy cell class name (Some unit) = (is_among (units_of_class cell class) name ≡ true) × (slice_get (units_of cell) unit ≡ Some name)

-- the numbers of the units that the pairs give to the roles
pub record AreTaken (cell : Cell) (roles : List document.Role) (pairs : List (Name × Name)) (units : List ℕ) : Type 0 where
  pub binds : is_binding (roles_in cell roles) pairs ≡ true
  pub count : length units ≡ MAX_ROLES
  pub within : Each (λ unit. unit < length (units_of cell)) units
  pub each : (k : ℕ) (role : document.Role) → slice_get roles k ≡ Some role → slice_get (units_of cell) (slice_index_or units k 0) ≡ Some (bound_by pairs role.name)

abbrev pub IsBoundAs : Cell → List document.Role → List (Name × Name) → Option (List ℕ) → Type 0
IsBoundAs cell roles pairs None = is_binding (roles_in cell roles) pairs ≡ false
IsBoundAs cell roles pairs (Some units) = AreTaken cell roles pairs units
