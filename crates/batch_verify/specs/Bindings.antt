-- trusted: the bindings by which all candidates of all roles are tried, one for each number.
use Rattle.std.specs.Prelude.{ℕ, List, [], ◌∷◌, ◌++◌, map, max, length, find, position, slice_get, Option, Some, None}
use Rattle.batch_cell.specs.LookUps.{resources_of, units_of_class}
use Rattle.batch_cell.specs.declared.cell.Cell as equipment
use Rattle.batch_recipe.specs.Conditions.{Name, same_name}
use Rattle.batch_recipe.specs.Expanding.{Binding}
use Rattle.batch_recipe.specs.declared.role.Role.{Role}

-- a name that none of these is, since it is longer
abbrev pub nobody : List Name → Name
nobody [] = 0 ∷ []
nobody (name ∷ names) = name ++ nobody names

-- the candidate with this number, or the first one where they are fewer
abbrev pub candidate_of : {X : Type 0} → List X → ℕ → Option X
candidate_of candidates number = elim (slice_get candidates number) [ None ↦ slice_get candidates 0 | Some unit ↦ Some unit ]

-- the role with this name
abbrev pub role_named : List Role → Name → Option Role
role_named roles name = find (λ role. same_name role.name name) roles

-- the unit that takes a role in the binding with this number
abbrev pub taking : equipment.Cell → List Role → ℕ → Name → Option Name
taking cell roles number name =
    elim (role_named roles name) [ None ↦ None | Some role ↦ candidate_of (units_of_class cell role.class) number ]

-- the binding with this number: each role's candidate with this number takes it, and nobody where no unit is one
abbrev pub numbered_binding : equipment.Cell → List Role → ℕ → Binding
numbered_binding cell roles number name = elim (taking cell roles number name) [ None ↦ nobody (resources_of cell) | Some unit ↦ unit ]

-- so many bindings that each candidate of each role takes it in one of them, one at least
abbrev pub binding_count : equipment.Cell → List Role → ℕ
binding_count cell [] = 1
binding_count cell (role ∷ roles) = max (length (units_of_class cell role.class)) (binding_count cell roles)

-- the number of the unit that takes each role
abbrev pub takers_of : equipment.Cell → Binding → List Role → List (Option ℕ)
takers_of cell bound roles = map (λ role. position (same_name (bound role.name)) (resources_of cell)) roles
