-- private: the needs of acts by number.
use Rattle.std.specs.Prelude.{◌≡◌, ℕ, List, [], ◌∷◌, length, map, Bool, nat_le, nat_lt, if◌then◌else◌, Option, Some, None, Result, Ok, Err, position, MatchResult}
use Rattle.std.specs.List.{slice_index_or}
use Rattle.std.specs.Option.{is_some}
use Rattle.batch_cell.specs.LookUps.{capacities_of, resources_of, units_of}
use Rattle.batch_cell.specs.declared.cell.Cell as equipment
use Rattle.batch_recipe.specs.Conditions.{same_name}
use Rattle.batch_recipe.specs.declared.act.UnitChoice.{UnitChoice}
use Rattle.batch_recipe.specs.declared.need.Need.{Need}
use Rattle.batch_set.specs.declared.linked.LinkedNeed.{LinkedNeed}
use Rattle.batch_set.specs.declared.linked.Source.{Source}
use Rattle.batch_set.specs.declared.linked.Source.TheVariants.{Resource, Role, Unknown}
use Rattle.batch_verify.specs.Walking.{Rises, known_unit, last_rank}
use Rattle.batch_verify.specs.declared.rule.Rule.{Rule}
use Rattle.batch_verify.specs.declared.rule.Rule.TheVariants.{RankNotRising, UnknownResource}
use Rattle.batch_verify.specs.declared.site.Site as site

-- a number, if it is one of the first so many
abbrev pub among_first : ℕ → Option ℕ → Option ℕ
among_first count None = None
among_first count (Some number) = if nat_lt number count then Some number else None

-- the number of a source's resource, where these take the roles
abbrev pub number_by : List (Option ℕ) → Source → Option ℕ
number_by takers (Resource number) = Some number
number_by takers (Role role) = slice_index_or takers role None
number_by takers Unknown = None

-- the resource that is asked for, if it is one, and how many units of it
abbrev pub Ask : Type 0
Ask = Option ℕ × ℕ

abbrev pub ask_by : equipment.Cell → List (Option ℕ) → LinkedNeed → Ask
ask_by c takers need = (among_first (length (resources_of c)) (number_by takers need.source), need.units)

abbrev pub asks_by : equipment.Cell → List (Option ℕ) → List LinkedNeed → List Ask
asks_by c takers needs = map (ask_by c takers) needs

-- the same of needs by name
abbrev pub ask_of : equipment.Cell → Need → Ask
ask_of c need = (position (same_name need.resource) (resources_of c), need.units)

abbrev pub asks_of : equipment.Cell → List Need → List Ask
asks_of c needs = map (ask_of c) needs

-- it is of a resource
abbrev pub is_found : Ask → Bool
is_found ask = is_some ask.0

-- and of no more units than this has
abbrev pub is_fitting : equipment.Cell → Ask → Bool
is_fitting c ask = nat_le ask.1 (elim ask.0 [ None ↦ 0 | Some number ↦ slice_index_or (capacities_of c) number 0 ])

-- the rank of a resource by number
abbrev pub rank_by : List ℕ → Option ℕ → ℕ
rank_by ranks number = elim number [ None ↦ 0 | Some number ↦ slice_index_or ranks number 0 ]

abbrev pub ranks_asked : List ℕ → List Ask → List ℕ
ranks_asked ranks asks = map (λ ask. rank_by ranks ask.0) asks

-- the same, if there are ranks
abbrev pub ranks_along : Option (List ℕ) → List Ask → List ℕ
ranks_along None asks = []
ranks_along (Some ranks) asks = ranks_asked ranks asks

-- the ranks rise from above the last one to the one that is given, or don't
abbrev pub IsRise : Option ℕ → List ℕ → Result (Option ℕ) Rule → Type 0
IsRise last ranks r =
    MatchResult r (λ next. Rises last ranks × (next ≡ last_rank last ranks)) (λ rule. (rule ≡ RankNotRising) × ¬ (Rises last ranks))

-- the number of an act's own unit, the first that it asks for
abbrev pub own_unit : equipment.Cell → List Ask → Result (Option ℕ) Rule
own_unit c [] = Err UnknownResource
own_unit c (ask ∷ asks) = known_unit (among_first (length (units_of c)) ask.0)

-- the number of the unit below an act with this unit
abbrev pub unit_by : equipment.Cell → Option UnitChoice → List Ask → Option ℕ → Result (Option ℕ) Rule
unit_by c None asks number = Ok number
unit_by c (Some choice) asks number = own_unit c asks

-- the asks at a node
abbrev pub asks_on : site.Site → List LinkedNeed → List Ask
asks_on s needs = asks_by s.cell.now s.takers.now needs
