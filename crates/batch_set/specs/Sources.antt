-- surface: the numbers of a linked recipe mean the same as its names.
use Rattle.std.specs.Prelude.{◌≡◌, ℕ, ◌<◌, List, [], ◌∷◌, Some, None, length, map, position, slice_get, ⊤}
use Rattle.batch_cell.specs.LookUps.{resources_of, units_of, units_of_class, phases_of}
use Rattle.batch_cell.specs.declared.cell.Cell.{Cell}
use Rattle.batch_recipe.specs.Conditions.{Name, same_name}
use Rattle.batch_recipe.specs.Expanding.{Binding, needs_with, unit_chosen}
use Rattle.batch_recipe.specs.Outlines.{act_of_kind}
use Rattle.batch_recipe.specs.Procedure.{sites}
use Rattle.batch_recipe.specs.declared.act.Act.{Act}
use Rattle.batch_recipe.specs.declared.act.UnitChoice.{UnitChoice}
use Rattle.batch_recipe.specs.declared.entry.Kind.{Kind}
use Rattle.batch_recipe.specs.declared.need.Need.{Need}
use Rattle.batch_recipe.specs.declared.recipe.Recipe as document
use Rattle.batch_recipe.specs.declared.role.Role as declared
use Rattle.batch_set.specs.Linking.{ArePhasesOf, IsLinked, run_phase}
use Rattle.batch_set.specs.Looked.{needs_by, phase_on, row_at, unit_procedure_source}
use Rattle.batch_set.specs.declared.cell_phases.CellPhases.{CellPhases}
use Rattle.batch_set.specs.declared.linked.LinkedNeed.{LinkedNeed}
use Rattle.batch_set.specs.declared.linked.LinkedRecipe.{LinkedRecipe}
use Rattle.batch_set.specs.declared.linked.Source.{Source}
use Rattle.batch_set.specs.declared.linked.Source.TheVariants.{Resource, Role, Unknown}

-- the source is the resource with this name, where the roles are bound; an unknown one is none of the cell
abbrev pub IsSource : Cell → List declared.Role → Binding → Source → Name → Type 0
IsSource cell roles bound (Resource number) name = slice_get (resources_of cell) number ≡ Some name
IsSource cell roles bound (Role number) name = (role : declared.Role) × (slice_get roles number ≡ Some role) × (bound role.name ≡ name)
IsSource cell roles bound Unknown name = position (same_name name) (resources_of cell) ≡ None

-- one after another, these are as many units of the same resources
abbrev pub SayNeeds : Cell → List declared.Role → Binding → List LinkedNeed → List Need → Type 0
SayNeeds cell roles bound [] [] = ⊤
SayNeeds cell roles bound (linked ∷ more) (need ∷ needs) = IsSource cell roles bound linked.source need.resource × (linked.units ≡ need.units) × SayNeeds cell roles bound more needs
SayNeeds cell roles bound _ _ = ⊥

-- the numbers of the needs of each act of a recipe mean the same as their names
abbrev pub NeedsSayNames : Type 0
NeedsSayNames =
    (cell : Cell) (phases : CellPhases) (recipe : document.Recipe) (linked : LinkedRecipe) → IsLinked cell phases recipe linked
    → (bound : Binding) (kind : Kind) (a : Act) → act_of_kind recipe.acts kind ≡ Some a
    → SayNeeds cell recipe.roles.items bound (needs_by linked kind) (needs_with (sites bound recipe.acts) a)

-- the source of each unit procedure is its unit
abbrev pub UnitsSayNames : Type 0
UnitsSayNames =
    (cell : Cell) (phases : CellPhases) (recipe : document.Recipe) (linked : LinkedRecipe) → IsLinked cell phases recipe linked
    → (bound : Binding) (k : ℕ) (a : Act) (choice : UnitChoice) → slice_get recipe.acts.unit_procedures.items k ≡ Some a → a.unit ≡ Some choice
    → IsSource cell recipe.roles.items bound (unit_procedure_source linked k) (unit_chosen bound choice)

-- the candidates of each role are the units of its class, one after another
abbrev pub CandidatesSayNames : Type 0
CandidatesSayNames =
    (cell : Cell) (phases : CellPhases) (recipe : document.Recipe) (linked : LinkedRecipe) → IsLinked cell phases recipe linked
    → (k : ℕ) (role : declared.Role) → slice_get recipe.roles.items k ≡ Some role
    → map (λ name. position (same_name name) (resources_of cell)) (units_of_class cell role.class) ≡ map (λ number. Some number) (row_at linked.candidates.items k)

-- the number of each phase step is that of its phase, on each unit that offers it
abbrev pub PhasesSayNames : Type 0
PhasesSayNames =
    (cell : Cell) (phases : CellPhases) → ArePhasesOf cell phases → (recipe : document.Recipe) (linked : LinkedRecipe) → IsLinked cell phases recipe linked
    → (step : ℕ) (a : Act) (phase : Name) → slice_get recipe.acts.phases.items step ≡ Some a → run_phase a.work ≡ Some phase
    → (unit number : ℕ) → unit < length (units_of cell) → position (same_name phase) (phases_of cell unit) ≡ Some number → phase_on linked phases step unit ≡ Some number
