-- surface: look-ups in a linked recipe.
use Rattle.std.specs.Prelude.{ℕ, List, [], Option, Some, None, Vec, option_and_then, option_map, slice_get, unwrap_or}
use Rattle.std.specs.Global.{Global}
use Rattle.batch_recipe.specs.declared.acts.LabelTable.{LabelTable}
use Rattle.batch_recipe.specs.declared.acts.LabelTable.TheVariants.{UnitProcedures, Operations, Phases}
use Rattle.batch_recipe.specs.declared.entry.Kind.{Kind}
use Rattle.batch_recipe.specs.declared.entry.Kind.TheVariants as kind
use Rattle.batch_set.specs.declared.cell_phases.CellPhases.{CellPhases}
use Rattle.batch_set.specs.declared.linked.LinkedNeed.{LinkedNeed}
use Rattle.batch_set.specs.declared.linked.LinkedRecipe.{LinkedRecipe}
use Rattle.batch_set.specs.declared.linked.Source.{Source}
use Rattle.batch_set.specs.declared.linked.Source.TheVariants.{Resource, Role, Unknown}

-- the number of a resource, where the units with these numbers take the roles
abbrev pub number_for : List ℕ → Source → Option ℕ
number_for units (Resource number) = Some number
number_for units (Role role) = slice_get units role
number_for units Unknown = None

-- row k of a table
abbrev pub row_at : {X : Type 0} → List (Vec X Global) → ℕ → List X
row_at table k = unwrap_or (option_map (λ row. row.items) (slice_get table k)) []

abbrev pub rows_at : LinkedRecipe → LabelTable → List (Vec LinkedNeed Global)
rows_at linked UnitProcedures = linked.unit_procedures.items
rows_at linked Operations = linked.operations.items
rows_at linked Phases = linked.phases.items

-- the needs of the act of this kind
abbrev pub needs_by : LinkedRecipe → Kind → List LinkedNeed
needs_by linked kind.Procedure = linked.procedure.items
needs_by linked (kind.Act level number) = row_at (rows_at linked level) number
needs_by linked _ = []

-- the source of the first of the needs
abbrev pub first_source : List LinkedNeed → Source
first_source needs = unwrap_or (option_map (λ need. need.source) (slice_get needs 0)) Unknown

-- the source of the unit of a unit procedure
abbrev pub unit_procedure_source : LinkedRecipe → ℕ → Source
unit_procedure_source linked unit_procedure = first_source (needs_by linked (kind.Act UnitProcedures unit_procedure))

-- the number that the phase with this number has among those that the unit offers
abbrev pub offered_on : CellPhases → ℕ → ℕ → Option ℕ
offered_on phases phase unit = unwrap_or (slice_get (row_at phases.numbers.items phase) unit) None

-- the number that the phase of a phase step has there
abbrev pub phase_on : LinkedRecipe → CellPhases → ℕ → ℕ → Option ℕ
phase_on linked phases step unit = option_and_then (λ phase. offered_on phases phase unit) (unwrap_or (slice_get linked.runs.items step) None)
