-- private: the numbers of the phases that acts run.
use Rattle.std.specs.Prelude.{ℕ, List, Option, None, option_and_then, option_map}
use Rattle.batch_recipe.specs.declared.acts.LabelTable.TheVariants.{Phases}
use Rattle.batch_recipe.specs.declared.entry.Kind.{Kind}
use Rattle.batch_recipe.specs.declared.entry.Kind.TheVariants.{Act}
use Rattle.batch_set.specs.Looked.{number_for, phase_on, unit_procedure_source}
use Rattle.batch_set.specs.declared.cell_phases.CellPhases.{CellPhases}
use Rattle.batch_set.specs.declared.linked.LinkedRecipe.{LinkedRecipe}
use Rattle.batch_engine.specs.declared.phase_number.PhaseNumber.{PhaseNumber}

-- the phase that the act of this kind runs under a unit procedure, if the units with these numbers take the roles
abbrev pub phase_by : LinkedRecipe → CellPhases → List ℕ → ℕ → Kind → Option PhaseNumber
phase_by linked phases units unit_procedure (Act Phases step) =
    option_and_then (λ unit. option_map (λ phase. record { unit = unit; phase = phase }) (phase_on linked phases step unit)) (number_for units (unit_procedure_source linked unit_procedure))
phase_by linked phases units unit_procedure _ = None
