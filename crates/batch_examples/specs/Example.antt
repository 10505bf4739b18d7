-- worked rows: a cell whose two recipes are cleared, though their batches can point at each other; and trees that no document has.
use Rattle.std.specs.Prelude.{ℕ, [], ◌∷◌}
use Rattle.batch_recipe.specs.Diagram.{label}
use Rattle.batch_model.specs.Cleared.{IsCleared}
use Rattle.batch_examples.specs.RowDocuments.{r1, name_a, make, charge, chart_act, procedure_of}
use Rattle.batch_examples.specs.RowsOfClearance.{charging, narrow, units_first}
use Rattle.batch_record_laws.specs.Premises.{IsOfDocuments}
use Rattle.batch_record_laws.specs.Procedures.{IsProcedure}

abbrev pub PremisesCanBeMet : Type 0
PremisesCanBeMet = IsOfDocuments narrow × IsCleared narrow units_first

-- a unit procedure that asks for so many units of R1
abbrev pub AsksForUnits : ℕ → Type 0
AsksForUnits units =
    IsProcedure (procedure_of (chart_act name_a [] (chart_act make (record { resource = r1; units = units } ∷ []) (charging ∷ []) (label charge) ∷ []) (label make)))

abbrev pub OneUnitIsAskedFor : Type 0
OneUnitIsAskedFor = AsksForUnits 1

abbrev pub NoUnitIsAskedFor : Type 0
NoUnitIsAskedFor = AsksForUnits 0 → ⊥

abbrev pub TwoUnitsAreAskedFor : Type 0
TwoUnitsAreAskedFor = AsksForUnits 2 → ⊥
