-- worked rows: which charts are dropped, by a recipe whose second node is its first operation.
use Rattle.std.specs.Prelude.{◌≡◌, List, [], ◌∷◌}
use Rattle.batch_recipe.specs.declared.act.Act.{Act}
use Rattle.batch_recipe.specs.declared.act.Work.TheVariants.{Follows}
use Rattle.batch_recipe.specs.declared.acts.LabelTable.TheVariants.{UnitProcedures, Operations}
use Rattle.batch_recipe.specs.declared.chart.Chart.TheVariants.{Skip}
use Rattle.batch_recipe.specs.declared.entry.Entry.{Entry}
use Rattle.batch_recipe.specs.declared.entry.Kind.TheVariants as kind
use Rattle.batch_outline.specs.Trimmed.{AreTrimmedActs, HasNode, IsTrimmedAct}

abbrev pub first_operation : List Entry
first_operation =
    record { kind = kind.Procedure; end = 2; parent = 0; child = 0; needs = 0; detail = 0 }
    ∷ record { kind = kind.Act Operations 0; end = 2; parent = 0; child = 0; needs = 0; detail = 0 } ∷ []

abbrev pub FirstHasNode : Type 0
FirstHasNode = HasNode first_operation Operations 0

abbrev pub SecondHasNone : Type 0
SecondHasNone = ¬ (HasNode first_operation Operations 1)

-- an act of the same number in another table
abbrev pub OtherTableHasNone : Type 0
OtherTableHasNone = ¬ (HasNode first_operation UnitProcedures 0)

abbrev pub ChartOfNodeStays : Type 0
ChartOfNodeStays = (whole trimmed : Act) → IsTrimmedAct first_operation Operations 0 whole trimmed → trimmed ≡ whole

abbrev pub OtherChartMayBeDropped : Type 0
OtherChartMayBeDropped =
    (whole trimmed : Act) → IsTrimmedAct first_operation Operations 1 whole trimmed → ¬ (trimmed ≡ whole) → trimmed.work ≡ Follows Skip

abbrev pub NameStays : Type 0
NameStays = (whole trimmed : Act) → IsTrimmedAct first_operation Operations 1 whole trimmed → trimmed.name ≡ whole.name

abbrev pub ActIsLeftOut : Type 0
ActIsLeftOut = (whole : Act) → ¬ (AreTrimmedActs first_operation Operations 1 (whole ∷ []) [])
