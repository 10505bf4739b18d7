-- trusted: the words of warnings.
use Rattle.std.specs.Prelude.{ℕ, List, [], ◌++◌, codes, decimal, slice_get, unwrap_or, option_map}
use Rattle.batch_cell.specs.declared.cell.Cell.{Cell}
use Rattle.batch_cell.specs.declared.unit.Unit.{Unit}
use Rattle.batch_recipe.specs.Conditions.{Name}
use Rattle.batch_recipe.specs.Procedure.{table_at}
use Rattle.batch_recipe.specs.declared.act.Act.{Act}
use Rattle.batch_recipe.specs.declared.acts.LabelTable.{LabelTable}
use Rattle.batch_recipe.specs.declared.acts.LabelTable.TheVariants.{UnitProcedures, Operations, Phases}
use Rattle.batch_recipe.specs.declared.quantity.Quantity.{Quantity}
use Rattle.batch_recipe.specs.declared.recipe.Recipe.{Recipe}
use Rattle.batch_recipe.specs.declared.role.Role.{Role}
use Rattle.batch_messages.specs.Shown.{shown}
use Rattle.batch_warnings.specs.Warnings.{quantities_in}
use Rattle.batch_warnings.specs.declared.warning.QuantityTable.{QuantityTable}
use Rattle.batch_warnings.specs.declared.warning.QuantityTable.TheVariants.{Inputs, Parameters}
use Rattle.batch_warnings.specs.declared.warning.RecipeWarning.{RecipeWarning}
use Rattle.batch_warnings.specs.declared.warning.RecipeWarning.TheVariants.{UnnamedAct, ValueOutOfRange, UnreportedOutput, UnusedRole, ScaledParameter}

-- the words on the element with this number, if there is one
abbrev pub said_at : {X : Type 0} → (X → List ℕ) → List X → ℕ → List ℕ
said_at said xs number = unwrap_or (option_map said (slice_get xs number)) []

abbrev pub module_said : Unit → List ℕ
module_said u = codes "no module belongs to the unit " ++ (u.name ++ codes ", so it offers no phase")

abbrev pub kind_said : LabelTable → List ℕ
kind_said UnitProcedures = codes "unit procedure"
kind_said Operations = codes "operation"
kind_said Phases = codes "phase"

abbrev pub unnamed_said : LabelTable → Act → List ℕ
unnamed_said table a = codes "no chart names the " ++ (kind_said table ++ (codes " " ++ (a.name ++ codes ", so it never runs")))

abbrev pub value_said : QuantityTable → List ℕ
value_said Inputs = codes "the value of the input "
value_said Parameters = codes "the value of the parameter "

abbrev pub range_said : QuantityTable → ℕ → Quantity → List ℕ
range_said table basis q =
    value_said table ++ (q.name ++ (codes ", " ++ (decimal q.value ++ (codes ", lies outside its range, " ++ (decimal q.min ++ (codes " to " ++ (decimal q.max
    ++ (codes ", so no batch of the basis, " ++ (decimal basis ++ codes ", can be created")))))))))

abbrev pub output_said : Name → List ℕ
output_said name =
    codes "a condition names the output " ++ (name ++ codes ", and no phase `reports` it, so a `done` that leaves it out is taken, and it counts as 0")

abbrev pub role_said : Role → List ℕ
role_said role = codes "no unit procedure has the role " ++ role.name

abbrev pub scaled_said : Quantity → List ℕ
scaled_said q =
    codes "a phase is handed the parameter " ++ (q.name
    ++ codes ", which scales with the batch's size; a temperature or a time wants `fixed = true`")

abbrev pub warning_said : Recipe → RecipeWarning → List ℕ
warning_said r (UnnamedAct table act) = said_at (unnamed_said table) (table_at r.acts table) act
warning_said r (ValueOutOfRange table quantity) = said_at (range_said table r.basis) (quantities_in r table) quantity
warning_said r (UnreportedOutput output) = said_at output_said r.outputs.items output
warning_said r (UnusedRole role) = said_at role_said r.roles.items role
warning_said r (ScaledParameter parameter) = said_at scaled_said r.parameters.items parameter

-- a warning on the document at the path
abbrev pub warning_words : List ℕ → List ℕ → List ℕ
warning_words path said = shown (codes "warning: " ++ (path ++ (codes ": " ++ said)))

abbrev pub unit_warning : List ℕ → Cell → ℕ → List ℕ
unit_warning path cell unit = warning_words path (said_at module_said cell.units.items unit)

abbrev pub recipe_warning : List ℕ → Recipe → RecipeWarning → List ℕ
recipe_warning path r warning = warning_words path (warning_said r warning)
