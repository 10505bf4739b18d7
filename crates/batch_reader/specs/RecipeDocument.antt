-- trusted: the meaning of a recipe document.
use Rattle.std.specs.Prelude.{◌≡◌, ℕ, true, List, codes}
use Rattle.toml.specs.Data.{Members}
use Rattle.batch_recipe.specs.declared.acts.Acts.{Acts}
use Rattle.batch_recipe.specs.declared.recipe.Recipe.{Recipe}
use Rattle.batch_recipe.specs.declared.scaling.TheConstants.{MAX_SIZE}
use Rattle.batch_reader.specs.Entries.{IsDocument, HasName, HasNumber, HasTable, HasTables}
use Rattle.batch_reader.specs.Keys.{has_known_keys}
use Rattle.batch_reader.specs.RecipeTables.{HasHeader, IsQuantityTable, IsOutputTable, IsRoleTable, IsProcedureTable, IsUnitProcedureTable, IsOperationTable, IsPhaseTable}
use Rattle.batch_reader.specs.SoundRecipe.{IsSoundRecipe}
use Rattle.batch_reader.specs.declared.fault.TableKind.TheVariants as table_kind

-- the document has the acts; the recipe's name is that of its procedure
pub record HasActs (ms : Members) (acts : Acts) : Type 0 where
  pub name : HasName (codes "recipe") ms acts.procedure.name
  pub procedure : HasTable IsProcedureTable (codes "procedure") ms acts.procedure
  pub unit_procedures : HasTables IsUnitProcedureTable (codes "unit_procedure") ms acts.unit_procedures.items
  pub operations : HasTables IsOperationTable (codes "operation") ms acts.operations.items
  pub phases : HasTables IsPhaseTable (codes "phase") ms acts.phases.items

-- the table of a whole document stands for the recipe
pub record IsRecipeTable (ms : Members) (recipe : Recipe) : Type 0 where
  pub keys : has_known_keys table_kind.Recipe ms ≡ true
  pub header : HasHeader ms recipe.header
  pub basis : HasNumber (codes "basis") ms 1 MAX_SIZE recipe.basis
  pub inputs : HasTables IsQuantityTable (codes "input") ms recipe.inputs.items
  pub parameters : HasTables IsQuantityTable (codes "parameter") ms recipe.parameters.items
  pub outputs : HasTables IsOutputTable (codes "output") ms recipe.outputs.items
  pub roles : HasTables IsRoleTable (codes "role") ms recipe.roles.items
  pub acts : HasActs ms recipe.acts
  pub sound : IsSoundRecipe recipe.inputs.items recipe.parameters.items recipe.outputs.items recipe.roles.items recipe.acts

-- the bytes are a document that stands for the recipe
abbrev pub IsRecipeDocument : List ℕ → Recipe → Type 0
IsRecipeDocument bytes recipe = IsDocument IsRecipeTable bytes recipe
