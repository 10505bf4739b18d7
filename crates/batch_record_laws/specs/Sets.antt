-- surface: sets of recipes for a cell, as they are read from documents.
use Rattle.std.specs.Prelude.{List}
use Rattle.batch_cell.specs.declared.cell.Cell as equipment
use Rattle.batch_recipe.specs.declared.recipe.Recipe as document
use Rattle.batch_model.specs.Setups.{setup_of}
use Rattle.batch_record_laws.specs.Premises.{IsOfDocuments}

-- the conditions of the laws beside clearance hold of any cell and recipes
abbrev pub SetsAreDocuments : Type 0
SetsAreDocuments = (cell : equipment.Cell) (recipes : List document.Recipe) → IsOfDocuments (setup_of cell recipes)
