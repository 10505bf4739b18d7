-- The conditions on documents beside clearance hold of every cell and all recipes.
use Rattle.std.proofs.Common.{List, [], ◌∷◌, map}
use Rattle.batch_cell.specs.declared.cell.Cell as equipment
use Rattle.batch_recipe.specs.Expanding.{Binding}
use Rattle.batch_recipe.specs.declared.recipe.Recipe as document
use Rattle.batch_model.{specs.Lists.Each, specs.Setups.master_of, proofs.ExclusiveUnits.unit_is_exclusive}
use Rattle.batch_record_laws.{specs.Procedures.IsProcedure, specs.Sets.SetsAreDocuments, proofs.Levels.recipes_are_procedures}

masters-are-procedures : (cell : equipment.Cell) (recipes : List document.Recipe)
    → Each (λ master. (bound : Binding) → IsProcedure (master.control bound).procedure) (map (master_of cell) recipes)
masters-are-procedures cell [] = tt
masters-are-procedures cell (recipe ∷ recipes) = (recipes_are_procedures recipe, masters-are-procedures cell recipes)

pub sets_are_documents : SetsAreDocuments
sets_are_documents cell recipes = record { exclusive = unit_is_exclusive cell; procedures = masters-are-procedures cell recipes }
