-- trusted: the faults that the check of a set of recipes reports.
use Rattle.std.specs.Prelude.{◌≡◌, ℕ, List, take, Some, None, slice_get, ⊤}
use Rattle.batch_cell.specs.declared.cell.Cell as equipment
use Rattle.batch_recipe.specs.declared.recipe.Recipe as document
use Rattle.batch_model.specs.Lists.{Each}
use Rattle.batch_model.specs.Plant.{Master, Setup}
use Rattle.batch_model.specs.Setups.{setup_of}
use Rattle.batch_verify.specs.Refusals.{IsFirstBrokenBy, IsVerdictOn}
use Rattle.batch_verify.specs.Verifying.{IsRecipeSet}
use Rattle.batch_verify.specs.declared.rule.Broken.{Broken}
use Rattle.batch_check.specs.declared.fault.CheckFault.{CheckFault}
use Rattle.batch_check.specs.declared.fault.CheckFault.TheVariants.{Recipes, Recipe as in_recipe, Circle, Memory}
use Rattle.batch_check.specs.ByName.{BeginsWithLeastName}
use Rattle.batch_check.specs.Clearing.{StandsAsCircle}
use Rattle.batch_check.specs.Shortest.{IsShortest}

-- all nodes of the recipe meet the rules that don't speak of ranks, whatever units are tried for its roles
abbrev pub IsSoundMaster : Setup → Master → Type 0
IsSoundMaster setup master = IsVerdictOn setup None master None

-- recipe k is the first with a node that breaks one of those rules, and this is the first that does
pub record IsFirstUnsound (setup : Setup) (recipes : List Master) (k : ℕ) (broken : Broken) : Type 0 where
  pub recipe : Master
  pub found : slice_get recipes k ≡ Some recipe
  pub before : Each (IsSoundMaster setup) (take k recipes)
  pub first : IsFirstBrokenBy setup None recipe broken

-- the fault holds, and none that is checked before it does: first the names and the number of the recipes, then the recipes one
-- after another, then circles; want of memory says nothing
abbrev pub IsFault : equipment.Cell → List document.Recipe → CheckFault → Type 0
IsFault c recipes Recipes = ¬ (IsRecipeSet (setup_of c recipes).recipes)
IsFault c recipes (in_recipe k broken) =
    IsRecipeSet (setup_of c recipes).recipes × IsFirstUnsound (setup_of c recipes) (setup_of c recipes).recipes k broken
IsFault c recipes (Circle circle) =
    IsRecipeSet (setup_of c recipes).recipes × Each (IsSoundMaster (setup_of c recipes)) (setup_of c recipes).recipes
    × StandsAsCircle c recipes circle.items × BeginsWithLeastName c circle.items × IsShortest c recipes circle.items
IsFault c recipes Memory = ⊤

-- the recipes are no set, or memory was wanting
abbrev pub IsSetFault : equipment.Cell → List document.Recipe → CheckFault → Type 0
IsSetFault c recipes Recipes = ¬ (IsRecipeSet (setup_of c recipes).recipes)
IsSetFault c recipes Memory = ⊤
IsSetFault c recipes _ = ⊥
