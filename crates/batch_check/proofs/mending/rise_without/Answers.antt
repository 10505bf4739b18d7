use Rattle.batch_verify.proofs.RecipesInSet.{set_length}
use Rattle.batch_check.proofs.mending.rise_without.Goals as goal

pub rise_along_others-requires : goal.rise_along_others-requires
rise_along_others-requires c = set_length c.args.cell.now c.args.recipes.now ((c.is_recipe_set.ensures c.args.cell.now).0 c.if-not-is_recipe_set.false)
