use Rattle.std.proofs.Common.{◌≡◌, take, string_bytes}
use Rattle.batch_outline.specs.Showing.{shown_recipes}
use Rattle.batch_outline.proofs.showing.show_recipes.Given as goal

abbrev pub invariant-loop-recipe : goal.invariant-loop-recipe
invariant-loop-recipe l = string_bytes l.text ≡ shown_recipes (take l.recipe-index l.recipes)
