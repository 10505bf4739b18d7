use Rattle.std.proofs.Common.{◌≡◌, ◌≤◌, ℕ, Some, length, slice_get}
use Rattle.batch_recipe.specs.declared.recipe.Recipe.{Recipe}
use Rattle.batch_set.specs.{Linking.IsLinked, declared.linked.LinkedRecipe.LinkedRecipe}
use Rattle.batch_set.proofs.linked_set.link_recipes.Given as goal

-- the recipes so far are linked
abbrev pub invariant-loop-index : goal.invariant-loop-index
invariant-loop-index l =
    (length l.linked.items ≡ l.index)
    × ((k : ℕ) (x : LinkedRecipe) → slice_get l.linked.items k ≡ Some x → (r : Recipe) → slice_get l.recipes k ≡ Some r → IsLinked l.cell l.phases r x)
    × (l.index ≤ length l.recipes)
