-- The linked recipes of a set.
use Rattle.std.proofs.Common.{◌≡◌, ◌<◌, ℕ, List, length, get_or, refl, arith}
use Rattle.std.proofs.lemmas.Option.{slice_get_read}
use Rattle.batch_cell.specs.declared.cell.Cell.{Cell}
use Rattle.batch_recipe.specs.declared.recipe.Recipe.{Recipe}
use Rattle.batch_set.specs.{Linking.IsLinkedIn, Linking.IsLinkedSet, declared.linked.LinkedRecipe.LinkedRecipe, declared.linked_set.LinkedSet.LinkedSet}

-- each recipe of a linked set is linked
pub recipe_linked : (cell : Cell) (recipes : List Recipe) (set : LinkedSet) → IsLinkedSet cell recipes set → (k : ℕ) (recipe : Recipe) (own : LinkedRecipe) → k < length recipes
    → recipe ≡ get_or recipes k recipe → own ≡ get_or set.recipes.items k own → IsLinkedIn cell recipe own
recipe_linked cell recipes set h k recipe own within recipe_is own_is = (
  set.phases,
  h.linked.each k own (slice_get_read set.recipes.items (length set.recipes.items) k own refl (omega (arith, h.linked.count, within)) own_is) recipe (slice_get_read recipes (length recipes) k recipe refl within recipe_is),
)
