-- The text of a recipe's node.
use Rattle.std.proofs.Common.{◌≡◌, ℕ, ◌++◌, List, Some, Result, IfOk, codes, slice_get}
use Rattle.batch_recipe.specs.declared.recipe.Recipe.{Recipe}
use Rattle.batch_verdicts.specs.VerdictTexts.{node_text, place_text_at}

-- by the numbers of the recipe and the node
pub node_told : {A E : Type 0} (bytes : A → List ℕ) (rs : List Recipe) (recipe node : ℕ) (r : Recipe) (o : Result A E) → slice_get rs recipe ≡ Some r
    → IfOk o (λ text. bytes text ≡ r.acts.procedure.name ++ (codes " " ++ place_text_at r node)) → IfOk o (λ text. bytes text ≡ node_text rs recipe node)
node_told bytes rs recipe node r o at is = rw at is
