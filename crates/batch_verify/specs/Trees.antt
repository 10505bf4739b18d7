-- private: the facts that are known of the trees of a recipe.
use Rattle.std.specs.Prelude.{◌≡◌, map}
use Rattle.std.specs.Option.{ForSome}
use Rattle.batch_recipe.specs.Procedure.{procedure_nodes}
use Rattle.batch_recipe.specs.declared.recipe.Recipe.{Recipe}
use Rattle.batch_model.specs.Cleared.{surely_runs}
use Rattle.batch_verify.specs.PhaseSets.{AreKnownFrom}
use Rattle.batch_verify.specs.declared.trees.Trees.{Trees}

-- the phases of all trees, and which nodes surely run a phase, if they were found
pub record IsKnown (r : Recipe) (trees : Trees) : Type 0 where
  pub phases : ForSome trees.phases (λ all. AreKnownFrom r.acts all.items 0)
  pub runs : ForSome trees.runs (λ all. all.items ≡ map (λ x. surely_runs x.here) (procedure_nodes r.acts))
