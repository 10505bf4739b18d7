-- private: signs that go with the stages.
use Rattle.std.specs.Prelude.{◌≡◌, ℕ, List, length}
use Rattle.batch_recipe.specs.declared.entry.Entry.{Entry}
use Rattle.batch_recipe.specs.declared.recipe.Recipe.{Recipe}
use Rattle.batch_chart.specs.declared.stage.Stage.{Stage}
use Rattle.batch_chart.specs.Neat.{AreNeat}

-- there are as many as before, and they go by the stages if they did before
pub record IsKeptUp (ns : List Entry) (doc : Recipe) (xs ys : List Stage) (old new : List ℕ) : Type 0 where
  pub count : length new ≡ length old
  pub keeps : AreNeat ns doc 0 (length ns) xs old → AreNeat ns doc 0 (length ns) ys new
