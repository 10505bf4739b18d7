-- surface: stages that tell whether anything is left of their nodes.
use Rattle.std.specs.Prelude.{◌≡◌, ◌<◌, ◌≤◌, ℕ, List}
use Rattle.batch_recipe.specs.Tree.{Tree}
use Rattle.batch_model.specs.Rest.{is_done}
use Rattle.batch_model.specs.Settled.{IsAdvanced}
use Rattle.batch_recipe.specs.declared.entry.Entry.{Entry}
use Rattle.batch_recipe.specs.declared.recipe.Recipe.{Recipe}
use Rattle.batch_chart.specs.declared.stage.Stage.{Stage}
use Rattle.batch_chart.specs.Outlined.{Stands}
use Rattle.batch_chart.specs.Meaning.{meaning}
use Rattle.batch_chart.specs.Stages.{stage_at, is_finished}

-- the stage of the node tells whether anything is left of its tree, in which nothing is left to be reached
pub record TellsWhetherOver (c : Tree) (n : ℕ) (xs : List Stage) : Type 0 where
  pub finished : is_finished (stage_at xs n) ≡ is_done (meaning c n xs)
  pub advanced : IsAdvanced (meaning c n xs)

-- the stages of all nodes from n to m do, whether they are reached or not
abbrev pub AreTold : List Entry → Recipe → ℕ → ℕ → List Stage → Type 0
AreTold ns doc n m xs = (j : ℕ) (c : Tree) → n ≤ j → j < m → Stands ns doc j c → TellsWhetherOver c j xs
