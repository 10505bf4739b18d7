-- surface: ranks rise along the path of each node exactly where they rise on the way down.
use Rattle.std.specs.Prelude.{◌↔◌, ℕ, suc, ◌<◌, List, [], ◌∷◌, ⊤}
use Rattle.batch_recipe.specs.Conditions.{Name}
use Rattle.batch_recipe.specs.Nodes.{nodes}
use Rattle.batch_recipe.specs.Tree.{Place, Tree, act, skip, seq, par, sel, loop, Task, runs, follows, Trees, no_trees, tree, Choices, otherwise, choice}
use Rattle.batch_recipe.specs.Needs.{resources_needed}
use Rattle.batch_model.specs.Lists.{Each}
use Rattle.batch_model.specs.Cleared.{Ranking, RiseStrictly}

-- the ranks of the names rise strictly, from above low
abbrev pub RanksRiseAbove : Ranking → ℕ → List Name → Type 0
RanksRiseAbove rank low [] = ⊤
RanksRiseAbove rank low (resource ∷ more) = (low < rank resource) × RanksRiseAbove rank (rank resource) more

-- the rank of the last of the names, or low where there are none
abbrev pub last_rank : Ranking → ℕ → List Name → ℕ
last_rank rank low [] = low
last_rank rank low (resource ∷ more) = last_rank rank (rank resource) more

abbrev mutual
  -- along every path down, the needs have strictly rising ranks, from above low
  pub RisesDown : Ranking → ℕ → Tree → Type 0
  RisesDown rank low (act step task) =
      RanksRiseAbove rank low (resources_needed step.needs) × RisesBelow rank (last_rank rank low (resources_needed step.needs)) task
  RisesDown rank low skip = ⊤
  RisesDown rank low (seq charts) = RiseDown rank low charts
  RisesDown rank low (par charts) = RiseDown rank low charts
  RisesDown rank low (sel choices) = ChoicesRiseDown rank low choices
  RisesDown rank low (loop turns until body) = RisesDown rank low body

  pub RisesBelow : Ranking → ℕ → Task → Type 0
  RisesBelow rank low (runs phase) = ⊤
  RisesBelow rank low (follows name chart) = RisesDown rank low chart

  pub RiseDown : Ranking → ℕ → Trees → Type 0
  RiseDown rank low no_trees = ⊤
  RiseDown rank low (tree chart charts) = RisesDown rank low chart × RiseDown rank low charts

  pub ChoicesRiseDown : Ranking → ℕ → Choices → Type 0
  ChoicesRiseDown rank low (otherwise chart) = RisesDown rank low chart
  ChoicesRiseDown rank low (choice condition chart choices) = RisesDown rank low chart × ChoicesRiseDown rank low choices

-- rank 0 is above none, so all ranks are seen one higher
abbrev pub WaysRise : Type 0
WaysRise =
    (rank : Ranking) (place : Place) (whole : Tree)
    → Each (λ node. RiseStrictly rank node.asked) (nodes place [] whole) ↔ RisesDown (λ resource. suc (rank resource)) 0 whole
