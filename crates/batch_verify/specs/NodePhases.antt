-- private: the phases that the acts at nodes run.
use Rattle.std.specs.Prelude.{ℕ, List, [], ◌∷◌, ◌++◌, take, drop, Option, Some, None}
use Rattle.batch_recipe.specs.ActsAtNodes.{ActList}
use Rattle.batch_recipe.specs.Conditions.{Name}
use Rattle.batch_recipe.specs.declared.act.Act.{Act}
use Rattle.batch_recipe.specs.declared.act.Work.{Work}
use Rattle.batch_recipe.specs.declared.act.Work.TheVariants.{Follows, Runs}

-- the phase that the work runs itself, if it runs one
abbrev pub phase_run : Work → List Name
phase_run (Follows chart) = []
phase_run (Runs phase values reports) = phase ∷ []

-- that of the act at a node
abbrev pub phase_at : Option Act → List Name
phase_at None = []
phase_at (Some a) = phase_run a.work

-- those of the acts at nodes, in their order
abbrev pub phases_along : ActList → List Name
phases_along [] = []
phases_along (a ∷ acts) = phase_at a ++ phases_along acts

-- those of the acts at the nodes from one number to another
abbrev pub phases_between : ActList → ℕ → ℕ → List Name
phases_between acts first end = phases_along (drop first (take end acts))
