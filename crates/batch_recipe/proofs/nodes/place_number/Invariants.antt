use Rattle.std.proofs.Common.{◌-◌}
use Rattle.batch_recipe.proofs.NodesAbove.{IsAbove}
use Rattle.batch_recipe.proofs.nodes.place_number.Given as goal

abbrev pub invariant-loop-step : goal.invariant-loop-step
invariant-loop-step l = IsAbove l.recipe l.node l.at (l._step - l.depth)
