use Rattle.std.proofs.Common.{◌≡◌, drop}
use Rattle.batch_recipe.specs.Values.{are_outputs}
use Rattle.batch_recipe.proofs.values.are_outputs.Given as goal

abbrev pub invariant-loop-index : goal.invariant-loop-index
invariant-loop-index l = are_outputs l.names (drop l.index l.outputs) ≡ are_outputs l.names l.outputs
