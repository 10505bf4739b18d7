use Rattle.std.proofs.Common.{◌≡◌, take}
use Rattle.batch_recipe.specs.Values.{with_values}
use Rattle.batch_recipe.proofs.values.Values.set_outputs.Given as goal

abbrev pub invariant-loop-output : goal.invariant-loop-output
invariant-loop-output l = l.self ≡ with_values (take l.output-index l.outputs) l.initial.self
