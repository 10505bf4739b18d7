use Rattle.std.proofs.Common.{◌≡◌, take, map}
use Rattle.batch_recipe.{specs.Values.with_values, proofs.ValueUpdates.zero_of}
use Rattle.batch_recipe.proofs.values.Values.clear_outputs.Given as goal

abbrev pub invariant-loop-name : goal.invariant-loop-name
invariant-loop-name l = l.self ≡ with_values (take l.name-index (map zero_of l.names)) l.initial.self
