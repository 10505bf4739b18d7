use Rattle.std.proofs.Common.{◌≡◌, false, drop}
use Rattle.batch_recipe.specs.Values.{have_output}
use Rattle.batch_recipe.proofs.values.position_from_end.Given as goal

-- no later value has the name
abbrev pub invariant-loop-position : goal.invariant-loop-position
invariant-loop-position l = have_output (drop l.position l.entries) l.name ≡ false
