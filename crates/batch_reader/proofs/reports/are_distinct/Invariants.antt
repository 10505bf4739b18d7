use Rattle.std.proofs.Common.{◌≡◌, drop}
use Rattle.batch_recipe.specs.WellFormed.{are_distinct}
use Rattle.batch_reader.proofs.reports.are_distinct.Given as goal

abbrev pub invariant-loop-index : goal.invariant-loop-index
invariant-loop-index l = are_distinct (drop l.index l.names) ≡ are_distinct l.names
