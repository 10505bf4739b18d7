use Rattle.std.proofs.Common.{◌≡◌, true, take}
use Rattle.std.specs.List.{list_all}
use Rattle.batch_recipe.specs.WellFormed.{act_names, reserves_among}
use Rattle.batch_reader.proofs.reserves.check_declared.Given as goal

-- the acts so far reserve nothing else
abbrev pub invariant-loop-entry : goal.invariant-loop-entry
invariant-loop-entry l = list_all (reserves_among (act_names l.units)) (take l.entry l.table) ≡ true
