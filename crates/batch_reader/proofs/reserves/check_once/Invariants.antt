use Rattle.std.proofs.Common.{◌≡◌, true, take}
use Rattle.std.specs.List.{list_all}
use Rattle.batch_recipe.specs.WellFormed.{reserves_once}
use Rattle.batch_reader.proofs.reserves.check_once.Given as goal

-- the acts so far reserve nothing twice
abbrev pub invariant-loop-entry : goal.invariant-loop-entry
invariant-loop-entry l = list_all reserves_once (take l.entry l.table) ≡ true
