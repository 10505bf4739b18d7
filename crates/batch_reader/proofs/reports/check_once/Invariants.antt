use Rattle.std.proofs.Common.{◌≡◌, true, take}
use Rattle.std.specs.List.{list_all}
use Rattle.batch_recipe.specs.WellFormed.{reports_once}
use Rattle.batch_reader.proofs.reports.check_once.Given as goal

-- the phase steps so far report no output twice
abbrev pub invariant-loop-entry : goal.invariant-loop-entry
invariant-loop-entry l = list_all reports_once (take l.entry l.phases) ≡ true
