use Rattle.std.proofs.Common.{◌≡◌, true, take}
use Rattle.std.specs.List.{list_all}
use Rattle.batch_recipe.specs.WellFormed.{reports_among}
use Rattle.batch_reader.proofs.reports.check_declared.Given as goal

-- the phase steps so far report no other output
abbrev pub invariant-loop-entry : goal.invariant-loop-entry
invariant-loop-entry l = list_all (reports_among l.outputs) (take l.entry l.phases) ≡ true
