use Rattle.std.proofs.Common.{◌≡◌, true, take}
use Rattle.std.specs.List.{list_all}
use Rattle.batch_recipe.specs.WellFormed.{is_work}
use Rattle.batch_reader.proofs.recipe_checks.check_table.Given as goal

-- the acts so far name nothing else
abbrev pub invariant-loop-entry : goal.invariant-loop-entry
invariant-loop-entry l = list_all (is_work l.labels.keys l.values.keys) (take l.entry l.table) ≡ true
