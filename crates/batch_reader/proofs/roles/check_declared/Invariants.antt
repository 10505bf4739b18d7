use Rattle.std.proofs.Common.{◌≡◌, true, take}
use Rattle.std.specs.List.{list_all}
use Rattle.batch_recipe.specs.WellFormed.{is_role_among}
use Rattle.batch_reader.proofs.roles.check_declared.Given as goal

-- the unit procedures so far have no other role
abbrev pub invariant-loop-entry : goal.invariant-loop-entry
invariant-loop-entry l = list_all (is_role_among l.roles.keys) (take l.entry l.unit_procedures) ≡ true
