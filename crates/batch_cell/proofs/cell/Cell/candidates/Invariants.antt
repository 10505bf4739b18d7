use Rattle.std.proofs.Common.{◌≡◌, length, filter, take}
use Rattle.batch_cell.specs.LookUps.{is_of_class}
use Rattle.batch_cell.proofs.cell.Cell.candidates.Given as goal

abbrev pub invariant-loop-unit : goal.invariant-loop-unit
invariant-loop-unit l = l.count ≡ length (filter (is_of_class l.class) (take l.unit-index l.unit-items))
