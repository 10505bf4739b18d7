use Rattle.std.proofs.Common.{◌≡◌, filter, drop, slice_get}
use Rattle.batch_cell.specs.{Equipment.unit_names, LookUps.units_of_class, LookUps.is_of_class}
use Rattle.batch_cell.proofs.cell.Cell.candidate.Given as goal

-- the wanted unit has the index `left` among the remaining units of the class
abbrev pub invariant-loop-number : goal.invariant-loop-number
invariant-loop-number l =
    slice_get (units_of_class l.self l.class) l.index
    ≡ slice_get (unit_names (filter (is_of_class l.class) (drop l.number l.self.units.items))) l.left
