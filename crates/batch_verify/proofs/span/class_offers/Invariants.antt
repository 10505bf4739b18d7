use Rattle.std.proofs.Common.{◌≡◌, ◌<◌, ℕ, Some, slice_get, true}
use Rattle.batch_cell.specs.{LookUps.is_of_class, declared.unit.Unit.Unit}
use Rattle.batch_verify.specs.Walking.{offers_on}
use Rattle.batch_verify.proofs.span.class_offers.Given as goal

-- the units so far
abbrev pub invariant-loop-number : goal.invariant-loop-number
invariant-loop-number l =
    (k : ℕ) (unit : Unit) → k < l.number → slice_get l.cell.units.items k ≡ Some unit → is_of_class l.class unit ≡ true → offers_on l.cell (Some k) l.phase ≡ true
