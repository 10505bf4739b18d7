use Rattle.std.proofs.Common.{◌*◌, ◌+◌, subst, ℕ, List, arith, Some}
use Rattle.std.specs.Prelude.{◌/◌, slice_index}
use Rattle.batch_signs.specs.Bits.{IsLowestFrom}
use Rattle.batch_engine.{specs.Marks.IsNextMark, proofs.Summary.never, proofs.Summary.next-later}
use Rattle.batch_engine.proofs.marks.Marks.next.Goals as goal

pub returns-in_err-bit : goal.returns-in_err-bit
returns-in_err-bit c =
    absurd (never c.self.inside.words c.self.inside.summary c.self.invariant c.args.from (omega (arith, c.if-from-ge4096.false)) c.in_ok-later.later
    (subst (IsLowestFrom c.self.inside.summary (c.args.from / 64 + 1)) c.in_ok-later.was c.lowest_from-2.ensures)
    (subst (IsLowestFrom (slice_index c.self.inside.words c.in_ok-later.later) 0) c.in_err-bit.was c.lowest_from-3.ensures))

pub returns : goal.returns
returns c =
    subst (λ (ws : List ℕ). IsNextMark ws c.args.from (Some (c.in_ok-later.later * 64 + c.in_ok-bit.bit))) c.self.view_is
    (next-later c.self.inside.words c.self.inside.summary c.self.invariant c.args.from (omega (arith, c.if-from-ge4096.false)) c.in_ok-later.later c.in_ok-bit.bit
    c.in_default.ensures
    (subst (IsLowestFrom c.self.inside.summary (c.args.from / 64 + 1)) c.in_ok-later.was c.lowest_from-2.ensures)
    (subst (IsLowestFrom (slice_index c.self.inside.words c.in_ok-later.later) 0) c.in_ok-bit.was c.lowest_from-3.ensures))
