use Rattle.std.proofs.Common.{nat_lt, refl, arith}
use Rattle.batch_verify.proofs.PhaseBits.{high_has, low_has}
use Rattle.batch_verify.proofs.phase_set.PhaseSet.of.Goals as goal

pub returns-then-number-lt128 : goal.returns-then-number-lt128
returns-then-number-lt128 c = λ k. low_has _ c.args.number c.if-number-lt128.true refl refl k (nat_lt k 128) refl

pub returns-else-number-lt128 : goal.returns-else-number-lt128
returns-else-number-lt128 c = λ k. high_has _ c.args.number c.if-number-lt128.false (omega (arith, c.ranges.number.fits)) refl refl k (nat_lt k 128) refl
