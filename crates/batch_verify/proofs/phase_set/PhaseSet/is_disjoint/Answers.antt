use Rattle.std.proofs.Common.{◌≡◌, true, false, nat_lt, sym, ◌∙◌}
use Rattle.batch_verify.proofs.PhaseBits.{disjoint_has, high_shares, low_shares}
use Rattle.batch_verify.proofs.phase_set.PhaseSet.is_disjoint.Goals as goal

pub returns-then-share_no_bit : goal.returns-then-share_no_bit
returns-then-share_no_bit c = (
  λ none k. disjoint_has c.args.self c.args.other (c.share_no_bit.ensures.none c.if-share_no_bit.true) (c.share_no_bit-then-share_no_bit.ensures.none none) (nat_lt k 128) k,
  λ h. c.share_no_bit-then-share_no_bit.ensures.all (high_shares c.args.self c.args.other h),
)

pub returns-else-share_no_bit : goal.returns-else-share_no_bit
returns-else-share_no_bit c = (
  λ none. let bad : false ≡ true = sym c.if-share_no_bit.false ∙ none in absurd cc,
  λ h. c.share_no_bit.ensures.all (low_shares c.args.self c.args.other h),
)
