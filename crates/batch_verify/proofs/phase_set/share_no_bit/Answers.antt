use Rattle.std.proofs.lemmas.Bool.{eq-eqb, eqb-true}
use Rattle.batch_verify.proofs.PhaseBits.{no_common, none_common}
use Rattle.batch_verify.proofs.phase_set.share_no_bit.Goals as goal

pub returns-clause-none : goal.returns-clause-none
returns-clause-none c = λ zero k. none_common c.args.one c.args.other (eqb-true _ _ zero) k

pub returns-clause-all : goal.returns-clause-all
returns-clause-all c = λ none. eq-eqb _ _ (no_common c.args.one c.args.other c.ranges.one.fits none)
