use Rattle.std.proofs.Common.{nat_lt, refl}
use Rattle.batch_verify.proofs.PhaseBits.{joined_has}
use Rattle.batch_verify.proofs.phase_set.PhaseSet.joined.Goals as goal

pub returns : goal.returns
returns c = λ k. joined_has (nat_lt k 128) c.args.self c.args.other _ refl refl k
