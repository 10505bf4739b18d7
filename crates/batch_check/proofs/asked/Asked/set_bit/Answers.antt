use Rattle.std.proofs.Common.{◌∙◌, ◌/◌, arith, length-set}
use Rattle.batch_check.proofs.EdgeBits.{has_bit-set, has_bit-stays}
use Rattle.batch_check.proofs.asked.Asked.set_bit.Goals as goal

pub invariant_of-self : goal.invariant_of-self
invariant_of-self c =
    let s = c.args.self.now in
    record {
      sized = length-set s.numbers (c.args.number / 64) c.with_bit.result ∙ s.sized;
      noted = λ k among. has_bit-stays s.numbers c.args.number c.with_bit.result (omega (arith, c.requires, s.sized)) c.with_bit.ensures k (s.noted k among);
    }

pub returns-clause-noted : goal.returns-clause-noted
returns-clause-noted c = has_bit-set c.args.self.now.numbers c.args.number c.with_bit.result (omega (arith, c.requires, c.args.self.now.sized)) c.with_bit.ensures
