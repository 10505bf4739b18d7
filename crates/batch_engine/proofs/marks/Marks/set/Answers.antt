use Rattle.std.proofs.Common.{◌∙◌, arith}
use Rattle.std.specs.{Int.bit_at, Prelude.◌/◌, Prelude.◌%◌, Prelude.slice_index}
use Rattle.batch_signs.proofs.Bits.{bit-some, with-one_same}
use Rattle.batch_engine.proofs.Summary.{summary-some}
use Rattle.batch_engine.proofs.marks.Marks.set.Goals as goal

pub invariant_of-self : goal.invariant_of-self
invariant_of-self c =
    summary-some c.self.inside.words c.self.inside.summary c.self.invariant (c.args.index / 64) c.with_bit.result (omega (arith, c.self.invariant.count, c.requires)) c.with_bit-self-inside.result c.with_bit-self-inside.ensures
    (bit-some c.with_bit.result (c.args.index % 64) (c.with_bit.ensures (c.args.index % 64) ∙ with-one_same (c.args.index % 64) (bit_at (slice_index c.self.inside.words (c.args.index / 64)))))
