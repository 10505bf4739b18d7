use Rattle.std.proofs.Common.{◌*◌, arith}
use Rattle.batch_check.proofs.EdgeBits.{row_has_each}
use Rattle.batch_check.proofs.edge_set.EdgeSet.has_each.Goals as goal

pub returns : goal.returns
returns c = λ told earlier in_earlier among.
    let s = c.args.self.now in
    row_has_each s.count s.known.items s.edges.items c.args.asked.now.numbers earlier c.args.later (c.from-first.result * 7) s.few s.exact in_earlier c.requires (omega (arith, c.from-first.ensures))
    (λ k below. c.loop-word.invariant k (omega (arith, below, c.loop-word-test.false))) (c.args.asked.now.noted earlier among)
