use Rattle.std.proofs.Common.{◌≡◌, ◌++◌, length}
use Rattle.std.specs.Vec.Iter.{into_iter_items, into_iter_len}
use Rattle.batch_pipes.specs.{OutputEnds.IsHandedBack, Outputs.AreSettledBy}
use Rattle.batch_pipes.proofs.ending.settle_each.Given as goal

-- these are the outcomes of the outputs so far
abbrev pub invariant-loop-output : goal.invariant-loop-output
invariant-loop-output g l = record {
  left : l.yielded ++ into_iter_items l.output-iterator ≡ into_iter_items l.initial.output-iterator;
  count : into_iter_len l.output-iterator ≡ length (into_iter_items l.output-iterator);
  settled : AreSettledBy (IsHandedBack g.W.Write.contents g.P.Outputs.stands g.P.Outputs.hands_back) l.yielded l.all.items;
}
