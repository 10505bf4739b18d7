use Rattle.std.proofs.Common.{◌≡◌, ◌<◌, ℕ, drop, length, get_or}
use Rattle.std.specs.Vec.Iter.{into_iter_items, into_iter_len}
use Rattle.batch_serve.specs.declared.rounds.Writer.{Writer}
use Rattle.batch_pipes.specs.{OutputEnds.IsHandedBack, Outputs.AreOutputsKept, Outputs.IsFinished, declared.output.Output.Output}
use Rattle.batch_pipes.proofs.ending.finish_each.Given as goal

-- the rings of the outputs so far have ended
abbrev pub invariant-loop-at : goal.invariant-loop-at
invariant-loop-at g l = record {
  kept : AreOutputsKept (IsHandedBack g.W.Write.contents g.P.Outputs.stands g.P.Outputs.hands_back) l.initial.outputs.items l.outputs.items (into_iter_items l.initial.writers);
  left : into_iter_items l.writers ≡ drop l.at (into_iter_items l.initial.writers);
  count : into_iter_len l.writers ≡ length (into_iter_items l.writers);
  finished : (k : ℕ) (o : Output _ _) (writer : Writer) → k < l.at → IsFinished (get_or l.outputs.items k o) (get_or (into_iter_items l.initial.writers) k writer);
}
