use Rattle.std.proofs.Common.{◌≡◌, ◌<◌, ◌≤◌, ℕ, false, length, get_or}
use Rattle.batch_serve.specs.{Rounds.IsHandedOn, declared.desk.ServedDesk.ServedDesk, declared.rounds.Reader.Reader, declared.rounds.Writer.Writer}
use Rattle.batch_pipes.specs.{OutputEnds.IsHandedBack, Outputs.AreOutputsKept, Kept.ArePortsOf, Kept.IsDone, Kept.IsReaderKept}
use Rattle.batch_pipes.proofs.tending.tend_each.Given as goal

-- the desks before this one were looked after, and the others are as they were
abbrev pub invariant-loop-at : goal.invariant-loop-at
invariant-loop-at g l = record {
  ports : ArePortsOf l.desks.items l.ports;
  count : length l.desks.items ≡ length l.initial.desks.items;
  handed : (k : ℕ) (other : ServedDesk) (writer : Writer) → k < l.at
      → IsHandedOn (get_or l.initial.desks.items k other) (get_or l.desks.items k other) (get_or l.initial.ports.writers.items k writer) (get_or l.ports.writers.items k writer);
  rest_desks : (k : ℕ) (other : ServedDesk) → l.at ≤ k → get_or l.desks.items k other ≡ get_or l.initial.desks.items k other;
  rest_writers : (k : ℕ) (writer : Writer) → l.at ≤ k → get_or l.ports.writers.items k writer ≡ get_or l.initial.ports.writers.items k writer;
  readers : (k : ℕ) (reader : Reader _) → k < l.at → IsReaderKept (get_or l.initial.ports.readers.items k reader) (get_or l.ports.readers.items k reader);
  outputs : AreOutputsKept (IsHandedBack g.O.Write.contents g.P.Outputs.stands g.P.Outputs.hands_back) l.initial.outputs.items l.outputs.items l.ports.writers.items;
  done : l.outlook.sends ≡ false → l.outlook.waits ≡ false → (k : ℕ) (desk : ServedDesk) (reader : Reader _) → k < l.at
      → IsDone (get_or l.desks.items k desk) (get_or l.ports.readers.items k reader);
  rest_readers : (k : ℕ) (reader : Reader _) → l.at ≤ k → get_or l.ports.readers.items k reader ≡ get_or l.initial.ports.readers.items k reader;
}
