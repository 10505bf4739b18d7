use Rattle.std.proofs.Common.{◌≡◌, ◌<◌, ◌≤◌, ℕ, length, get_or}
use Rattle.batch_serve.specs.{Rounds.IsGathered, Runs.AreOfDesks, Runs.own_text, Turns.IsSameBut, declared.desk.ServedDesk.ServedDesk, declared.rounds.Reader.Reader}
use Rattle.batch_serve.proofs.desk_server.DeskServer.gather.Given as goal

-- of the desks before this one lines were taken, and the others are as they were
abbrev pub invariant-loop-desk : goal.invariant-loop-desk
invariant-loop-desk g l = record {
  same : IsSameBut l.initial.self l.self;
  count : length l.readers.items ≡ length l.initial.readers.items;
  gathered : (k : ℕ) (reader : Reader _) (other : ServedDesk) → k < l.desk
      → IsGathered g.O.Protocol.allows k (get_or l.initial.self.desks.items k other).waiting.is_cut (get_or l.initial.readers.items k reader) (get_or l.readers.items k reader)
      l.initial.self.group.items l.self.group.items;
  of_desks : AreOfDesks (length l.initial.self.desks.items) l.initial.self.group.items → AreOfDesks (length l.initial.self.desks.items) l.self.group.items;
  rest : (k : ℕ) (reader : Reader _) → l.desk ≤ k → get_or l.readers.items k reader ≡ get_or l.initial.readers.items k reader;
  own : (k : ℕ) → l.desk ≤ k → own_text k l.self.group.items ≡ own_text k l.initial.self.group.items;
}
