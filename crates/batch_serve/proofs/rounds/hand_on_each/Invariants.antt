use Rattle.std.proofs.Common.{◌≡◌, ◌<◌, ◌≤◌, ℕ, length, get_or}
use Rattle.batch_serve.specs.{Rounds.IsCutIfLate, Rounds.IsHandedOn, declared.desk.ServedDesk.ServedDesk, declared.rounds.Writer.Writer}
use Rattle.batch_serve.proofs.rounds.hand_on_each.Given as goal

-- to the desks before this one lines were handed on, and the others are as they were
abbrev pub invariant-loop-desk : goal.invariant-loop-desk
invariant-loop-desk l = record {
  count : length l.desks.items ≡ length l.initial.desks.items;
  writers : length l.writers.items ≡ length l.initial.writers.items;
  handed : (k : ℕ) (other : ServedDesk) (writer : Writer) → k < l.desk
      → IsHandedOn (get_or l.initial.desks.items k other) (get_or l.desks.items k other) (get_or l.initial.writers.items k writer) (get_or l.writers.items k writer);
  late : (k : ℕ) (other : ServedDesk) (writer : Writer) → k < l.desk
      → IsCutIfLate (get_or l.initial.desks.items k other) (get_or l.desks.items k other) (get_or l.initial.writers.items k writer) (get_or l.writers.items k writer);
  rest_desks : (k : ℕ) (other : ServedDesk) → l.desk ≤ k → get_or l.desks.items k other ≡ get_or l.initial.desks.items k other;
  rest_writers : (k : ℕ) (writer : Writer) → l.desk ≤ k → get_or l.writers.items k writer ≡ get_or l.initial.writers.items k writer;
}
