use Rattle.std.proofs.Common.{◌≡◌, ◌<◌, ◌≤◌, ℕ, length, get_or}
use Rattle.batch_serve.specs.{Told.IsDeskTold, declared.desk.ServedDesk.ServedDesk}
use Rattle.batch_serve.proofs.desk.queue_for_each.Given as goal

-- the desks before this one are told, and the others as they were
abbrev pub invariant-loop-desk : goal.invariant-loop-desk
invariant-loop-desk l = record {
  count : length l.desks.items ≡ length l.initial.desks.items;
  told : (k : ℕ) (other : ServedDesk) → k < l.desk → IsDeskTold k l.answers (get_or l.initial.desks.items k other) (get_or l.desks.items k other);
  rest : (k : ℕ) (other : ServedDesk) → l.desk ≤ k → get_or l.desks.items k other ≡ get_or l.initial.desks.items k other;
}
