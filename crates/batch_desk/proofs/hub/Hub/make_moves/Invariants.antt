use Rattle.std.proofs.Common.{◌≡◌, ◌+◌}
use mathlib.Core.List.{IsPrefix}
use Rattle.batch_desk.specs.{HubState.outlines, Turns.moves}
use Rattle.batch_desk.proofs.hub.Hub.make_moves.Given as goal

abbrev pub invariant-loop : goal.invariant-loop
invariant-loop l = record {
  begin : l.counter ≡ 0 → l.self ≡ l.initial.self;
  outlines : outlines l.self ≡ outlines l.initial.self;
  cleared : l.self.engine.cleared ≡ l.initial.self.engine.cleared;
  history : l.self.history ≡ l.initial.self.history;
  record_grows : IsPrefix l.initial.self.outs l.self.outs;
  count : moves l.self.outs ≡ moves l.initial.self.outs + l.counter;
}
