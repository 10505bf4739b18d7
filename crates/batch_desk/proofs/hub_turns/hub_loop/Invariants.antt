use Rattle.std.proofs.Common.{◌≡◌, length}
use mathlib.Core.List.{IsPrefix}
use Rattle.batch_desk.specs.{Gates.AreAsked, HubState.HasHistoryGrown, HubState.outlines, HubState.rings}
use Rattle.batch_desk.proofs.hub_turns.hub_loop.Given as goal

abbrev pub invariant-loop-number : goal.invariant-loop-number
invariant-loop-number g l = record {
  rings : rings l.hub ≡ rings l.initial.hub;
  outlines : outlines l.hub ≡ outlines l.initial.hub;
  cleared : l.hub.engine.cleared ≡ l.initial.hub.engine.cleared;
  history : HasHistoryGrown (length l.initial.hub.ports) l.initial.hub.history l.hub.history;
  record_grows : IsPrefix l.initial.hub.outs l.hub.outs;
  asked : AreAsked g.G.Gate.passes l.number l.initial.gate l.gate;
}
