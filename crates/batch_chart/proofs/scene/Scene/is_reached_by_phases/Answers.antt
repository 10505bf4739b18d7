use Rattle.std.proofs.Common.{sym}
use Rattle.batch_chart.{proofs.NextMoves.reached-in, proofs.NextMoves.reached-live, proofs.NextMoves.reached-holds, specs.declared.sign.TheConstants.HOLDS, proofs.SignSearch.found, proofs.SignSearch.found-showing, proofs.SignTests.any_live, proofs.SignTests.live_but, proofs.SignTests.said-live, proofs.SignTests.said-but}
use Rattle.batch_chart.proofs.scene.Scene.is_reached_by_phases.Goals as goal

pub returns-then-is_some : goal.returns-then-is_some
returns-then-is_some c =
    reached-live _ _ _ _ _ (sym c.if-is_stopped.ensures) c.if-is_some.ensures (found _ _ _ _ any_live _ c.next.result said-live c.requires.scene.noted c.next.ensures)

pub returns-then-is_stopped : goal.returns-then-is_stopped
returns-then-is_stopped c =
    reached-holds _ _ _ _ _ _ _ (sym c.if-is_stopped.ensures) c.if-is_some.ensures (found _ _ _ _ any_live _ c.next.result said-live c.requires.scene.noted c.next.ensures) c.is_none.ensures
    (found-showing _ _ _ _ HOLDS c.next-then-is_stopped.result c.requires.scene.noted c.next-then-is_stopped.ensures)

pub returns : goal.returns
returns c =
    reached-in _ _ _ _ _ _ c.is_none-2.ensures (sym c.if-is_stopped.ensures) c.requires.other
    (found _ _ _ _ (live_but c.args.becomes) _ c.next-2.result (said-but c.args.becomes) c.requires.scene.noted (rw c.but.ensures at c.next-2.ensures))
