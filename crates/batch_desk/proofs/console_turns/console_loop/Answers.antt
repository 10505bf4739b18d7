use Rattle.std.proofs.Common.{refl}
use Rattle.batch_desk.proofs.{ConsoleTurns.begins, Gates.asked_once_more}
use Rattle.batch_desk.proofs.console_turns.console_loop.Goals as goal
use Rattle.batch_desk.proofs.console_turns.console_loop.Goals.{then-lets_pass, else-lets_pass}

pub loop-turn-init : goal.loop-turn-init
loop-turn-init g c = record { follows = begins _ _ _ _ c.new-console.ensures; asked = refl }

pub loop-turn-preserved : goal.loop-turn-preserved
loop-turn-preserved g c =
    let was = c.loop-turn.invariant in
    let asked = asked_once_more g.G.Gate.passes c.loop-turn.turn _ c.loop-turn.gate _ c.lets_pass.result was.asked c.lets_pass.ensures in
    elim c.if-lets_pass.branch [
      | then-lets_pass w ↦ rw (w.desk-is, w.console-is) (record { follows = w.take_turn.ensures _ _ was.follows; asked = asked })
      | else-lets_pass w ↦ rw (w.desk-is, w.console-is) (record { follows = was.follows; asked = asked })
    ]
