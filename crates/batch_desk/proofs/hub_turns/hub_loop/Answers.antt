use Rattle.std.proofs.Common.{refl, ◌∙◌}
use Rattle.batch_desk.proofs.{Gates.asked_once_more, HubTurns.as_many, HubTurns.history_grows, HubTurns.history_same, HubTurns.prefix_same, Moves.prefix_then}
use Rattle.batch_desk.proofs.hub_turns.hub_loop.Goals as goal
use Rattle.batch_desk.proofs.hub_turns.hub_loop.Goals.{then-lets_pass, else-lets_pass}

pub loop-number-init : goal.loop-number-init
loop-number-init g c = record { rings = refl; outlines = refl; cleared = refl; history = history_same _ _; record_grows = prefix_same _; asked = refl }

pub loop-number-preserved : goal.loop-number-preserved
loop-number-preserved g c =
    let was = c.loop-number.invariant in
    let asked = asked_once_more g.G.Gate.passes c.loop-number.number _ c.loop-number.gate _ c.lets_pass.result was.asked c.lets_pass.ensures in
    elim c.if-lets_pass.branch [
      | then-lets_pass w ↦ rw w.hub-is (record {
        rings = w.turn.ensures.rings ∙ was.rings;
        outlines = w.turn.ensures.outlines ∙ was.outlines;
        cleared = w.turn.ensures.cleared ∙ was.cleared;
        history = history_grows _ c.loop-number.port _ c.loop-number.hub w.turn.new.self (as_many c.args.hub.now c.loop-number.hub was.outlines) (λ out. (w.turn.ensures.unknown out).1)
            was.history w.turn.ensures.history;
        record_grows = prefix_then _ _ _ was.record_grows w.turn.ensures.record;
        asked = asked;
      })
      | else-lets_pass w ↦ rw w.hub-is (record {
        rings = was.rings;
        outlines = was.outlines;
        cleared = was.cleared;
        history = was.history;
        record_grows = was.record_grows;
        asked = asked;
      })
    ]
