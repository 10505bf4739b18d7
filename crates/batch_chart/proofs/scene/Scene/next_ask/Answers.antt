use Rattle.std.proofs.Common.{arith, refl, sym, ◌∙◌, ap, Some, None}
use Rattle.batch_chart.{proofs.NextMoves.next-asked, proofs.NextMoves.next-none, proofs.NextMoves.found-among, proofs.FirstMoves.asks-nothing, specs.declared.sign.TheConstants.LACKS, proofs.SignSearch.found-showing, proofs.SignTests.showing}
use Rattle.batch_model.specs.Moves.{is_running}
use Rattle.batch_chart.specs.declared.chart_move.Move.TheVariants as move
use Rattle.batch_chart.proofs.scene.Scene.next_ask.Goals as goal

pub returns-then-not-is_running : goal.returns-then-not-is_running
returns-then-not-is_running c = next-none _ _ _ _ _ (λ t b q a. asks-nothing b (ap is_running q.2 ∙ sym c.if-not-is_running.ensures) a)

pub bounds-self-n : goal.bounds-self-n
bounds-self-n c = let h = found-among _ _ _ (showing LACKS) (Some c.in-Some.n) c.requires.lives (found-showing _ _ _ _ LACKS (Some c.in-Some.n) c.requires.noted c.in-Some.ensures) in omega (arith, h.2)

pub returns-in-None : goal.returns-in-None
returns-in-None c = next-asked _ _ _ _ None _ c.requires.lives (sym c.if-not-is_running.ensures) (found-showing _ _ _ _ LACKS None c.requires.noted c.in-None.ensures) refl

pub returns-in-Some : goal.returns-in-Some
returns-in-Some c =
    next-asked _ _ _ _ (Some c.in-Some.n) _ c.requires.lives (sym c.if-not-is_running.ensures) (found-showing _ _ _ _ LACKS (Some c.in-Some.n) c.requires.noted c.in-Some.ensures)
    (ap (λ z. Some (move.Ask c.in-Some.n z)) c.held_at-need.ensures)
