use Rattle.std.proofs.Common.{sym, ◌∙◌, ap}
use Rattle.std.specs.{Prelude.◌||◌, Int.Bits.bit_or}
use Rattle.batch_chart.{proofs.NextMoves.next-entered, proofs.NextMoves.found-among, proofs.NextMoves.next-none, proofs.FirstMoves.enters-nothing, proofs.FirstMoves.tells-entering, proofs.FirstMoves.tells-ending, specs.declared.sign.TheConstants.FITS, specs.declared.sign.TheConstants.IS_OVER, proofs.SignSearch.found-showing, proofs.SignTests.showing}
use Rattle.batch_model.specs.Moves.{is_running, is_stopping, is_stopped}
use Rattle.batch_chart.proofs.scene.Scene.next_entry.Goals as goal

pub returns-then-is_running : goal.returns-then-is_running
returns-then-is_running c =
    next-entered _ _ _ _ c.next.result _ c.requires.lives (showing (bit_or IS_OVER FITS)) (λ t b q k a d. tells-entering b (ap is_running q.2 ∙ sym c.if-is_running.ensures) k a d)
    (found-showing _ _ _ _ (bit_or IS_OVER FITS) c.next.result c.requires.noted c.next.ensures) c.entry_of.ensures

pub returns-then-is_stopping : goal.returns-then-is_stopping
returns-then-is_stopping c =
    next-none _ _ _ _ _ (λ t b q a. enters-nothing b (ap is_running q.2 ∙ sym c.if-is_running.ensures) (ap (λ z. is_stopping z || is_stopped z) q.2 ∙ ap (λ z. z || is_stopped c.args.state) (sym c.if-is_stopping.ensures)) a)

pub returns-then-is_stopped : goal.returns-then-is_stopped
returns-then-is_stopped c =
    next-none _ _ _ _ _ (λ t b q a. enters-nothing b (ap is_running q.2 ∙ sym c.if-is_running.ensures)
    (ap (λ z. is_stopping z || is_stopped z) q.2 ∙ ap (λ z. z || is_stopped c.args.state) (sym c.if-is_stopping.ensures) ∙ sym c.if-is_stopped.ensures) a)

pub returns : goal.returns
returns c =
    next-entered _ _ _ _ c.next_of_many.result _ c.requires.lives (showing IS_OVER) (λ t b q k a d. tells-ending b (ap is_running q.2 ∙ sym c.if-is_running.ensures)
    (ap (λ z. is_stopping z || is_stopped z) q.2 ∙ ap (λ z. z || is_stopped c.args.state) (sym c.if-is_stopping.ensures) ∙ sym c.if-is_stopped.ensures) k a d)
    (found-showing _ _ _ _ IS_OVER c.next_of_many.result c.requires.noted c.next_of_many.ensures) c.entry_of-2.ensures

pub entry_of-requires : goal.entry_of-requires
entry_of-requires c = found-among _ _ _ (showing (bit_or IS_OVER FITS)) _ c.requires.lives (found-showing _ _ _ _ (bit_or IS_OVER FITS) c.next.result c.requires.noted c.next.ensures)
