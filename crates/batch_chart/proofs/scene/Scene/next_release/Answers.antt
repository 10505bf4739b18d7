use Rattle.std.proofs.Common.{sym, ◌∙◌, ap, true, false}
use Rattle.std.specs.Prelude.{◌&&◌, ◌||◌}
use Rattle.batch_chart.{proofs.NextMoves.next-released, proofs.NextMoves.next-handed, proofs.NextMoves.found-among, proofs.NextMoves.quiet-told, proofs.FirstMoves.tells-freeing, proofs.FirstMoves.tells-releasing, proofs.FirstMoves.stopping-others, proofs.FirstMoves.stopped-halts, specs.declared.sign.TheConstants.FREES, proofs.ReleaseOnStop.found-giving, proofs.SignSearch.found, proofs.SignSearch.found-showing, proofs.SignTests.showing, proofs.SignTests.any_live, proofs.SignTests.gives_back, proofs.SignTests.said-live}
use Rattle.batch_model.specs.Moves.{is_running, is_stopping, is_stopped, is_quiet}
use Rattle.batch_chart.proofs.scene.Scene.next_release.Goals as goal

pub returns-then-is_stopped : goal.returns-then-is_stopped
returns-then-is_stopped c =
    next-released _ _ _ _ c.next-found.result _ c.requires.scene.lives (showing FREES) (stopped-halts c.args.state (sym c.if-is_stopped.ensures))
    (λ t b q k a d. tells-freeing b (ap (λ z. is_stopping z && is_quiet b.rest) q.2 ∙ ap (λ z. z && is_quiet b.rest) (sym c.if-not-is_stopping.ensures)) k a)
    (found-showing _ _ _ _ FREES c.next-found.result c.requires.scene.noted c.next-found.ensures) c.release_of.ensures

pub returns-then-not-is_stopping : goal.returns-then-not-is_stopping
returns-then-not-is_stopping c =
    next-handed _ _ _ _ c.next-found.result _ c.requires.scene.lives (showing FREES) (ap (λ z. z || is_stopped c.args.state) (sym c.if-not-is_stopping.ensures) ∙ sym c.if-is_stopped.ensures)
    (λ t b q k a d. tells-freeing b (ap (λ z. is_stopping z && is_quiet b.rest) q.2 ∙ ap (λ z. z && is_quiet b.rest) (sym c.if-not-is_stopping.ensures)) k a)
    (found-showing _ _ _ _ FREES c.next-found.result c.requires.scene.noted c.next-found.ensures) c.handing_of.ensures

pub returns-then-is_some : goal.returns-then-is_some
returns-then-is_some c =
    next-released _ _ _ _ c.next-found.result _ c.requires.scene.lives (showing FREES) (ap (λ z. z || is_stopped c.args.state) (sym c.if-not-is_stopping.ensures))
    (λ t b q k a d. tells-freeing b
    (ap (λ z. is_stopping z && is_quiet b.rest) q.2 ∙ ap (λ z. z && is_quiet b.rest) (sym c.if-not-is_stopping.ensures)
    ∙ ap is_quiet q.3 ∙ sym (quiet-told _ _ _ _ true c.if-is_some.ensures (found _ _ _ _ any_live _ c.next_of_many.result said-live c.requires.scene.noted c.next_of_many.ensures) t q.0)) k a)
    (found-showing _ _ _ _ FREES c.next-found.result c.requires.scene.noted c.next-found.ensures) c.release_of-then-is_some.ensures

pub returns : goal.returns
returns c =
    next-released _ _ _ _ c.next_giving.result _ c.requires.scene.lives gives_back (ap (λ z. z || is_stopped c.args.state) (sym c.if-not-is_stopping.ensures))
    (λ t b q k a d. tells-releasing b (ap is_running q.2 ∙ stopping-others c.args.state (sym c.if-not-is_stopping.ensures)) (ap is_stopping q.2 ∙ sym c.if-not-is_stopping.ensures)
    (ap is_quiet q.3 ∙ sym (quiet-told _ _ _ _ false c.if-is_some.ensures (found _ _ _ _ any_live _ c.next_of_many.result said-live c.requires.scene.noted c.next_of_many.ensures) t q.0)) k a)
    (found-giving _ _ _ _ c.requires.scene.noted _ c.next_giving.ensures) c.release_of-2.ensures

pub next_giving-requires : goal.next_giving-requires
next_giving-requires c = record { fits = c.requires.scene.lives.2.fits ∙ sym c.requires.scene.lives.1.count; signs = c.requires.scene.count }

pub release_of-requires : goal.release_of-requires
release_of-requires c = found-among _ _ _ (showing FREES) _ c.requires.scene.lives (found-showing _ _ _ _ FREES c.next-found.result c.requires.scene.noted c.next-found.ensures)

pub handing_of-requires : goal.handing_of-requires
handing_of-requires c = record {
  among = found-among _ _ _ (showing FREES) _ c.requires.scene.lives (found-showing _ _ _ _ FREES c.next-found.result c.requires.scene.noted c.next-found.ensures);
  nodes = c.requires.nodes;
}
