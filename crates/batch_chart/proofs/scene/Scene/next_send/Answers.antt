use Rattle.std.proofs.Common.{refl, sym, ◌∙◌, ap, Some, None}
use Rattle.batch_chart.proofs.{NextMoves.next-sent, NextMoves.next-none, FirstMoves.sends-nothing, SignSearch.found, SignTests.of_states, SignTests.said-accepting}
use Rattle.batch_model.specs.Moves.{command_passed_on}
use Rattle.batch_matrix.specs.Matrix.{accepts}
use Rattle.batch_chart.proofs.scene.Scene.next_send.Goals as goal

pub returns-in-None : goal.returns-in-None
returns-in-None c = next-none _ _ _ _ _ (λ t b q a. sends-nothing b (ap command_passed_on q.2 ∙ sym c.in-None.ensures) a)

pub returns-in-None-next : goal.returns-in-None-next
returns-in-None-next c =
    next-sent _ _ _ _ None _ c.requires.lives c.in-Some.command c.in-Some.ensures
    (found _ _ _ _ (of_states (λ x. accepts x c.in-Some.command)) _ None (said-accepting c.in-Some.command) c.requires.noted (rw c.accepting.ensures at c.in-None-next.ensures)) refl

pub returns-in-Some-next : goal.returns-in-Some-next
returns-in-Some-next c =
    next-sent _ _ _ _ (Some c.in-Some-next.node) _ c.requires.lives c.in-Some.command c.in-Some.ensures
    (found _ _ _ _ (of_states (λ x. accepts x c.in-Some.command)) _ (Some c.in-Some-next.node) (said-accepting c.in-Some.command) c.requires.noted (rw c.accepting.ensures at c.in-Some-next.ensures)) refl
