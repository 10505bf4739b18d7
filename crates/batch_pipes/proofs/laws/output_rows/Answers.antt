use Rattle.std.proofs.Common.{[], ◌∷◌, Some, refl, subst}
use Rattle.batch_pipes.{specs.Ended.IsGivenBack, proofs.WriterOutputs.nothing_back}
use Rattle.batch_pipes.proofs.laws.output_rows.Goals as goal

pub returns-clause-front : goal.returns-clause-front
returns-clause-front c = (2 ∷ [], refl)

pub returns-clause-no_other : goal.returns-clause-no_other
returns-clause-no_other c = (λ h. cc h.1, λ h. cc h.1, λ h. cc h.1)

pub returns-clause-nothing : goal.returns-clause-nothing
returns-clause-nothing c = λ contents stands path front due desk outcome is back.
    let none = subst (λ o. IsGivenBack contents stands (λ _ _. Unit {0}) (Some path) front due desk o) is back in
    absurd cc

pub returns-clause-none : goal.returns-clause-none
returns-clause-none c = λ contents stands. nothing_back contents stands (λ _ _. Unit {0})

pub returns-clause-made_up : goal.returns-clause-made_up
returns-clause-made_up c = λ contents stands path front due desk w left outcome is back.
    (subst (λ o. IsGivenBack contents stands (λ _ _. ⊥) path front due desk o) is back).2

pub returns-clause-no_output : goal.returns-clause-no_output
returns-clause-no_output c = (tt, λ h. h, λ h. h)
