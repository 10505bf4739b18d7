use Rattle.std.proofs.Common.{ℕ, List, get_or, refl}
use Rattle.std.proofs.lemmas.Result.{err_from_is_err_and}
use Rattle.toml.specs.View.{view}
use Rattle.batch_reader.{proofs.Items.AllItems_refused, proofs.Items.AllItems-turn, specs.Entries.IsNameItem}
use Rattle.batch_reader.proofs.entries.names_of.Goals as goal

pub returns-in_err-name-clause-refused : goal.returns-in_err-name-clause-refused
returns-in_err-name-clause-refused c =
    let p = err_from_is_err_and c.from_residual-in_err-name.result c.from_residual-in_err-name.ensures.1 in
    rw (p.1, p.2) (λ known.
    let none : (name : List ℕ) → IsNameItem (view (get_or c.args.values.now c.loop-value.value-index c.value-item.result)) name → ⊥ =
    rw (← c.value-item.is) (c.in_err-name.ensures.refused known) in
    AllItems_refused IsNameItem c.args.values.now c.loop-value.value-index c.value-item.result c.loop-value-test.true none)

pub loop-value-preserved : goal.loop-value-preserved
loop-value-preserved c =
    let here : IsNameItem (view (get_or c.args.values.now c.loop-value.value-index c.value-item.result)) c.in_ok-name.name = rw (← c.value-item.is) c.in_ok-name.ensures.ok in
    rw c.in_ok-push.ensures.items (AllItems-turn IsNameItem c.args.values.now c.loop-value.names.items c.loop-value.value-index c.value-item.result c.in_ok-name.name
    c.loop-value-test.true c.loop-value.invariant here)

pub returns-in_err-name-clause-told : goal.returns-in_err-name-clause-told
returns-in_err-name-clause-told c =
    let p = err_from_is_err_and c.from_residual-in_err-name.result c.from_residual-in_err-name.ensures.1 in
    rw (p.1, p.2) c.in_err-name.ensures.told

pub returns-in_err-push-clause-refused : goal.returns-in_err-push-clause-refused
returns-in_err-push-clause-refused c =
    let p = err_from_is_err_and c.from_residual-in_err-push.result c.from_residual-in_err-push.ensures.1 in
    rw (p.1, p.2) (λ known. absurd (known refl))

pub returns-in_err-push-clause-told : goal.returns-in_err-push-clause-told
returns-in_err-push-clause-told c =
    let p = err_from_is_err_and c.from_residual-in_err-push.result c.from_residual-in_err-push.ensures.1 in
    rw (p.1, p.2) tt
