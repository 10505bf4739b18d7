use Rattle.std.proofs.Common.{◌∙◌, get_or, refl}
use Rattle.std.proofs.lemmas.Result.{err_from_is_err_and}
use Rattle.toml.specs.View.{view}
use Rattle.batch_reader.{proofs.Items.AllItems_refused, proofs.Items.AllItems-turn, specs.Entries.IsNeedItem, proofs.NeedFaults.list_of_item, proofs.NeedFaults.tells_at}
use Rattle.batch_reader.proofs.needs.needs_of.Goals as goal
use Rattle.batch_recipe.specs.declared.need.Need.{Need}

pub returns-in_err-need-clause-refused : goal.returns-in_err-need-clause-refused
returns-in_err-need-clause-refused c =
    let p = err_from_is_err_and c.from_residual-in_err-need.result c.from_residual-in_err-need.ensures.1 in
    rw (p.1, p.2) (λ known.
    let none : (need : Need) → IsNeedItem (view (get_or c.args.values.now c.loop-value.value-index c.value-item.result)) need → ⊥ =
    rw (← c.value-item.is) (c.in_err-need.ensures.refused known) in
    AllItems_refused IsNeedItem c.args.values.now c.loop-value.value-index c.value-item.result c.loop-value-test.true none)

pub loop-value-preserved : goal.loop-value-preserved
loop-value-preserved c =
    let here : IsNeedItem (view (get_or c.args.values.now c.loop-value.value-index c.value-item.result)) c.in_ok-need.need = rw (← c.value-item.is) c.in_ok-need.ensures.ok in
    rw c.in_ok-push.ensures.items (AllItems-turn IsNeedItem c.args.values.now c.loop-value.needs.items c.loop-value.value-index c.value-item.result c.in_ok-need.need
    c.loop-value-test.true c.loop-value.invariant here)

pub returns-in_err-need-clause-told : goal.returns-in_err-need-clause-told
returns-in_err-need-clause-told c =
    let p = err_from_is_err_and c.from_residual-in_err-need.result c.from_residual-in_err-need.ensures.1 in
    rw (p.1, p.2) (tells_at _ _ (list_of_item c.args.values.now c.loop-value.needs.items c.loop-value.value-index c.value-item.result c.value-item.result c.len.result c.value-item.is c.loop-value-test.true c.loop-value.invariant (c.len.ensures ∙ c.loop-value.needs.ok.0)) _ _ c.in_err-need.ensures.told)

pub returns-in_err-push-clause-refused : goal.returns-in_err-push-clause-refused
returns-in_err-push-clause-refused c =
    let p = err_from_is_err_and c.from_residual-in_err-push.result c.from_residual-in_err-push.ensures.1 in
    rw (p.1, p.2) (λ known. absurd (known refl))

pub returns-in_err-push-clause-told : goal.returns-in_err-push-clause-told
returns-in_err-push-clause-told c =
    let p = err_from_is_err_and c.from_residual-in_err-push.result c.from_residual-in_err-push.ensures.1 in
    rw (p.1, p.2) tt
