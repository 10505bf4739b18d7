use Rattle.std.proofs.Common.{◌≡◌, ◌<◌, ◌≤◌, length, true, false, slice_get, refl, sym, ap, ◌∙◌, arith, inl, inr}
use Rattle.std.proofs.lemmas.{Bool.cases_lt, Grind.common_steps, Option.slice_get_past, Option.slice_get_read}
use Rattle.batch_recipe.{specs.Expanding.unbound, specs.Procedure.procedure_nodes, proofs.FollowerSearch.node_there, proofs.FollowerSearch.within_any, proofs.FollowerSearch.follower_is, proofs.FollowerSearch.no_follower, proofs.FollowerSearch.no_act_follower, proofs.FollowerSearch.nothing_next, proofs.FollowerSearch.told_some, proofs.FollowerSearch.told_none}
use Rattle.batch_recipe.proofs.following.follows.Goals as goal

pub returns-in_err-act-clause-none : goal.returns-in_err-act-clause-none
returns-in_err-act-clause-none c = λ bound at is none.
    no_act_follower c.args.recipe.now c.args.node c.args.i (c.in_err-act.ensures.act (within_any c.args.recipe.now bound c.args.node at is)) bound at is

pub returns-in_err-name-clause-none : goal.returns-in_err-name-clause-none
returns-in_err-name-clause-none c = λ bound at is none.
    let past : length c.deref.result.now ≤ c.args.i = grind (arith, common_steps, c.in_err-name.ensures.lookup) in
    no_follower c.args.recipe.now c.args.node c.in_ok-act.act.now c.args.i (c.in_ok-act.ensures.act (within_any c.args.recipe.now bound c.args.node at is))
    (ap (λ xs. slice_get xs c.args.i) (sym c.deref.ensures.value) ∙ slice_get_past c.deref.result.now c.args.i past) bound at is

pub returns-in_err-next-clause-none : goal.returns-in_err-next-clause-none
returns-in_err-next-clause-none c = λ bound at is none.
    let in' : c.args.i < length c.deref.result.now = grind (arith, common_steps, c.in_ok-name.ensures.lookup) in
    follower_is c.args.recipe.now c.args.node c.in_ok-act.act.now c.args.i c.in_ok-name.name.now (c.in_ok-act.ensures.act (within_any c.args.recipe.now bound c.args.node at is))
    (ap (λ xs. slice_get xs c.args.i) (sym c.deref.ensures.value) ∙ slice_get_read c.deref.result.now (length c.deref.result.now) c.args.i c.in_ok-name.name.now refl in' c.in_ok-name.ensures.lookup.1) bound at is
    ∙ nothing_next c.args.recipe.now bound at c.in_ok-name.name.now (c.in_err-next.ensures bound at is)

pub first_named-requires : goal.first_named-requires
first_named-requires c = elim (cases_lt c.args.node (length (procedure_nodes c.args.recipe.now.acts))) [
  | inl h ↦ (let x = node_there c.args.recipe.now unbound c.args.node h in (c.in_ok-next.ensures unbound x.0 x.1).within)
  | inr h ↦ (let bad : true ≡ false = c.in_ok-act.ensures.past h in absurd cc)
]

pub returns-clause-some : goal.returns-clause-some
returns-clause-some c = λ bound at is.
    let in' : c.args.i < length c.deref.result.now = grind (arith, common_steps, c.in_ok-name.ensures.lookup) in
    told_some c.args.recipe.now bound at c.args.i c.in_ok-next.next c.in_ok-name.name.now (c.in_ok-next.ensures bound at is)
    (follower_is c.args.recipe.now c.args.node c.in_ok-act.act.now c.args.i c.in_ok-name.name.now (c.in_ok-act.ensures.act (within_any c.args.recipe.now bound c.args.node at is))
    (ap (λ xs. slice_get xs c.args.i) (sym c.deref.ensures.value) ∙ slice_get_read c.deref.result.now (length c.deref.result.now) c.args.i c.in_ok-name.name.now refl in' c.in_ok-name.ensures.lookup.1) bound at is)
    _ (c.first_named.ensures bound)

pub returns-clause-none : goal.returns-clause-none
returns-clause-none c = λ bound at is.
    let in' : c.args.i < length c.deref.result.now = grind (arith, common_steps, c.in_ok-name.ensures.lookup) in
    told_none c.args.recipe.now bound at c.args.i c.in_ok-next.next c.in_ok-name.name.now (c.in_ok-next.ensures bound at is)
    (follower_is c.args.recipe.now c.args.node c.in_ok-act.act.now c.args.i c.in_ok-name.name.now (c.in_ok-act.ensures.act (within_any c.args.recipe.now bound c.args.node at is))
    (ap (λ xs. slice_get xs c.args.i) (sym c.deref.ensures.value) ∙ slice_get_read c.deref.result.now (length c.deref.result.now) c.args.i c.in_ok-name.name.now refl in' c.in_ok-name.ensures.lookup.1) bound at is)
    _ (c.first_named.ensures bound)
