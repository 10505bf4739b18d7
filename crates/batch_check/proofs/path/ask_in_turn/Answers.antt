use Rattle.std.proofs.Common.{◌≡◌, ◌<◌, ℕ, List, [], ◌∷◌, Option, Some, None, ap, ◌∙◌, sym, subst, take, get_or, arith, refl}
use Rattle.std.proofs.lemmas.{List.take_all, List.take_more, Option.slice_get-get_or}
use Rattle.batch_check.{specs.Collecting.HasAsked, specs.Collecting.ends_in, proofs.EdgesOfAct.HasAsked-append, proofs.EdgesOfAct.HasAsked-copied, proofs.EdgesOfAct.HasAsked-alone, proofs.EdgesOfAct.is_ready, proofs.EdgesFromNeeds.Contains-at}
use Rattle.batch_check.proofs.path.ask_in_turn.Goals as goal

pub loop-need-init : goal.loop-need-init
loop-need-init c =
    let path = ends_in c.args.recipe c.args.before in
    HasAsked-copied path c.args.node path c.args.edges.now (is_ready c.args.recipe c.args.before c.args.edges.now c.requires.before)
    (record { same_recipe = refl; same_last = refl; same_kept = refl })

pub join-requires-clause-earlier : goal.join-requires-clause-earlier
join-requires-clause-earlier c = c.loop-need.invariant.further.ready.within

pub join-requires-clause-later : goal.join-requires-clause-later
join-requires-clause-later c = λ number is.
    let among = Contains-at c.args.needs.now c.loop-need.need-index (Some number)
    (slice_get-get_or c.args.needs.now c.loop-need.need-index None c.loop-need-test.true ∙ ap (λ (o : Option ℕ). Some o) is) in
    omega (arith, c.requires.needs number among, c.loop-need.invariant.grown.same_count)

pub loop-need-preserved : goal.loop-need-preserved
loop-need-preserved c =
    let needs = c.args.needs.now in
    let index = c.loop-need.need-index in
    let need = get_or needs index None in
    let now = c.loop-need.edges in
    let later : (k : ℕ) → need ≡ Some k → k < now.count = λ k is.
    let among = Contains-at needs index (Some k) (slice_get-get_or needs index None c.loop-need-test.true ∙ ap (λ (o : Option ℕ). Some o) is) in
    omega (arith, c.requires.needs k among, c.loop-need.invariant.grown.same_count) in
    subst (λ (own : List (Option ℕ)). HasAsked (ends_in c.args.recipe c.args.before) c.args.node own c.args.edges.now c.join.new.edges (ends_in c.args.recipe need))
    (sym (take_more needs index None c.loop-need-test.true))
    (HasAsked-append (ends_in c.args.recipe c.args.before) c.args.node (take index needs) (need ∷ []) c.args.edges.now now c.join.new.edges
    (ends_in c.args.recipe c.loop-need.last) (ends_in c.args.recipe need) c.loop-need.invariant
    (HasAsked-alone c.args.recipe c.args.node c.loop-need.last need now c.join.new.edges c.loop-need.invariant.further.ready.within later c.in_ok-join.ensures))

pub returns : goal.returns
returns c = subst (λ (own : List (Option ℕ)). HasAsked (ends_in c.args.recipe c.args.before) c.args.node own c.args.edges.now c.loop-need.edges (ends_in c.args.recipe c.loop-need.last)) (take_all c.loop-need.need-index c.args.needs.now c.loop-need-test.false) c.loop-need.invariant
