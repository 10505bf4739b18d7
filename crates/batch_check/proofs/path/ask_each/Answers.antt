use Rattle.std.proofs.Common.{ℕ, List, [], ◌∷◌, Option, Some, None, ap, ◌∙◌, sym, subst, take, get_or, arith}
use Rattle.std.proofs.lemmas.{List.take_more, Option.slice_get-get_or}
use Rattle.batch_check.{specs.Collecting.HasAsked, proofs.EdgesOfAct.HasAsked-append, proofs.EdgesOfAct.HasAsked-copied, proofs.EdgesFromNeeds.Contains-at}
use Rattle.batch_check.proofs.path.ask_each.Goals as goal

pub loop-need-init : goal.loop-need-init
loop-need-init c = HasAsked-copied c.args.path.now c.args.node c.in_ok-at.at c.args.edges.now c.requires.ready c.in_ok-at.ensures

pub ask-requires-clause-need : goal.ask-requires-clause-need
ask-requires-clause-need c = λ number is.
    let among = Contains-at c.args.needs.now c.loop-need.need-index (Some number)
    (slice_get-get_or c.args.needs.now c.loop-need.need-index None c.loop-need-test.true ∙ ap (λ (o : Option ℕ). Some o) is) in
    omega (arith, c.requires.needs number among, c.loop-need.invariant.grown.same_count)

pub loop-need-preserved : goal.loop-need-preserved
loop-need-preserved c =
    let needs = c.args.needs.now in
    let index = c.loop-need.need-index in
    subst (λ (own : List (Option ℕ)). HasAsked c.args.path.now c.args.node own c.args.edges.now c.ask.new.edges c.in_ok-at-2.at) (sym (take_more needs index None c.loop-need-test.true))
    (HasAsked-append c.args.path.now c.args.node (take index needs) (get_or needs index None ∷ []) c.args.edges.now c.loop-need.edges c.ask.new.edges c.loop-need.at c.in_ok-at-2.at
    c.loop-need.invariant c.in_ok-at-2.ensures)
