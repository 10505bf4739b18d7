use Rattle.std.proofs.Common.{◌∷◌, [], ◌∙◌, ℕ, List, Option, Some, None, ap, arith, get_or, subst, sym, take}
use Rattle.std.proofs.lemmas.{List.take_more, Option.slice_get-get_or}
use Rattle.batch_check.{specs.Joining.HasJoined, proofs.EdgesFromNeeds.Contains-at, proofs.EdgesFromNeeds.HasJoined-append}
use Rattle.batch_check.proofs.joining.join_each.Goals as goal

pub join-requires-clause-earlier : goal.join-requires-clause-earlier
join-requires-clause-earlier c = λ x is.
    let among = Contains-at c.args.needs.now c.loop-earlier.earlier-index (Some x)
    (slice_get-get_or c.args.needs.now c.loop-earlier.earlier-index None c.loop-earlier-test.true ∙ ap (λ (o : Option ℕ). Some o) is) in
    omega (arith, c.requires.needs x among, c.loop-earlier.invariant.grown.same_count)

pub loop-earlier-preserved : goal.loop-earlier-preserved
loop-earlier-preserved c =
    let needs = c.args.needs.now in
    let index = c.loop-earlier.earlier-index in
    subst (λ (ns : List (Option ℕ)). HasJoined c.args.recipe c.args.node ns c.args.later c.args.edges.now c.join.new.edges) (sym (take_more needs index None c.loop-earlier-test.true))
    (HasJoined-append c.args.recipe c.args.node (take index needs) (get_or needs index None ∷ []) c.args.later c.args.edges.now c.loop-earlier.edges c.join.new.edges
    c.loop-earlier.invariant c.in_ok-join.ensures)
