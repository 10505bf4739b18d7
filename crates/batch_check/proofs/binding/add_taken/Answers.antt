use Rattle.std.proofs.Common.{List, get_or, subst, sym, ◌∙◌, take, arith}
use Rattle.std.proofs.lemmas.List.{take_more}
use Rattle.batch_check.{specs.declared.edge.Edge.Edge, specs.Collecting.HasTakenBy, specs.Joining.AreBelow, proofs.Raises.no_edge, proofs.Roles.resource_for-within, proofs.EdgesInBindings.HasTakenBy-more, proofs.EdgesInBindings.HasTakenBy-none}
use Rattle.batch_check.proofs.binding.add_taken.Goals as goal

pub loop-edge-init : goal.loop-edge-init
loop-edge-init c = HasTakenBy-none c.args.units.now c.args.set.now

pub join-requires-clause-earlier : goal.join-requires-clause-earlier
join-requires-clause-earlier c = λ k is.
    let now = c.loop-edge.set.count in
    let below : AreBelow now c.args.units.now = λ n among. omega (arith, c.requires n among, c.loop-edge.invariant.grown.same_count) in
    resource_for-within now c.args.units.now (get_or c.args.edges.now c.loop-edge.edge-index no_edge).earlier k below (sym c.resource_for-earlier.ensures ∙ is)

pub join-requires-clause-later : goal.join-requires-clause-later
join-requires-clause-later c = λ k is.
    let now = c.loop-edge.set.count in
    let below : AreBelow now c.args.units.now = λ n among. omega (arith, c.requires n among, c.loop-edge.invariant.grown.same_count) in
    resource_for-within now c.args.units.now (get_or c.args.edges.now c.loop-edge.edge-index no_edge).later k below (sym c.resource_for-later.ensures ∙ is)

pub loop-edge-preserved : goal.loop-edge-preserved
loop-edge-preserved c =
    let edges = c.args.edges.now in
    let index = c.loop-edge.edge-index in
    let edge : Edge = get_or edges index no_edge in
    subst (λ (es : List Edge). HasTakenBy c.args.units.now es c.args.set.now c.join.new.edges) (sym (take_more edges index no_edge c.loop-edge-test.true))
    (HasTakenBy-more c.args.units.now (take index edges) edge c.args.set.now c.loop-edge.set c.join.new.edges c.loop-edge.invariant
    (rw (c.resource_for-earlier.ensures, c.resource_for-later.ensures) at c.in_ok-join.ensures))
