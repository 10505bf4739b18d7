use Rattle.std.proofs.Common.{List, get_or, subst, sym, take}
use Rattle.std.proofs.lemmas.List.{take_more}
use Rattle.batch_check.{specs.declared.edge.Edge.Edge, specs.Joining.HasTaken, proofs.EdgesFromNeeds.HasTaken-more, proofs.EdgesFromNeeds.HasTaken-none, proofs.Raises.no_edge}
use Rattle.batch_check.proofs.graph.add_each.Goals as goal

pub loop-edge-init : goal.loop-edge-init
loop-edge-init c = HasTaken-none c.args.set.now

pub loop-edge-preserved : goal.loop-edge-preserved
loop-edge-preserved c =
    let edges = c.args.edges.now in
    let index = c.loop-edge.edge-index in
    subst (λ (es : List Edge). HasTaken es c.args.set.now c.add.new.self) (sym (take_more edges index no_edge c.loop-edge-test.true))
    (HasTaken-more (take index edges) c.args.set.now c.loop-edge.set c.add.new.self (get_or edges index no_edge) c.loop-edge.invariant
    (record { same_count = c.in_ok-add.ensures.count; kept = c.in_ok-add.ensures.kept; stays = c.in_ok-add.ensures.stays; fresh = c.in_ok-add.ensures.fresh })
    c.in_ok-add.ensures.added c.in_ok-add.ensures.only)
