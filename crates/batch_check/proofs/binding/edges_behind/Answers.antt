use Rattle.std.proofs.Common.{◌∙◌, List, get_or, subst, sym, take}
use Rattle.std.proofs.lemmas.List.{take_more}
use Rattle.batch_check.{specs.declared.edge.Edge.Edge, specs.Collecting.AreThose, specs.Collecting.is_behind, proofs.Raises.no_edge, proofs.EdgesInBindings.AreThose-left, proofs.EdgesInBindings.AreThose-more, proofs.EdgesInBindings.AreThose-none}
use Rattle.batch_check.proofs.binding.edges_behind.Goals as goal

pub loop-edge-init : goal.loop-edge-init
loop-edge-init c = rw c.new-behind.ensures.items (AreThose-none (is_behind c.args.role))

pub loop-edge-preserved : goal.loop-edge-preserved
loop-edge-preserved c =
    let edges = c.args.edges.now in
    let index = c.loop-edge.edge-index in
    let before = take index edges in
    let last = get_or edges index no_edge in
    subst (λ (es : List Edge). AreThose (is_behind c.args.role) es c.if-is_behind.behind.items) (sym (take_more edges index no_edge c.loop-edge-test.true))
    (elim c.if-is_behind.branch [
      | goal.then-is_behind+in_ok-push w ↦
          rw (w.behind-is, w.in_ok-push.ensures.items)
          (AreThose-more (is_behind c.args.role) before last c.loop-edge.behind.items c.loop-edge.invariant)
      | goal.else-is_behind w ↦
          rw w.behind-is (AreThose-left (is_behind c.args.role) before last c.loop-edge.behind.items c.loop-edge.invariant (sym c.is_behind.ensures ∙ w.if-is_behind.false))
    ])
