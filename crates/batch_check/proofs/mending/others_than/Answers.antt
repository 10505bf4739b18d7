use Rattle.std.proofs.Common.{◌∙◌, List, get_or, subst, sym, take}
use Rattle.std.proofs.lemmas.List.{take_more}
use Rattle.batch_check.{specs.declared.edge.Edge.Edge, specs.Mending.AreOtherEdges, proofs.OrdersWithoutOne.others_new, proofs.OrdersWithoutOne.others_same, proofs.Raises.no_edge}
use Rattle.batch_check.proofs.mending.others_than.Goals as goal

pub loop-other-preserved : goal.loop-other-preserved
loop-other-preserved c =
    let edges = c.args.edges.now in
    let index = c.loop-other.other-index in
    let before = take index edges in
    let last = get_or edges index no_edge in
    subst (λ (es : List Edge). AreOtherEdges es c.args.edge c.if-not-is_same_order.others.items) (sym (take_more edges index no_edge c.loop-other-test.true))
    (elim c.if-not-is_same_order.branch [
      | goal.then-not-is_same_order+in_ok-push w ↦
          rw (w.others-is, w.in_ok-push.ensures.items)
          (others_new before c.args.edge last c.loop-other.others.items c.loop-other.invariant (sym c.is_same_order.ensures ∙ w.if-not-is_same_order.true))
      | goal.else-not-is_same_order w ↦
          rw w.others-is (others_same before c.args.edge last c.loop-other.others.items c.loop-other.invariant (sym c.is_same_order.ensures ∙ w.if-not-is_same_order.false))
    ])
