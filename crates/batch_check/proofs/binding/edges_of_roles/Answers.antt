use Rattle.std.proofs.Common.{◌∙◌, List, not, ap, get_or, subst, sym, take}
use Rattle.std.proofs.lemmas.List.{take_more}
use Rattle.batch_check.{specs.declared.edge.Edge.Edge, specs.Collecting.AreThose, specs.Collecting.is_of_role, proofs.Raises.no_edge, proofs.EdgesInBindings.AreThose-left, proofs.EdgesInBindings.AreThose-more, proofs.EdgesInBindings.AreThose-none}
use Rattle.batch_check.proofs.binding.edges_of_roles.Goals as goal

pub loop-edge-init : goal.loop-edge-init
loop-edge-init c = rw c.new-of_roles.ensures.items (AreThose-none (is_of_role c.args.count))

pub loop-edge-preserved : goal.loop-edge-preserved
loop-edge-preserved c =
    let edges = c.args.edges.now in
    let index = c.loop-edge.edge-index in
    let before = take index edges in
    let last = get_or edges index no_edge in
    subst (λ (es : List Edge). AreThose (is_of_role c.args.count) es c.if-not-is_between.of_roles.items) (sym (take_more edges index no_edge c.loop-edge-test.true))
    (elim c.if-not-is_between.branch [
      | goal.then-not-is_between+in_ok-push w ↦
          rw (w.of_roles-is, w.in_ok-push.ensures.items)
          (AreThose-more (is_of_role c.args.count) before last c.loop-edge.of_roles.items c.loop-edge.invariant)
      | goal.else-not-is_between w ↦
          rw w.of_roles-is (AreThose-left (is_of_role c.args.count) before last c.loop-edge.of_roles.items c.loop-edge.invariant (ap not (sym c.is_between.ensures ∙ w.if-not-is_between.false)))
    ])
