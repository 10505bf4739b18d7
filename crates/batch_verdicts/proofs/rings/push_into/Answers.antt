use Rattle.std.proofs.Common.{◌∙◌, get_or, sym}
use Rattle.std.proofs.lemmas.List.Elements.{Contains-get_or}
use Rattle.batch_check.specs.declared.edge.Edge.{Edge}
use Rattle.batch_verdicts.{specs.Drawing.IsOnCircle, proofs.EdgesOnCircles.All-pushed, proofs.EdgesOnCircles.on_circle}
use Rattle.batch_verdicts.proofs.rings.push_into.Goals as goal

abbrev no_edge : Edge
no_edge = record { recipe = 0; node = 0; earlier = 0; later = 0 }

pub loop-edge-preserved : goal.loop-edge-preserved
loop-edge-preserved c =
    let edges = c.args.edges.now in
    let edge = get_or edges c.loop-edge.edge-index no_edge in
    let stands = Contains-get_or edges c.loop-edge.edge-index no_edge c.loop-edge-test.true in
    elim c.if-edge-start.branch [
      | goal.then-edge-start+then-is_marked+in_ok-push w ↦
          rw (w.found-is, w.in_ok-push.ensures.items)
          (All-pushed (IsOnCircle edges) c.loop-edge.found.items edge c.loop-edge.invariant
          (on_circle edges c.args.start edge stands w.if-edge-start.true (c.requires.reached edge.earlier (sym w.is_marked.ensures ∙ w.if-is_marked.true))))
      | goal.else-edge-start w ↦ rw w.found-is c.loop-edge.invariant
    ]
