use Rattle.std.proofs.Common.{◌∙◌, get_or, sym}
use Rattle.std.proofs.lemmas.List.Elements.{Contains-get_or}
use Rattle.batch_check.specs.declared.edge.Edge.{Edge}
use Rattle.batch_verdicts.proofs.EdgesOnCircles.{reached_more}
use Rattle.batch_verdicts.proofs.rings.spread.Goals as goal

abbrev no_edge : Edge
no_edge = record { recipe = 0; node = 0; earlier = 0; later = 0 }

pub mark-requires-clause-leads : goal.mark-requires-clause-leads
mark-requires-clause-leads c =
    let edges = c.args.edges.now in
    let edge = get_or edges c.loop-edge.edge-index no_edge in
    reached_more edges c.args.start edge (Contains-get_or edges c.loop-edge.edge-index no_edge c.loop-edge-test.true)
    (c.loop-edge.invariant edge.earlier (sym c.is_marked.ensures ∙ c.if-is_marked.true))
