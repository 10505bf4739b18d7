use Rattle.batch_check.proofs.ShortestCircles.{HasFewest-all}
use Rattle.batch_check.proofs.shortest.shortest_circle.Goals as goal

pub returns-clause-fewest : goal.returns-clause-fewest
returns-clause-fewest c =
    HasFewest-all c.args.edges.now c.loop-start.shortest.items c.loop-start.start c.loop-start.invariant c.args.count c.requires.within c.loop-start-test.false
