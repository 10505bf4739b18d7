use Rattle.batch_check.proofs.ShortestCircles.{WalksBack-more}
use Rattle.batch_check.proofs.shortest.circle_behind.Goals as goal

pub loop-at-preserved : goal.loop-at-preserved
loop-at-preserved c =
    rw c.in_ok-insert-in-Some.ensures.items
    (WalksBack-more c.args.edges.now c.args.start c.args.level c.args.levels.now c.args.causes.now c.requires.within c.requires.back.has c.loop-at.walk.items c.loop-at.at
    c.loop-at.invariant c.in-Some.cause c.loop-at-test.true (rw c.from.ensures at c.in-Some.is))
