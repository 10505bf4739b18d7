use Rattle.batch_check.proofs.SpreadRounds.{IsSpread-next, KeepsSpreading-known, KeepsSpreading-other, KeepsSpreading-reach, level_positive}
use Rattle.batch_check.proofs.spreading.spread_on.Goals as goal
use Rattle.batch_check.proofs.spreading.spread_on.Goals.{then-levels-from+else-edge-start+then-levels-later-eq0, then-levels-from+else-edge-start+else-levels-later-eq0, else-levels-from}

pub loop-edge-preserved : goal.loop-edge-preserved
loop-edge-preserved c =
    let positive = level_positive c.args.edges.now c.args.start c.args.level c.args.levels.now c.args.causes.now c.requires.spread in
    elim c.if-levels-from.branch [
      | then-levels-from+else-edge-start+then-levels-later-eq0 w ↦
          rw (w.levels-is, w.causes-is, w.further-is, w.from-later.ensures)
          (KeepsSpreading-reach c.args.edges.now c.args.start c.args.level c.args.levels.now c.loop-edge.levels c.loop-edge.causes c.loop-edge.further c.loop-edge.edge-index
          c.requires.within positive c.loop-edge.invariant c.loop-edge-test.true (rw c.from.ensures at w.if-levels-from.true) w.if-edge-start.false (rw w.from-later.ensures at w.if-levels-later-eq0.true))
      | then-levels-from+else-edge-start+else-levels-later-eq0 w ↦
          rw (w.levels-is, w.causes-is, w.further-is)
          (KeepsSpreading-known c.args.edges.now c.args.start c.args.level c.args.levels.now c.loop-edge.levels c.loop-edge.causes c.loop-edge.further c.loop-edge.edge-index
          c.requires.within positive c.loop-edge.invariant c.loop-edge-test.true (rw c.from.ensures at w.if-levels-from.true) w.if-edge-start.false (rw w.from-later.ensures at w.if-levels-later-eq0.false))
      | else-levels-from w ↦
          rw (w.levels-is, w.causes-is, w.further-is)
          (KeepsSpreading-other c.args.edges.now c.args.start c.args.level c.args.levels.now c.loop-edge.levels c.loop-edge.causes c.loop-edge.further c.loop-edge.edge-index
          c.requires.within positive c.loop-edge.invariant c.loop-edge-test.true (rw c.from.ensures at w.if-levels-from.false))
    ]

pub returns-then-further : goal.returns-then-further
returns-then-further c =
    IsSpread-next c.args.edges.now c.args.start c.args.level c.args.levels.now c.loop-edge.levels c.loop-edge.causes c.loop-edge.further c.loop-edge.edge-index c.loop-edge.invariant c.loop-edge-test.false

pub returns-else-further : goal.returns-else-further
returns-else-further c = (
  IsSpread-next c.args.edges.now c.args.start c.args.level c.args.levels.now c.loop-edge.levels c.loop-edge.causes c.loop-edge.further c.loop-edge.edge-index c.loop-edge.invariant c.loop-edge-test.false,
  c.loop-edge.invariant.still c.if-further.false,
)
