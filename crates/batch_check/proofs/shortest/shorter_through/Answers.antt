use Rattle.std.proofs.Common.{◌+◌, arith, subst, sym}
use Rattle.batch_check.{specs.Spreading.NoneBelow, proofs.ShortestCircles.NoneBelow-less, proofs.ShortestCircles.NoneBelow-spread, proofs.ShortestCircles.NoneBelow-still}
use Rattle.batch_check.proofs.shortest.shorter_through.Goals as goal

pub returns-in-Still : goal.returns-in-Still
returns-in-Still c =
    NoneBelow-still c.args.edges.now c.args.start (c.loop-level.level + 1) c.spread_on.new.levels c.spread_on.new.causes c.in-Still.ensures.0 c.args.most
    (λ k. let low = c.in-Still.ensures.1 k in omega arith)

pub returns-in-Back : goal.returns-in-Back
returns-in-Back c =
    let closed = c.in_ok-circle-in-Back.ensures in
    record {
      is_circle = closed.is_circle;
      fewer = omega (arith, closed.sized, c.loop-level-test.true);
      none =
          subst (λ n. NoneBelow c.args.edges.now c.args.start n) (sym closed.sized)
          (NoneBelow-spread c.args.edges.now c.args.start c.loop-level.level c.loop-level.levels.items c.loop-level.causes.items c.loop-level.invariant.0);
    }

pub returns : goal.returns
returns c =
    NoneBelow-less c.args.edges.now c.args.start c.loop-level.level c.args.most c.loop-level-test.false
    (NoneBelow-spread c.args.edges.now c.args.start c.loop-level.level c.loop-level.levels.items c.loop-level.causes.items c.loop-level.invariant.0)
