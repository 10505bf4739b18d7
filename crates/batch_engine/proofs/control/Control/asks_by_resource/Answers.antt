use Rattle.std.proofs.Common.{◌<◌, ◌+◌, refl, sym, subst, arith, set}
use Rattle.std.specs.Prelude.{slice_index}
use Rattle.batch_chart.specs.NodesOf.{need_at}
use Rattle.batch_engine.{specs.Steps.IsNumberAt, specs.View.EngineView, specs.View.tree_of, specs.declared.batch.Batch.Batch, proofs.LineAsks.AreCounted, proofs.LineAsks.counted-all, proofs.LineAsks.counted-more, proofs.LineAsks.counted-none, proofs.LineAsks.few-resources, proofs.LineAsks.resource-within, proofs.BatchAtIndex.IsSeat, proofs.BatchAtIndex.linked-here, proofs.BatchAtIndex.needs-there, proofs.BatchAtIndex.read-own, proofs.BatchAtIndex.seat-of}
use Rattle.batch_engine.proofs.control.Control.asks_by_resource.Goals as goal
use Rattle.batch_engine.proofs.control.Control.asks_by_resource.Goals.{After-recipe-chart, After-resource_at-resource}

seat : (c : After-recipe-chart) → IsSeat c.args.self.now c.requires.0 c.args.batch.now c.recipe-chart.result.now
seat c = seat-of c.self.view_is (read-own c.self.view_is c.self.invariant.kept c.requires.1) c.recipe-chart.ensures

-- the number of the resource that the act waits for
number : (c : After-resource_at-resource) → IsSeat c.args.self.now c.requires.0 c.args.batch.now c.recipe-chart.result.now
    → IsNumberAt c.args.self.now.cleared c.args.batch.now c.in-Some.node c.in-Some.need c.resource_at-resource.result.0 c.resource_at-resource.result.1
number c s =
    let asks = c.in-Some.ensures.some.1 (tree_of c.args.self.now.cleared c.args.batch.now) s.chart s.runs in
    c.resource_at-resource.ensures c.args.self.now (needs-there c.requires.0 (linked-here c.self.view_is c.linked-set.ensures) s.kept s.at s.listed asks.0 asks.1)

pub waiting-requires : goal.waiting-requires
waiting-requires c = (seat (goal.at.waiting-requires c).After-recipe-chart).running

pub resource_at-resource-requires : goal.resource_at-resource-requires
resource_at-resource-requires c =
    let s = seat (goal.at.resource_at-resource-requires c).After-recipe-chart in
    let asks = c.in-Some.ensures.some.1 (tree_of c.args.self.now.cleared c.args.batch.now) s.chart s.runs in
    (c.args.self.now, needs-there c.requires.0 (linked-here c.self.view_is c.linked-set.ensures) s.kept s.at s.listed asks.0 asks.1)

-- there is a count of it
within : (c : After-resource_at-resource) → IsSeat c.args.self.now c.requires.0 c.args.batch.now c.recipe-chart.result.now → c.resource_at-resource.result.0 < 384
within c s =
    resource-within c.args.self.now s.kept (need_at (tree_of c.args.self.now.cleared c.args.batch.now) c.in-Some.node c.in-Some.need).resource c.resource_at-resource.result.0 (number c s).0

pub bounds-asks-from : goal.bounds-asks-from
bounds-asks-from c =
    let w = goal.at.bounds-asks-from c in
    omega (arith, within w.After-resource_at-resource (seat w.After-recipe-chart), c.from.ensures)

pub bounds-asks-from-in-Some : goal.bounds-asks-from-in-Some
bounds-asks-from-in-Some c =
    let w = goal.at.bounds-asks-from-in-Some c in
    omega (arith, within w.After-resource_at-resource (seat w.After-recipe-chart), c.from.ensures)

pub loop-node-init : goal.loop-node-init
loop-node-init c = (omega arith, counted-none c.args.self.now c.args.batch.now.number)

pub returns-clause-known : goal.returns-clause-known
returns-clause-known c =
    let s = seat (goal.at.returns-clause-known c).After-recipe-chart in
    omega (arith, few-resources c.args.self.now s.kept, c.loop-node.invariant.1.count)

pub loop-node-preserved : goal.loop-node-preserved
loop-node-preserved c =
    let w = goal.at.loop-node-preserved c in
    let v : EngineView = c.args.self.now in
    let b : Batch = c.args.batch.now in
    let s = seat w.After-recipe-chart in (
      omega (arith, c.in-Some.ensures.small),
      subst (λ q. AreCounted v b.number (c.in-Some.node + 1) (set c.loop-node.asks q (slice_index c.loop-node.asks q + 1))) (sym c.from.ensures)
          (counted-more v s.kept c.requires.0 b s.at c.loop-node.from c.in-Some.node c.in-Some.need c.resource_at-resource.result.0 c.loop-node.asks c.loop-node.invariant.1 c.in-Some.ensures.some.0
          (λ j l ge lt. c.in-Some.ensures.before (tree_of v.cleared b) s.chart s.runs j l ge lt) (c.in-Some.ensures.some.1 (tree_of v.cleared b) s.chart s.runs)
          (number w.After-resource_at-resource s).0),
    )

pub returns-clause-asks : goal.returns-clause-asks
returns-clause-asks c =
    let v : EngineView = c.args.self.now in
    let b : Batch = c.args.batch.now in
    let s = seat (goal.at.returns-clause-asks c).After-recipe-chart in
    counted-all v s.kept c.requires.0 b s.at c.loop-node.from c.loop-node.asks c.loop-node.invariant.1 (λ j l ge. c.in_default.ensures.none refl (tree_of v.cleared b) s.chart s.runs j l ge)
