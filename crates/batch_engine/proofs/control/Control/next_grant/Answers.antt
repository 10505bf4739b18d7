use Rattle.batch_engine.{specs.View.tree_of, proofs.BatchLookups.no-grants, proofs.BatchAtIndex.IsSeat, proofs.BatchAtIndex.read-own, proofs.BatchAtIndex.seat-of}
use Rattle.batch_engine.proofs.control.Control.next_grant.Goals as goal
use Rattle.batch_engine.proofs.control.Control.next_grant.Goals.{After-recipe-chart}

seat : (c : After-recipe-chart) → IsSeat c.args.self.now c.requires.0 c.args.batch.now c.recipe-chart.result.now
seat c = seat-of c.self.view_is (read-own c.self.view_is c.self.invariant.kept c.requires.1) c.recipe-chart.ensures

pub awaits_none-requires : goal.awaits_none-requires
awaits_none-requires c = (seat (goal.at.awaits_none-requires c).After-recipe-chart).running

pub returns-then-awaits_none : goal.returns-then-awaits_none
returns-then-awaits_none c =
    let s = seat (goal.at.returns-then-awaits_none c).After-recipe-chart in
    no-grants c.args.self.now s.kept c.requires.0 c.args.batch.now s.at (λ j l asks served. c.awaits_none.ensures.none c.if-awaits_none.true (tree_of c.args.self.now.cleared c.args.batch.now) s.chart s.runs j l asks)
