use Rattle.std.proofs.Common.{◌≡◌, ◌∙◌, refl, sym, subst, Option, Some, None}
use Rattle.batch_model.specs.Moves as Moves
use Rattle.batch_chart.specs.{OwnMoves.own_next, Seen.machine_move}
use Rattle.batch_engine.{specs.declared.batch.Batch.Batch, specs.Steps.IsBatchStep, specs.Steps.IsFirstGrant, specs.View.EngineView, specs.View.model_batch, specs.View.plant_of, specs.View.setup, specs.View.tree_of, proofs.StoppedBatches.stopped-moves, proofs.BatchPlaces.Has-batch_of, proofs.BatchLookups.has, proofs.BatchAtIndex.IsRead, proofs.BatchAtIndex.IsSeat, proofs.BatchAtIndex.read-at, proofs.BatchAtIndex.recipe-batch, proofs.BatchAtIndex.recipe-tree, proofs.BatchAtIndex.seat-of, proofs.RecordOfPlant.safe, proofs.NextStep.grant-least, proofs.NextStep.no-move, proofs.NextStep.own-least}
use Rattle.batch_engine.proofs.control.Control.batch_step.Goals as goal
use Rattle.batch_engine.proofs.control.Control.batch_step.Goals.{After-recipe-chart}

seat : (c : After-recipe-chart) → IsSeat c.args.self.now c.args.index c.index-batch.result.now c.recipe-chart.result.now
seat c = seat-of c.self.view_is (read-at c.self.view_is c.self.invariant.kept c.requires c.index-batch.ensures) c.recipe-chart.ensures

pub returns-in-Some : goal.returns-in-Some
returns-in-Some c =
    let v : EngineView = c.args.self.now in
    let b : Batch = c.index-batch.result.now in
    let s = seat (goal.at.returns-in-Some c).After-recipe-chart in (
      refl,
      record {
        batch = b;
        chart = c.recipe-chart.result.now;
        here = record { at = s.at; listed = s.listed };
        can = c.in-Some.ensures.possible;
        about = c.in-Some.ensures.about (tree_of v.cleared b) s.chart (recipe-tree s) s.runs;
        is = own-least v c.args.index b (machine_move (tree_of v.cleared b) (model_batch v.cleared b) c.in-Some.made) s.at
            (sym (c.in-Some.ensures.next (tree_of v.cleared b) (model_batch v.cleared b) s.chart s.runs refl refl (recipe-batch s)));
      },
    )

pub returns-in_err-node : goal.returns-in_err-node
returns-in_err-node c =
    let v : EngineView = c.args.self.now in
    let b : Batch = c.index-batch.result.now in
    let s = seat (goal.at.returns-in_err-node c).After-recipe-chart in
    let grants : IsFirstGrant v b None = subst (IsFirstGrant v b) c.in_err-node.was c.next_grant.ensures in
    subst (IsBatchStep v c.args.index) (sym c.from_residual.ensures)
    (no-move v c.args.index b s.at (sym (c.in_default.ensures.next (tree_of v.cleared b) (model_batch v.cleared b) s.chart s.runs refl refl (recipe-batch s))) grants)

pub returns : goal.returns
returns c =
    let v : EngineView = c.args.self.now in
    let b : Batch = c.index-batch.result.now in
    let s = seat (goal.at.returns c).After-recipe-chart in
    let own : ◌≡◌ {A = Option Moves.Move} None (own_next (model_batch v.cleared b)) = c.in_default.ensures.next (tree_of v.cleared b) (model_batch v.cleared b) s.chart s.runs refl refl (recipe-batch s) in
    let found : IsFirstGrant v b (Some (c.in_ok-node.node, c.in_ok-node.resource, c.in_ok-node.units)) = subst (IsFirstGrant v b) c.in_ok-node.was c.next_grant.ensures in
    let g = found c.args.index s.at in (
      refl,
      record {
        batch = g.batch;
        chart = g.chart;
        here = g.here;
        waits = g.waits;
        need = g.need;
        asks = g.asks;
        number = g.number;
        units_are = g.units_are;
        first = g.first;
        is = grant-least v c.args.index b _ s.at (sym own) g.is;
      },
    )

pub next_grant-requires : goal.next_grant-requires
next_grant-requires c = (c.args.index, (seat (goal.at.next_grant-requires c).After-recipe-chart).at)

pub next_move-requires : goal.next_move-requires
next_move-requires c = (seat (goal.at.next_move-requires c).After-recipe-chart).running

pub returns-then-is_stopped : goal.returns-then-is_stopped
returns-then-is_stopped c =
    let v : EngineView = c.args.self.now in
    let b : Batch = c.index-batch.result.now in
    let r : IsRead v c.args.index b = read-at c.self.view_is c.self.invariant.kept c.requires c.index-batch.ensures in
    record {
      batch = b;
      at = r.at;
      none = stopped-moves (setup v.cleared) (plant_of v) (model_batch v.cleared b) (sym c.is_stopped.ensures ∙ c.if-is_stopped.true)
          ((safe v r.kept).sound (model_batch v.cleared b) (Has-batch_of v.cleared v.batches b (has v r.kept c.args.index b r.at))).fits;
    }
