use Rattle.std.proofs.Common.{◌≡◌, refl, sym, ◌∙◌, ap, subst, ℕ, List, Some, None, arith}
use Rattle.std.specs.Prelude.{position}
use Rattle.batch_cell.specs.LookUps.{units_of}
use Rattle.batch_chart.{specs.Charts.IsLive, specs.Charts.remains_from, specs.NodesOf.node_at, specs.NodesOf.phase_at, specs.NodesOf.phase_named, proofs.LivePhase.from-first}
use Rattle.batch_model.specs.{Events.live_in, Rest.acts}
use Rattle.batch_recipe.{specs.Conditions.Name, specs.Conditions.same_name, specs.declared.recipe.Recipe.Recipe, proofs.ValueUpdates.same-at}
use Rattle.batch_verify.proofs.ListLookups.{found_below}
use Rattle.batch_engine.{specs.declared.batch.Batch.Batch, specs.Names.resource_name, specs.View.EngineView, specs.View.model_batch, specs.View.tree_of, proofs.ElementAtIndex.at-same, proofs.LivePhases.found-on, proofs.LivePhases.named-phase, proofs.LivePhases.passed-over, proofs.LivePhases.phase-within, proofs.BatchAtIndex.IsSeat, proofs.BatchAtIndex.read-at, proofs.BatchAtIndex.seat-of, proofs.UnitNumbers.unit-is_resource, proofs.MoveLines.resource-told}
use Rattle.batch_engine.proofs.control.Control.live_in.Goals as goal
use Rattle.batch_engine.proofs.control.Control.live_in.Goals.{After-phase_at-number, After-recipe-chart}

seat : (c : After-recipe-chart) → IsSeat c.args.self.now c.args.index c.index-batch.result.now c.recipe-chart.result.now
seat c = seat-of c.self.view_is (read-at c.self.view_is c.self.invariant.kept c.requires c.index-batch.ensures) c.recipe-chart.ensures

-- the number of the unit that the live phase is of
own : (c : After-phase_at-number) → IsSeat c.args.self.now c.args.index c.index-batch.result.now c.recipe-chart.result.now
    → position (same_name (phase_at (tree_of c.args.self.now.cleared c.index-batch.result.now) c.in-Some.node).unit) (units_of c.args.self.now.cleared.cell) ≡ Some c.phase_at-number.result.unit
own c s =
    let t = tree_of c.args.self.now.cleared c.index-batch.result.now in
    c.phase_at-number.ensures.among ((phase_at t c.in-Some.node).unit, c.args.phase.now) (c.in-Some.ensures.runs t s.chart s.runs)

pub loop-node-init : goal.loop-node-init
loop-node-init c =
    let v : EngineView = c.args.self.now in
    let b : Batch = c.index-batch.result.now in
    (omega arith, λ name number. ap (live_in (model_batch v.cleared b) name c.args.phase.now) (sym (from-first (tree_of v.cleared b) b.running.stages.items)))

pub live-requires : goal.live-requires
live-requires c = (seat (goal.at.live-requires c).After-recipe-chart).running

pub phase_at-number-requires : goal.phase_at-number-requires
phase_at-number-requires c =
    let s = seat (goal.at.phase_at-number-requires c).After-recipe-chart in
    let t = tree_of c.args.self.now.cleared c.index-batch.result.now in
    let named : phase_named (node_at t c.in-Some.node).here ≡ Some ((phase_at t c.in-Some.node).unit, c.args.phase.now) = c.in-Some.ensures.runs t s.chart s.runs in
    record { kept = s.kept; index = c.args.index; at = s.at; few = phase-within t c.in-Some.node ((phase_at t c.in-Some.node).unit, c.args.phase.now) named }

pub returns-then-number-unit : goal.returns-then-number-unit
returns-then-number-unit c =
    let w = goal.at.returns-then-number-unit c in
    let v : EngineView = c.args.self.now in
    let b : Batch = c.index-batch.result.now in
    let node : ℕ = c.in-Some.node in
    let s = seat w.After-recipe-chart in
    let t = tree_of v.cleared b in
    let units : List Name = units_of v.cleared.cell in
    let is : position (same_name (phase_at t node).unit) units ≡ Some c.phase_at-number.result.unit = own w.After-phase_at-number s in λ name number. (
      refl,
      b,
      record {
        at = s.at;
        recipe_is = refl;
        live = λ x e. subst (λ (z : Recipe). IsLive z b.running node c.in-Some.state) (same-at v.cleared.recipes b.recipe c.recipe-chart.result.now x s.listed e) c.in-Some.ensures.live;
        unit_is = ap (resource_name v.cleared) c.if-number-unit.true ∙ resource-told v.cleared name c.args.unit number;
        name_is = c.phase_at-number.ensures.name_is ∙ named-phase (node_at t node).here ((phase_at t node).unit, c.args.phase.now) (c.in-Some.ensures.runs t s.chart s.runs);
      },
      c.loop-node.invariant.1 name number ∙ c.in-Some.ensures.found t (model_batch v.cleared b) name s.chart s.runs
          ∙ found-on t (model_batch v.cleared b) (remains_from t b.running) name c.args.phase.now node c.in-Some.state units c.phase_at-number.result.unit is
          ((unit-is_resource v.cleared name c.args.unit c.phase_at-number.result.unit number (found_below (same_name (phase_at t node).unit) units c.phase_at-number.result.unit is)).0 (omega (arith, c.if-number-unit.true))),
    )

pub loop-node-preserved : goal.loop-node-preserved
loop-node-preserved c =
    let w = goal.at.loop-node-preserved c in
    let v : EngineView = c.args.self.now in
    let b : Batch = c.index-batch.result.now in
    let node : ℕ = c.in-Some.node in
    let s = seat w.After-recipe-chart in
    let t = tree_of v.cleared b in
    let units : List Name = units_of v.cleared.cell in
    let is : position (same_name (phase_at t node).unit) units ≡ Some c.phase_at-number.result.unit = own w.After-phase_at-number s in (
      omega (arith, c.in-Some.ensures.later.1),
      λ name number. c.loop-node.invariant.1 name number ∙ c.in-Some.ensures.found t (model_batch v.cleared b) name s.chart s.runs
          ∙ passed-over t (model_batch v.cleared b) (remains_from t b.running) name c.args.phase.now node c.in-Some.state units c.phase_at-number.result.unit is
          (λ unit. absurd (
          let same : c.args.unit ≡ c.phase_at-number.result.unit = (unit-is_resource v.cleared name c.args.unit c.phase_at-number.result.unit number (found_below (same_name (phase_at t node).unit) units c.phase_at-number.result.unit is)).1 unit in
          omega (arith, c.if-number-unit.false, same)
          )),
    )

pub returns : goal.returns
returns c =
    let v : EngineView = c.args.self.now in
    let b : Batch = c.index-batch.result.now in
    let s = seat (goal.at.returns c).After-recipe-chart in
    λ name number d e. at-same v.batches c.args.index b d (λ (z : Batch). live_in (model_batch v.cleared z) name c.args.phase.now (acts (model_batch v.cleared z).rest) ≡ None) s.at e
    (c.loop-node.invariant.1 name number ∙ c.in_default.ensures.found (tree_of v.cleared b) (model_batch v.cleared b) name s.chart s.runs)
