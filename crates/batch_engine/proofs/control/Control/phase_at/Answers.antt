use Rattle.std.proofs.Common.{◌≡◌, ◌∙◌, ap, sym, subst, arith, Option, Some}
use Rattle.std.specs.Prelude.{slice_get, unwrap_or}
use Rattle.batch_engine.{specs.Steps.IsPhaseAt, specs.View.EngineView, specs.declared.batch.Batch.Batch, specs.declared.phase_number.PhaseNumber.PhaseNumber, specs.declared.phase_number.TheConstants.NO_PHASE, proofs.BatchLookups.got-chart, proofs.LinkedActs.phase-here, proofs.BatchAtIndex.IsRead, proofs.BatchAtIndex.chart-within, proofs.BatchAtIndex.entry-read, proofs.BatchAtIndex.entry-within, proofs.BatchAtIndex.linked-here, proofs.BatchAtIndex.linked-read, proofs.BatchAtIndex.linked-within}
use Rattle.batch_engine.proofs.control.Control.phase_at.Goals as goal
use Rattle.batch_engine.proofs.control.Control.phase_at.Goals.{After-recipe-chart}

listed : (c : After-recipe-chart) → slice_get c.args.self.now.cleared.recipes c.args.batch.now.recipe ≡ Some c.recipe-chart.result.now
listed c = got-chart c.args.self.now _ c.args.batch.now.recipe c.recipe-chart.result.now c.self.view_is c.recipe-chart.ensures

pub index-own-requires : goal.index-own-requires
index-own-requires c =
    let r : IsRead c.args.self.now c.requires.index c.args.batch.now = record { kept = c.requires.kept; at = c.requires.at } in
    omega (arith, c.from.ensures, linked-within (linked-here c.self.view_is c.linked-set.ensures) r)

pub recipe-chart-requires : goal.recipe-chart-requires
recipe-chart-requires c =
    let r : IsRead c.args.self.now c.requires.index c.args.batch.now = record { kept = c.requires.kept; at = c.requires.at } in
    chart-within c.self.view_is r

pub index-entry-requires : goal.index-entry-requires
index-entry-requires c =
    let r : IsRead c.args.self.now c.requires.index c.args.batch.now = record { kept = c.requires.kept; at = c.requires.at } in
    omega (arith, c.from-2.ensures, entry-within r (listed (goal.at.index-entry-requires c).After-recipe-chart) c.requires.few)

pub returns : goal.returns
returns c =
    let v : EngineView = c.args.self.now in
    let b : Batch = c.args.batch.now in
    let r : IsRead v c.requires.index b = record { kept = c.requires.kept; at = c.requires.at } in
    let chart = listed (goal.at.returns c).After-recipe-chart in
    let linked = linked-here c.self.view_is c.linked-set.ensures in
    let x = c.index-own.result.now in
    let e = c.index-entry.result.now in
    let here =
    phase-here v c.requires.kept c.requires.index b c.requires.at c.recipe-chart.result.now chart c.linked-set.result.now linked x (linked-read linked r c.from.ensures c.index-own.ensures)
    c.args.node c.requires.few e (entry-read r chart c.requires.few c.from-2.ensures c.index-entry.ensures) in
    subst (λ (p : PhaseNumber). IsPhaseAt v.cleared b c.args.node p.unit p.phase)
    (sym (c.unwrap_or.ensures ∙ ap (λ (o : Option PhaseNumber). unwrap_or o NO_PHASE) c.phase_by.ensures)) here
