use Rattle.std.proofs.Common.{◌≡◌, ◌<◌, ◌∙◌, refl, sym, ap, ap₂, subst, Some, length, true}
use Rattle.batch_matrix.specs.Matrix.{after_report}
use Rattle.batch_model.specs.Events as Events
use Rattle.batch_recipe.{specs.Values.are_outputs, specs.Values.with_values, proofs.ValueUpdates.same-at}
use Rattle.batch_engine.{specs.Answered.IsAnswered, specs.Kept.IsKept, specs.View.EngineView, specs.View.tree_of, specs.declared.batch.Batch.Batch, specs.declared.reply.Reply.Reply, proofs.BatchLookups.in-charts, proofs.ReportAnswers.IsReporting, proofs.ReportAnswers.report-bad, proofs.ReportAnswers.report-left_out, proofs.ReportAnswers.report-made, proofs.ReportAnswers.reporting-of, proofs.BatchAtIndex.counted-set, proofs.BatchAtIndex.read-there, proofs.InvariantAfterMove.changed}
use Rattle.batch_engine.proofs.control.Control.report.Goals as goal
use Rattle.batch_engine.proofs.control.Control.report.Goals.{After-are_outputs, After-index_mut-batch, After-recipe-chart, After-report}

pub recipe-chart-requires : goal.recipe-chart-requires
recipe-chart-requires c =
    let g = c.in-Some.ensures in
    subst (λ (z : EngineView). c.in-Some.live.recipe < length z.cleared.recipes) (sym c.self.view_is)
    (subst (λ q. q < length c.args.self.now.cleared.recipes) (sym g.1.recipe_is) (in-charts c.args.self.now (subst IsKept c.self.view_is c.self.invariant.kept) c.in-Some.live.index g.0 g.1.at))

-- the batch of the live phase, and its recipe
found : (c : After-recipe-chart) → IsReporting c.args.self.now c.args.report.now.unit c.args.report.now.phase c.in-Some.live c.in-Some.ensures.0 c.recipe-chart.result.now
found c = reporting-of c.self.view_is c.self.invariant.kept c.in-Some.ensures c.recipe-chart.ensures

-- whether the outputs may be set
outputs : (c : After-are_outputs) → are_outputs c.recipe-chart.result.now.outputs.items c.args.report.now.outputs.items ≡ c.are_outputs.result
outputs c = ap₂ (λ xs ys. are_outputs xs ys) (sym c.deref.ensures.value) (sym c.deref-2.ensures.value) ∙ sym c.are_outputs.ensures

pub returns-then-not-are_outputs : goal.returns-then-not-are_outputs
returns-then-not-are_outputs c =
    let w = goal.at.returns-then-not-are_outputs c in
    report-bad (found w.After-recipe-chart) c.args.report.now.word c.args.report.now.outputs.items c.requires.settled c.args.report.now.done_alone c.in-Some-after_report._end (sym c.after_report.ensures ∙ c.in-Some-after_report.is)
    (outputs w.After-are_outputs ∙ c.if-not-are_outputs.true)

pub returns-in-Some-left_out : goal.returns-in-Some-left_out
returns-in-Some-left_out c =
    let w = goal.at.returns-in-Some-left_out c in
    report-left_out (found w.After-recipe-chart) c.args.report.now.word c.args.report.now.outputs.items c.requires.settled c.args.report.now.done_alone c.in-Some-after_report._end (sym c.after_report.ensures ∙ c.in-Some-after_report.is)
    (outputs w.After-are_outputs ∙ c.if-not-are_outputs.false) c.in-Some-left_out.output (sym c.left_out.ensures ∙ c.in-Some-left_out.is)

-- the same of the batch that is lent
lent : (c : After-index_mut-batch) → IsReporting c.args.self.now c.args.report.now.unit c.args.report.now.phase c.in-Some.live c.index_mut-batch.result.now c.recipe-chart.result.now
lent c =
    let v : EngineView = c.args.self.now in
    let j = reporting-of c.self.view_is c.self.invariant.kept c.in-Some.ensures c.recipe-chart.ensures in
    subst (λ (z : Batch). IsReporting v c.args.report.now.unit c.args.report.now.phase c.in-Some.live z c.recipe-chart.result.now)
    (same-at v.batches c.in-Some.live.index c.in-Some.ensures.0 c.index_mut-batch.result.now j.phase.at (read-there c.self.view_is c.self.invariant.kept j.phase.at c.index_mut-batch.ensures.value).at) j

pub report-requires-clause-running : goal.report-requires-clause-running
report-requires-clause-running c = (lent (goal.at.report-requires-clause-running c).After-index_mut-batch).seat.running

pub report-requires-clause-accepts : goal.report-requires-clause-accepts
report-requires-clause-accepts c =
    let j = lent (goal.at.report-requires-clause-accepts c).After-index_mut-batch in
    (c.in-Some.live.state, c.in-Some-after_report._end, j.phase.live c.recipe-chart.result.now j.seat.listed, sym c.after_report.ensures ∙ c.in-Some-after_report.is)

-- the effect of the report on the view
abbrev own : After-report → Batch
own c = record (c.index_mut-batch.result.now) { values = c.set_outputs.new.self; state = c.state_after-next.result; running = c.report.new.self }

made : (c : After-report) → IsReporting c.args.self.now c.args.report.now.unit c.args.report.now.phase c.in-Some.live c.index_mut-batch.result.now c.recipe-chart.result.now
    → are_outputs c.recipe-chart.result.now.outputs.items c.args.report.now.outputs.items ≡ true
    → IsKept (changed c.args.self.now c.in-Some.live.index (own c) c.args.self.now.allocation)
    × IsAnswered c.args.self.now (Events.report c.args.report.now.unit c.args.report.now.phase c.args.report.now.word c.args.report.now.outputs.items)
    (Reply.Reported c.in-Some.live.phase.unit c.in-Some.live.phase.phase c.args.report.now.word c.index_mut-batch.result.now.number c.in-Some.live.recipe c.in-Some.live.node c.state_after-next.result)
    (changed c.args.self.now c.in-Some.live.index (own c) c.args.self.now.allocation)
made c j fine =
    let ends : after_report c.in-Some.live.state c.args.report.now.word ≡ Some c.in-Some-after_report._end = sym c.after_report.ensures ∙ c.in-Some-after_report.is in
    let left = c.report.ensures (tree_of c.args.self.now.cleared c.index_mut-batch.result.now) j.seat.chart j.seat.runs in
    report-made j c.args.report.now.word c.args.report.now.outputs.items c.requires.settled c.args.report.now.done_alone c.in-Some-after_report._end ends fine (sym c.left_out.ensures ∙ c.in_default-left_out.is)
    c.set_outputs.new.self (c.set_outputs.ensures ∙ ap (λ xs. with_values xs c.index_mut-batch.result.now.values) c.deref-3.ensures.value) c.report.new.self left.0
    (λ d e runs. left.1 c.in-Some.live.state c.in-Some-after_report._end d (j.phase.live c.recipe-chart.result.now j.seat.listed) ends e runs) c.state_after-next.result c.state_after-next.ensures

pub invariant_of-self : goal.invariant_of-self
invariant_of-self c =
    let w = goal.at.invariant_of-self c in
    counted-set c.in-Some.live.index (own w.After-report) (λ a. a) c.self.view_is c.self.invariant c.index_mut-batch.ensures.value refl refl refl
    (made w.After-report (lent w.After-index_mut-batch) (outputs w.After-are_outputs ∙ c.if-not-are_outputs.false)).0

pub returns : goal.returns
returns c =
    let w = goal.at.returns c in
    subst (λ (z : EngineView). IsAnswered c.args.self.now (Events.report c.args.report.now.unit c.args.report.now.phase c.args.report.now.word c.args.report.now.outputs.items)
    (Reply.Reported c.in-Some.live.phase.unit c.in-Some.live.phase.phase c.args.report.now.word c.index_mut-batch.result.now.number c.in-Some.live.recipe c.in-Some.live.node c.state_after-next.result)
    (changed z c.in-Some.live.index (own w.After-report) z.allocation)) (sym c.self.view_is)
    (made w.After-report (lent w.After-index_mut-batch) (outputs w.After-are_outputs ∙ c.if-not-are_outputs.false)).1
