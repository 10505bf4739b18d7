use Rattle.std.proofs.Common.{◌≡◌, refl, sym, subst, ℕ, Some}
use Rattle.std.specs.Prelude.{slice_get}
use Rattle.batch_chart.specs.declared.chart_move.Move.{Move}
use Rattle.batch_chart.specs.declared.chart_move.Move.TheVariants as Chart
use Rattle.batch_engine.{specs.declared.batch.Batch.Batch, specs.declared.line.Line.Line, specs.Steps.IsLineAt, specs.Steps.IsMover, specs.Steps.Tells, specs.View.EngineView, proofs.BatchLookups.got-chart, proofs.BatchAtIndex.chart-within, proofs.BatchAtIndex.linked-here, proofs.BatchAtIndex.mover, proofs.BatchAtIndex.needs-there, proofs.MoveLines.ask-told, proofs.MoveLines.begin-told, proofs.MoveLines.end-told, proofs.MoveLines.pass-told, proofs.MoveLines.release-told, proofs.MoveLines.state-told}
use Rattle.batch_engine.proofs.control.Control.own_line.Goals as goal
use Rattle.batch_engine.proofs.control.Control.own_line.Goals.{After-index-batch, After-recipe-chart}

moves : (c : After-index-batch) (m : Move) → c.args.made ≡ m → IsMover c.args.self.now c.args.index c.index-batch.result.now m
moves c m e = subst (IsMover c.args.self.now c.args.index c.index-batch.result.now) e (mover c.self.view_is c.self.invariant.kept c.requires c.index-batch.ensures)

listed : (c : After-recipe-chart) → slice_get c.args.self.now.cleared.recipes c.index-batch.result.now.recipe ≡ Some c.recipe-chart.result.now
listed c = got-chart c.args.self.now _ c.index-batch.result.now.recipe c.recipe-chart.result.now c.self.view_is c.recipe-chart.ensures

-- the line of the move
line-at : {v : EngineView} {i : ℕ} {b : Batch} {m n : Move} {line : Line} → IsMover v i b m → n ≡ m → Tells v b m line → IsLineAt v i n line
line-at {v} {i} {b} {m} {n} {line} h same tells = subst (λ (z : Move). IsLineAt v i z line) (sym same) (record { batch = b; at = h.at; tells = tells })

pub recipe-chart-requires : goal.recipe-chart-requires
recipe-chart-requires c =
    let h = moves (goal.at.recipe-chart-requires c).After-index-batch c.args.made refl in
    chart-within c.self.view_is (record { kept = h.kept; at = h.at })

pub send_line-requires : goal.send_line-requires
send_line-requires c =
    let h = moves (goal.at.send_line-requires c).After-index-batch (Chart.Send c.in-Send.node c.in-Send.command) c.in-Send.is in
    record { kept = h.kept; index = c.args.index; at = h.at; few = h.about }

pub returns-in-Send : goal.returns-in-Send
returns-in-Send c = line-at (moves (goal.at.returns-in-Send c).After-index-batch (Chart.Send c.in-Send.node c.in-Send.command) c.in-Send.is) c.in-Send.is c.send_line.ensures

pub start_line-requires : goal.start_line-requires
start_line-requires c =
    let h = moves (goal.at.start_line-requires c).After-index-batch (Chart.Start c.in-Start.node) c.in-Start.is in
    record { kept = h.kept; index = c.args.index; at = h.at; few = h.about }

pub returns-in-Start : goal.returns-in-Start
returns-in-Start c = line-at (moves (goal.at.returns-in-Start c).After-index-batch (Chart.Start c.in-Start.node) c.in-Start.is) c.in-Start.is c.start_line.ensures

pub resource_at-share-requires : goal.resource_at-share-requires
resource_at-share-requires c =
    let w = goal.at.resource_at-share-requires c in
    let h = moves w.After-index-batch (Chart.Release c.in-Release.node c.in-Release.need) c.in-Release.is in
    (c.args.self.now, needs-there c.args.index (linked-here c.self.view_is c.linked-set.ensures) h.kept h.at (listed w.After-recipe-chart) h.about.0 h.about.1)

pub returns-in-Release : goal.returns-in-Release
returns-in-Release c =
    let w = goal.at.returns-in-Release c in
    let h = moves w.After-index-batch (Chart.Release c.in-Release.node c.in-Release.need) c.in-Release.is in
    let number = c.resource_at-share.ensures c.args.self.now (needs-there c.args.index (linked-here c.self.view_is c.linked-set.ensures) h.kept h.at (listed w.After-recipe-chart) h.about.0 h.about.1) in
    line-at h c.in-Release.is (subst (Tells c.args.self.now c.index-batch.result.now (Chart.Release c.in-Release.node c.in-Release.need)) (sym c.claim_line.ensures) (release-told c.args.self.now h.kept c.args.index c.index-batch.result.now h.at number))

pub resource_at-share-requires-in-Pass : goal.resource_at-share-requires-in-Pass
resource_at-share-requires-in-Pass c =
    let w = goal.at.resource_at-share-requires-in-Pass c in
    let h = moves w.After-index-batch (Chart.Pass c.in-Pass.node c.in-Pass.to c.in-Pass.need) c.in-Pass.is in
    (c.args.self.now, needs-there c.args.index (linked-here c.self.view_is c.linked-set.ensures) h.kept h.at (listed w.After-recipe-chart) h.about.0 h.about.2)

pub returns-in-Pass : goal.returns-in-Pass
returns-in-Pass c =
    let w = goal.at.returns-in-Pass c in
    let h = moves w.After-index-batch (Chart.Pass c.in-Pass.node c.in-Pass.to c.in-Pass.need) c.in-Pass.is in
    let number = c.resource_at-share-in-Pass.ensures c.args.self.now (needs-there c.args.index (linked-here c.self.view_is c.linked-set.ensures) h.kept h.at (listed w.After-recipe-chart) h.about.0 h.about.2) in
    line-at h c.in-Pass.is (subst (Tells c.args.self.now c.index-batch.result.now (Chart.Pass c.in-Pass.node c.in-Pass.to c.in-Pass.need)) (sym c.pass_line.ensures) (pass-told c.args.self.now h.kept c.args.index c.index-batch.result.now h.at c.in-Pass.to number))

pub resource_at-share-requires-in-Ask : goal.resource_at-share-requires-in-Ask
resource_at-share-requires-in-Ask c =
    let w = goal.at.resource_at-share-requires-in-Ask c in
    let h = moves w.After-index-batch (Chart.Ask c.in-Ask.node c.in-Ask.need) c.in-Ask.is in
    (c.args.self.now, needs-there c.args.index (linked-here c.self.view_is c.linked-set.ensures) h.kept h.at (listed w.After-recipe-chart) h.about.0 h.about.1)

pub returns-in-Ask : goal.returns-in-Ask
returns-in-Ask c =
    let w = goal.at.returns-in-Ask c in
    let h = moves w.After-index-batch (Chart.Ask c.in-Ask.node c.in-Ask.need) c.in-Ask.is in
    let number = c.resource_at-share-in-Ask.ensures c.args.self.now (needs-there c.args.index (linked-here c.self.view_is c.linked-set.ensures) h.kept h.at (listed w.After-recipe-chart) h.about.0 h.about.1) in
    line-at h c.in-Ask.is (subst (Tells c.args.self.now c.index-batch.result.now (Chart.Ask c.in-Ask.node c.in-Ask.need)) (sym c.claim_line-in-Ask.ensures) (ask-told c.args.self.now h.kept c.args.index c.index-batch.result.now h.at number))

pub returns-in-State : goal.returns-in-State
returns-in-State c =
    let h = moves (goal.at.returns-in-State c).After-index-batch (Chart.State c.in-State.state) c.in-State.is in
    line-at h c.in-State.is (state-told c.args.self.now h.kept c.args.index c.index-batch.result.now h.at c.in-State.state)

pub returns-in-Begin : goal.returns-in-Begin
returns-in-Begin c =
    let h = moves (goal.at.returns-in-Begin c).After-index-batch (Chart.Begin c.in-Begin.node) c.in-Begin.is in
    line-at h c.in-Begin.is (begin-told c.args.self.now h.kept c.args.index c.index-batch.result.now h.at c.in-Begin.node)

pub returns-in-End : goal.returns-in-End
returns-in-End c =
    let h = moves (goal.at.returns-in-End c).After-index-batch (Chart.End c.in-End.node) c.in-End.is in
    line-at h c.in-End.is (end-told c.args.self.now h.kept c.args.index c.index-batch.result.now h.at c.in-End.node)
