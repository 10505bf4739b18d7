use Rattle.std.proofs.Common.{◌-◌, ◌≤◌, length}
use Rattle.batch_reader.specs.{ChartView.state_view, ChartMachine.IsAfter}
use Rattle.batch_reader.proofs.chart_reading.read_chart_and_par.Given as goal

abbrev pub invariant-loop-place : goal.invariant-loop-place
invariant-loop-place l = IsAfter l.text l.place (state_view l.text l.place l.state) × (l.place ≤ length l.text)

abbrev pub decreases-loop-place : goal.decreases-loop-place
decreases-loop-place l = length l.text - l.place
