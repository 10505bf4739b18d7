use Rattle.std.proofs.Common.{◌-◌}
use Rattle.batch_reader.specs.{ChartView.GoesOn, declared.lexeme.Lexeme.TheVariants.Letters}
use Rattle.batch_reader.proofs.chart_reading.past_letters.Given as goal

abbrev pub invariant-loop-at : goal.invariant-loop-at
invariant-loop-at l = GoesOn l.text l.place l.at (Letters l.start)

abbrev pub decreases-loop-at : goal.decreases-loop-at
decreases-loop-at l = l.end - l.at
