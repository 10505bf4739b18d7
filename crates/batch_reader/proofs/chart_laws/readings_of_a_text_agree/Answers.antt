use Rattle.batch_reader.proofs.{ChartCompleteness.one_chart, ChartOffsets.same_outside, ChartOffsets.same_par}
use Rattle.batch_reader.proofs.chart_laws.readings_of_a_text_agree.Goals as goal

pub returns-clause-chart : goal.returns-clause-chart
returns-clause-chart c = λ text a b f g x y. (one_chart x y).0

pub returns-clause-outside : goal.returns-clause-outside
returns-clause-outside c = same_outside

pub returns-clause-first_par : goal.returns-clause-first_par
returns-clause-first_par c = same_par
