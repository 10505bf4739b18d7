use Rattle.batch_reader.proofs.ChartReader.{at_most_one}
use Rattle.batch_reader.proofs.chart_laws.a_text_has_one_chart.Goals as goal

pub returns : goal.returns
returns c = at_most_one
