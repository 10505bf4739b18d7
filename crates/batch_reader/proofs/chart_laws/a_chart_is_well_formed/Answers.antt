use Rattle.batch_reader.proofs.ChartForms.{is_formed}
use Rattle.batch_reader.proofs.chart_laws.a_chart_is_well_formed.Goals as goal

pub returns : goal.returns
returns c = is_formed
