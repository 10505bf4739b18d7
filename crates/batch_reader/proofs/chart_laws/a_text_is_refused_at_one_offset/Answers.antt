use Rattle.std.proofs.Common.{◌∷◌}
use Rattle.batch_reader.proofs.ChartOffsets.{one_fault, one_number}
use Rattle.batch_reader.proofs.chart_laws.a_text_is_refused_at_one_offset.Goals as goal

pub returns-clause-no_chart : goal.returns-clause-no_chart
returns-clause-no_chart c = one_fault

pub returns-clause-out_of_range : goal.returns-clause-out_of_range
returns-clause-out_of_range c = one_number

pub returns-clause-one_cause : goal.returns-clause-one_cause
returns-clause-one_cause c = λ text m n x y. let wide = y.wide in x.no_chart wide.0 (record { outside = n ∷ wide.1; pars = wide.2 }) wide.3
