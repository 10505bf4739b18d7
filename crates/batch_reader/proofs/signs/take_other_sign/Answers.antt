use Rattle.std.proofs.Common.{sym, ap, ◌∙◌}
use Rattle.batch_recipe.specs.Diagram.{diagram_of}
use Rattle.batch_reader.specs.ChartView.{test_view, want_view}
use Rattle.batch_reader.proofs.signs.take_other_sign.Goals as goal

pub unreachable-requires : goal.unreachable-requires
unreachable-requires c = c.requires.chart (diagram_of c.in-AfterChart.field-0) (ap want_view (sym c.replace.ensures.value ∙ c.in-AfterChart.is))

pub unreachable-requires-in-AfterCond : goal.unreachable-requires-in-AfterCond
unreachable-requires-in-AfterCond c = c.requires.condition (test_view c.in-AfterCond.field-0) c.in-AfterCond.field-1 (ap want_view (sym c.replace.ensures.value ∙ c.in-AfterCond.is))
