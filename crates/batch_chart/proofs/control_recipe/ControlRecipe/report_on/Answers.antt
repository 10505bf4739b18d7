use Rattle.batch_chart.proofs.ChartAfterMove.{in-order-after}
use Rattle.batch_chart.proofs.control_recipe.ControlRecipe.report_on.Goals as goal

pub take_over-requires : goal.take_over-requires
take_over-requires c = record {
  order = in-order-after _ _ _ _ _ _ c.requires.order
      (λ t laid alive. (let a = c.requires.accepts in ((c.report_at.ensures.reported a.0 a.1 a.2 a.3).means t laid alive).0)) c.report_at.ensures.kept;
  nodes = c.requires.nodes;
}

pub returns : goal.returns
returns c = record {
  mid = c.report_at.new.stages;
  signs = c.report_at.new.signs;
  reported = c.report_at.ensures.reported;
  kept = c.report_at.ensures.kept;
  over = c.take_over.ensures;
}
