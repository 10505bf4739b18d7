use Rattle.batch_chart.proofs.ChartAfterMove.{in-order-after}
use Rattle.batch_chart.proofs.control_recipe.ControlRecipe.move_on.Goals as goal

pub take_over-requires : goal.take_over-requires
take_over-requires c = record {
  order = in-order-after _ _ _ _ _ _ c.requires.order (λ t laid alive. (c.make_move.ensures.made.means t laid alive).0) c.make_move.ensures.kept;
  nodes = c.requires.nodes;
}

pub returns : goal.returns
returns c = record {
  mid = c.make_move.new.stages;
  signs = c.make_move.new.signs;
  made = c.make_move.ensures.made;
  kept = c.make_move.ensures.kept;
  over = c.take_over.ensures;
}
