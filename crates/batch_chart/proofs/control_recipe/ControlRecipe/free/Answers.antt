use Rattle.std.proofs.Common.{◌∙◌, ap, length, length-set}
use Rattle.batch_chart.proofs.EndedActSigns.{act-ends, given-count, frees-held, frees-over, neat-held, neat-over, count-over}
use Rattle.batch_chart.proofs.control_recipe.ControlRecipe.free.Goals as goal

pub give_up-requires-clause-ends : goal.give_up-requires-clause-ends
give_up-requires-clause-ends c = act-ends _ _ _ c.requires.order.lives _ c.requires.node

pub returns-then-held-ne0 : goal.returns-then-held-ne0
returns-then-held-ne0 c = record {
  freed = frees-held _ _ c.args.self.now.values.now _ c.requires.order.lives _ c.requires.node c.requires.acts c.requires.left _ c.requires.order.count c.requires.order.noted.4 _ _ c.give_up.auto.stages c.give_up.ensures _ _ c.if-held-ne0.true c.set_stage.ensures.stages;
  neat = neat-held _ _ c.args.self.now.values.now _ c.requires.order.lives _ c.requires.node c.requires.acts c.requires.left _ c.requires.order.count c.requires.order.noted.4 _ _ c.give_up.auto.stages c.give_up.ensures _ _ _ c.set_stage.ensures;
  count = ap length c.set_stage.ensures.signs ∙ length-set _ _ _ ∙ given-count _ _ c.args.self.now.values.now _ c.requires.order.lives _ c.requires.node c.requires.acts c.requires.left _ c.requires.order.count c.requires.order.noted.4 _ _ c.give_up.auto.stages c.give_up.ensures;
}

pub returns : goal.returns
returns c =
    let rises = rw c.set.ensures at c.rise.ensures in
    let long = c.rise.auto.stages ∙ length-set c.give_up.new.stages c.args.node _ in
    record {
      freed = frees-over _ _ c.args.self.now.values.now _ c.requires.order.lives _ c.requires.node c.requires.acts c.requires.left _ c.requires.order.count c.requires.order.noted.4 _ _ c.give_up.auto.stages c.give_up.ensures _ _ long rises _ c.if-held-ne0.false;
      neat = neat-over _ _ c.args.self.now.values.now _ c.requires.order.lives _ c.requires.node c.requires.acts c.requires.left _ c.requires.order.count c.requires.order.noted.4 _ _ c.give_up.auto.stages c.give_up.ensures _ _ long rises;
      count = count-over _ _ c.args.self.now.values.now _ c.requires.order.lives _ c.requires.node c.requires.acts c.requires.left _ c.requires.order.count c.requires.order.noted.4 _ _ c.give_up.auto.stages c.give_up.ensures _ _ long rises;
    }
