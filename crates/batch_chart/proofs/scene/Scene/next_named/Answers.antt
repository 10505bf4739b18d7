use Rattle.std.proofs.Common.{arith, ap, ◌∙◌}
use Rattle.batch_chart.{specs.Nexts.is_named, proofs.LivePhaseSigns.none-at_first, proofs.LivePhaseSigns.passed-named}
use Rattle.batch_chart.proofs.scene.Scene.next_named.Goals as goal

pub loop-node-init : goal.loop-node-init
loop-node-init c = record { onwards = omega arith; none = none-at_first _ _ _ _ _ }

pub loop-node-preserved : goal.loop-node-preserved
loop-node-preserved c = record {
  onwards = omega (arith, c.loop-node.invariant.onwards, c.in-Some.ensures.0);
  none = passed-named c.args.self.now.nodes.now c.args.self.now.recipe.now c.args.self.now.signs.now c.args.from c.args.phase.now c.loop-node.at c.in-Some.node c.loop-node.invariant.none c.in-Some.ensures
      (c.if-is_named.ensures ∙ ap (λ κ. is_named κ c.args.self.now.recipe.now c.args.phase.now) c.kind_of.ensures);
}
