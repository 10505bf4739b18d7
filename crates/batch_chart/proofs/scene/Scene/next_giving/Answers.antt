use Rattle.std.proofs.Common.{inl, inr}
use Rattle.std.proofs.lemmas.Bool.{cases_lt}
use Rattle.batch_chart.proofs.ReleaseOnStop.{gives-first, gives-next}
use Rattle.batch_chart.proofs.scene.Scene.next_giving.Goals as goal

pub loop-node-init : goal.loop-node-init
loop-node-init c = gives-first _ _ _

pub loop-node-preserved : goal.loop-node-preserved
loop-node-preserved c =
    gives-next c.args.self.now.nodes.now c.args.self.now.stages.now c.args.self.now.signs.now c.loop-node.from c.in-Some.node c.loop-node.invariant c.in-Some.ensures c.if-can_give.ensures

pub returns : goal.returns
returns c = λ k lt f. elim (cases_lt k c.loop-node.from) [ inl l ↦ c.loop-node.invariant k l f | inr le ↦ absurd (f (c.in_default.ensures k le lt)) ]
