use Rattle.std.proofs.Common.{◌≡◌, ◌≤◌, subst, inl, inr, arith}
use Rattle.batch_engine.specs.Steps.{IsServedNode}
use Rattle.batch_engine.proofs.pending.least_served.Goals as goal
use Rattle.batch_signs.proofs.Bits.{within-or_past}

pub loop-resource-preserved : goal.loop-resource-preserved
loop-resource-preserved c q node lt served = elim (within-or_past q c.loop-resource.resource) [
  | inl l ↦ let below : c.loop-resource.least ≤ node = c.loop-resource.invariant q node l served in omega (arith, c.min-least.ensures)
  | inr l ↦
      let same : q ≡ c.loop-resource.resource = omega (arith, lt, l) in
      let below : c.served_node.result ≤ node = c.served_node.ensures node (subst (λ r. IsServedNode c.args.arbiter.now r c.args.batch node) same served) in
      omega (arith, c.min-least.ensures)
]
