use Rattle.std.proofs.Common.{◌∙◌, arith, sym}
use Rattle.batch_chart.proofs.ChartAfterMove.{held-new, held-again, held-other}
use Rattle.batch_chart.proofs.taking.hold.Goals as goal

pub push_front_reserved-requires : goal.push_front_reserved-requires
push_front_reserved-requires c = omega (arith, c.requires, c.args.held.now.ok.0)

pub returns-then-not-is_held-clause-items : goal.returns-then-not-is_held-clause-items
returns-then-not-is_held-clause-items c = rw c.in-Pass.is (c.push_front_reserved.ensures.items ∙ held-new c.args.held.now.items c.in-Pass.node c.in-Pass.to c.in-Pass.need (sym c.if-not-is_held.ensures))

pub returns-else-not-is_held-clause-items : goal.returns-else-not-is_held-clause-items
returns-else-not-is_held-clause-items c = rw c.in-Pass.is (held-again c.args.held.now.items c.in-Pass.node c.in-Pass.to c.in-Pass.need (sym c.if-not-is_held.ensures))

pub returns-in_default-clause-items : goal.returns-in_default-clause-items
returns-in_default-clause-items c = held-other _ _ c.in_default.not-Pass
