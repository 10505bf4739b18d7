use Rattle.std.proofs.Common.{take}
use Rattle.batch_desk.specs.Plans.{AreOfPlans}
use Rattle.batch_desk.proofs.opening.open_ports.Given as goal

abbrev pub invariant-loop-plan : goal.invariant-loop-plan
invariant-loop-plan l = AreOfPlans (take l.plan-index l.plans) l.ports.items l.desks.items
