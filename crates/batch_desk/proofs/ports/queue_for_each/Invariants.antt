use Rattle.std.proofs.Common.{◌≡◌, ◌++◌, map, take, drop}
use Rattle.batch_desk.specs.PortSteps.{owe_line}
use Rattle.batch_desk.proofs.ports.queue_for_each.Given as goal

abbrev pub invariant-loop-index : goal.invariant-loop-index
invariant-loop-index l = l.ports.items ≡ map (owe_line l.line) (take l.index l.initial.ports.items) ++ drop l.index l.initial.ports.items
