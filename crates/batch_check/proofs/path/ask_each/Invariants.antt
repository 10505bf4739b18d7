use Rattle.std.proofs.Common.{take}
use Rattle.batch_check.specs.Collecting.{HasAsked}
use Rattle.batch_check.proofs.path.ask_each.Given as goal

abbrev pub invariant-loop-need : goal.invariant-loop-need
invariant-loop-need l = HasAsked l.path l.node (take l.need-index l.needs) l.fn.edges l.edges l.at
