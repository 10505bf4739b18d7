use Rattle.std.proofs.Common.{take}
use Rattle.batch_check.specs.Joining.{HasJoined}
use Rattle.batch_check.proofs.joining.join_each.Given as goal

abbrev pub invariant-loop-earlier : goal.invariant-loop-earlier
invariant-loop-earlier l = HasJoined l.recipe l.node (take l.earlier-index l.needs) l.later l.fn.edges l.edges
