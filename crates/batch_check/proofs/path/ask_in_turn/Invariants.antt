use Rattle.std.proofs.Common.{take}
use Rattle.batch_check.specs.Collecting.{HasAsked, ends_in}
use Rattle.batch_check.proofs.path.ask_in_turn.Given as goal

abbrev pub invariant-loop-need : goal.invariant-loop-need
invariant-loop-need l = HasAsked (ends_in l.recipe l.fn.before) l.node (take l.need-index l.needs) l.fn.edges l.edges (ends_in l.recipe l.last)
