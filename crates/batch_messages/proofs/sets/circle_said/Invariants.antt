use Rattle.std.proofs.Common.{take, string_bytes}
use Rattle.batch_messages.specs.CircleSentence.{IsCircleTold}
use Rattle.batch_messages.proofs.sets.circle_said.Given as goal

abbrev pub invariant-loop-edge : goal.invariant-loop-edge
invariant-loop-edge l = IsCircleTold l.set.cell.now l.set.recipes.now (take l.edge-index l.edges) (string_bytes l.said)
