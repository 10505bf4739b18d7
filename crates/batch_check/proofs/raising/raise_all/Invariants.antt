use Rattle.batch_check.proofs.Raises.{KeepsRaising}
use Rattle.batch_check.proofs.raising.raise_all.Given as goal

abbrev pub invariant-loop-edge : goal.invariant-loop-edge
invariant-loop-edge l = KeepsRaising l.edges l.initial.ranks l.ranks l.causes l.raised l.edge-index
