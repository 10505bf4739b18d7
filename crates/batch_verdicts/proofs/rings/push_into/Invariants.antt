use Rattle.std.proofs.Common.{All}
use Rattle.batch_verdicts.specs.Drawing.{IsOnCircle}
use Rattle.batch_verdicts.proofs.rings.push_into.Given as goal

abbrev pub invariant-loop-edge : goal.invariant-loop-edge
invariant-loop-edge l = All (IsOnCircle l.edges) l.found.items
