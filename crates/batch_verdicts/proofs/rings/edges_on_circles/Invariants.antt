use Rattle.std.proofs.Common.{All}
use Rattle.batch_verdicts.specs.Drawing.{IsOnCircle}
use Rattle.batch_verdicts.proofs.rings.edges_on_circles.Given as goal

abbrev pub invariant-loop-start : goal.invariant-loop-start
invariant-loop-start l = All (IsOnCircle l.edges) l.found.items
