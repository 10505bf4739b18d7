use Rattle.std.proofs.Common.{take}
use Rattle.batch_check.specs.Collecting.{AreAdded, kept_at_top}
use Rattle.batch_check.proofs.edges.add_all.Given as goal

abbrev pub invariant-loop-number : goal.invariant-loop-number
invariant-loop-number l = AreAdded l.cell (kept_at_top l.reach) l.recipes (take l.number l.recipes) l.fn.set l.set
