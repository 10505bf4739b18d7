use Rattle.std.proofs.Common.{drop}
use Rattle.batch_journal.proofs.LastWholeLine.{Stands}
use Rattle.batch_journal.proofs.lines.end_of.Given as goal

abbrev pub invariant-loop-i : goal.invariant-loop-i
invariant-loop-i l = Stands l.bytes l.end l.i (drop l.i l.bytes)
