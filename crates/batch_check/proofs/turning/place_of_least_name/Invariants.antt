use Rattle.std.proofs.Common.{◌<◌, length}
use Rattle.batch_check.proofs.CircleStarts.{IsLeastOf}
use Rattle.batch_check.proofs.turning.place_of_least_name.Given as goal

abbrev pub invariant-loop-place : goal.invariant-loop-place
invariant-loop-place l = (l.least < length l.edges) × IsLeastOf l.cell l.edges l.place l.least
