use Rattle.std.proofs.Common.{◌≤◌, ◌-◌}
use Rattle.batch_signs.specs.SignSets.{AreJoined}
use Rattle.batch_signs.proofs.sets.joined.Given as goal

abbrev pub invariant-loop-sign : goal.invariant-loop-sign
invariant-loop-sign l = (l.from ≤ 32) × AreJoined l.words l.first l.wanted l.from l.set

abbrev pub decreases-loop-sign : goal.decreases-loop-sign
decreases-loop-sign l = 32 - l.from
