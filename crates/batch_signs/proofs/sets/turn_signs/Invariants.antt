use Rattle.std.proofs.Common.{◌≤◌, ◌-◌}
use Rattle.batch_signs.{specs.SignSets.AreSummed, proofs.SignSets.AreChangedTo}
use Rattle.batch_signs.proofs.sets.turn_signs.Given as goal

abbrev pub invariant-loop-sign : goal.invariant-loop-sign
invariant-loop-sign l = record {
  within : l.from ≤ 32;
  summed : AreSummed l.words l.summary l.shown;
  changed : AreChangedTo l.fn.words l.words l.node l.was l.signs l.from;
}

abbrev pub decreases-loop-sign : goal.decreases-loop-sign
decreases-loop-sign l = 32 - l.from
