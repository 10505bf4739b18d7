use Rattle.std.proofs.Common.{◌∷◌, [], take}
use Rattle.batch_check.specs.Collecting.{HasRaised}
use Rattle.batch_check.proofs.binding.add_raised.Given as goal

abbrev pub invariant-loop-own : goal.invariant-loop-own
invariant-loop-own l = HasRaised l.place (take l.own-index l.units) l.units l.edges l.fn.set l.set

abbrev pub invariant-loop-other : goal.invariant-loop-other
invariant-loop-other l = HasRaised l.place (l.own ∷ []) (take l.other-index l.units) l.edges l.initial.set l.set
