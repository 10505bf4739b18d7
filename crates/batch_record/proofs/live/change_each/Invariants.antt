use Rattle.std.proofs.Common.{◌≡◌, ◌++◌, map, take, drop}
use Rattle.batch_record.specs.Kept.{phase_changed}
use Rattle.batch_record.proofs.live.change_each.Given as goal

abbrev pub invariant-loop-phase : goal.invariant-loop-phase
invariant-loop-phase l =
    l.phases ≡ map (phase_changed (l.batch, l.place) l.change) (take l.phase-index l.initial.phases) ++ drop l.phase-index l.initial.phases
