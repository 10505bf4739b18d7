use Rattle.std.proofs.Common.{◌≡◌}
use Rattle.batch_sim.{specs.SteadyUnit.after_tick, proofs.ChangedPrefix.changed}
use Rattle.batch_sim.proofs.steady_unit.count_down_each.Given as goal

abbrev pub invariant-loop-phase : goal.invariant-loop-phase
invariant-loop-phase l = l.phases ≡ changed after_tick l.phase-index l.initial.phases
