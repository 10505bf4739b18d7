use Rattle.std.proofs.Common.{arith}
use Rattle.batch_sim.{specs.SteadyUnit.after_tick, proofs.ChangedPrefix.one_more, proofs.ChangedPrefix.each_changed}
use Rattle.batch_sim.proofs.steady_unit.count_down_each.Goals as goal

pub loop-phase-preserved : goal.loop-phase-preserved
loop-phase-preserved c =
    one_more after_tick c.loop-phase.phase-index c.args.phases.now c.loop-phase.phases c.count_down.new.self _ c.loop-phase.invariant (omega arith) c.count_down.ensures

pub returns : goal.returns
returns c = each_changed after_tick c.loop-phase.phase-index c.args.phases.now c.loop-phase.phases c.loop-phase.invariant (omega arith)
