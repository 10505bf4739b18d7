use Rattle.std.proofs.Common.{rules}
use Rattle.batch_sim.{specs.SteadyUnit.unstarted, proofs.UnitReport.reported, proofs.UnitReport.due_ends}
use Rattle.batch_sim.proofs.steady_unit.report.Goals as goal

pub returns-in_err-end : goal.returns-in_err-end
returns-in_err-end c = absurd (due_ends c.args.phases.now c.in_ok-number.number unstarted (search rules) (search rules))

pub returns : goal.returns
returns c = reported c.args.phases.now _ c.in_ok-number.number unstarted c.in_ok-end.end _ (search rules) (search rules) (search rules) (search rules)
