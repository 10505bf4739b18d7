use Rattle.std.proofs.Common.{◌∙◌, ap, sym}
use Rattle.batch_recipe.specs.Outlines.{form_of}
use Rattle.batch_verify.{specs.Charts.depth_is, proofs.Faults.loop_fault, proofs.Faults.loop_runs}
use Rattle.batch_verify.proofs.charts.chart_fault.Goals as goal

pub returns-then-branch-2-clause-fault : goal.returns-then-branch-2-clause-fault
returns-then-branch-2-clause-fault c = λ x at formed.
    loop_runs (depth_is c.args.depth) x.here (sym (ap form_of c.in-Loop.is) ∙ formed) (sym c.if-branch-2.true ∙ c.in_ok-surely_run-in-Loop.ensures.runs x at)

pub returns-else-branch-2-clause-fault : goal.returns-else-branch-2-clause-fault
returns-else-branch-2-clause-fault c = λ x at formed.
    loop_fault (depth_is c.args.depth) x.here (sym (ap form_of c.in-Loop.is) ∙ formed) (sym c.if-branch-2.false ∙ c.in_ok-surely_run-in-Loop.ensures.runs x at)
