use Rattle.batch_chart.specs.Early.{IsTakenTo}
use Rattle.batch_chart.proofs.taking.take_over.Given as goal

abbrev pub invariant-loop-j : goal.invariant-loop-j
invariant-loop-j l = IsTakenTo l.fn.nodes l.fn.recipe l.fn.held.items l.j l.initial.stages l.stages l.initial.signs l.signs
