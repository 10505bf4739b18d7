use Rattle.batch_chart.specs.Freeing.{HasCleared}
use Rattle.batch_chart.proofs.freeing.clear.Given as goal

abbrev pub invariant-loop-n : goal.invariant-loop-n
invariant-loop-n l = HasCleared l.fn.first l.n l.initial.stages l.stages l.initial.signs l.signs
