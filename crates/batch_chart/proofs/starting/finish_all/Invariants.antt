use Rattle.batch_chart.specs.Neat.{AllFinished}
use Rattle.batch_chart.proofs.starting.finish_all.Given as goal

abbrev pub invariant-loop-n : goal.invariant-loop-n
invariant-loop-n l = AllFinished 0 l.n l.stages
