use Rattle.batch_outline.specs.Trimmed.{AreTrimmedActs}
use Rattle.batch_outline.proofs.trimming.drop_charts.Given as goal

abbrev pub invariant-loop-number : goal.invariant-loop-number
invariant-loop-number l = AreTrimmedActs l.fn.entries l.fn.table 0 l.initial.acts l.acts
