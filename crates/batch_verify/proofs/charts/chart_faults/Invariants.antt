use Rattle.batch_verify.{specs.Trees.IsKnown, proofs.Faults.KeepsFaults}
use Rattle.batch_verify.proofs.charts.chart_faults.Given as goal

abbrev pub invariant-loop-entry : goal.invariant-loop-entry
invariant-loop-entry l = record {
  faults : KeepsFaults l.recipe l.below.items l.faults.items l.entry-index;
  known : IsKnown l.recipe l.trees;
}
