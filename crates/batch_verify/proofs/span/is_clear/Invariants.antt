use Rattle.std.specs.{Prelude.false, Option.option_copied}
use Rattle.batch_verify.{specs.Bindings.takers_of, specs.PassedSteps.AreNotedAt, specs.Trials.bound_by, specs.declared.trial.Trial.TheVariants.Leveled, proofs.NodeClearance.Clears}
use Rattle.batch_verify.proofs.span.is_clear.Given as goal

abbrev pub invariant-loop-entry : goal.invariant-loop-entry
invariant-loop-entry l = record {
  clears : Clears l.cell (option_copied l.ranks) l.recipe l.linked (takers_of l.cell (bound_by l.cell l.recipe.roles.items (Leveled false l.ranks)) l.recipe.roles.items) l.highest.items l.spans.items l.entry-index;
  noted : AreNotedAt l.low l.recipe.roles.items l.highest.items l.passed.items;
}
