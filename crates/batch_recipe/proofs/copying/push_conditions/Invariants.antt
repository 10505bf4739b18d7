use Rattle.batch_recipe.proofs.ConditionCopies.{HavePushed}
use Rattle.batch_recipe.proofs.copying.push_conditions.Given as goal

abbrev pub invariant-loop-choice : goal.invariant-loop-choice
invariant-loop-choice l = HavePushed l.choices l.initial.conditions.items l.choice-index l.conditions.items
