use Rattle.batch_recipe.proofs.FollowerSearch.{IsLevel}
use Rattle.batch_recipe.proofs.following.is_in_procedure.Given as goal

abbrev pub invariant-loop-at : goal.invariant-loop-at
invariant-loop-at l = IsLevel l.recipe l.node l.at

abbrev pub decreases-loop-at : goal.decreases-loop-at
decreases-loop-at l = l.at
