use Rattle.batch_recipe.proofs.FollowerSearch.{IsUp}
use Rattle.batch_recipe.proofs.following.next_of.Given as goal

abbrev pub invariant-loop-at : goal.invariant-loop-at
invariant-loop-at l = IsUp l.recipe l.node l.at

abbrev pub decreases-loop-at : goal.decreases-loop-at
decreases-loop-at l = l.at
