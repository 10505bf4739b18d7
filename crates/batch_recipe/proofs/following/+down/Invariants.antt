use Rattle.std.proofs.Common.{◌-◌, ◌*◌, length}
use Rattle.batch_recipe.{specs.Procedure.procedure_nodes, proofs.FollowerSearch.IsLookingFrom}
use Rattle.batch_recipe.proofs.following.+down.Given as goal

abbrev pub decreases-first_named : goal.decreases-first_named
decreases-first_named l = 2 * (length (procedure_nodes l.recipe.now.acts) - l.node)

abbrev pub decreases-first_of_branches : goal.decreases-first_of_branches
decreases-first_of_branches l = 2 * (length (procedure_nodes l.recipe.now.acts) - l.node) - 1

abbrev pub invariant-first_of_branches-loop-at : goal.invariant-first_of_branches-loop-at
invariant-first_of_branches-loop-at l = IsLookingFrom l.recipe l.node l.name l.end l.at

abbrev pub decreases-first_of_branches-loop-at : goal.decreases-first_of_branches-loop-at
decreases-first_of_branches-loop-at l = l.end - l.at
