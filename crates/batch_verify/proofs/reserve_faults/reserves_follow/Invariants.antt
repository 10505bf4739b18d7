use Rattle.std.proofs.Common.{◌≡◌, Some, slice_get}
use Rattle.batch_recipe.specs.{Expanding.Binding, Nodes.Node, Procedure.bound_nodes, Procedure.bound_tree}
use Rattle.batch_verify.proofs.Followers.{FollowBefore}
use Rattle.batch_verify.proofs.reserve_faults.reserves_follow.Given as goal

abbrev pub invariant-loop-i : goal.invariant-loop-i
invariant-loop-i l = (bound : Binding) (at : Node) → slice_get (bound_nodes bound l.recipe.acts) l.node ≡ Some at → FollowBefore (bound_tree bound l.recipe.acts) at l.i
