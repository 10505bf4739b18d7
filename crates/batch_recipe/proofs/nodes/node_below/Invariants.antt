use Rattle.std.proofs.Common.{◌∷◌, take}
use Rattle.batch_recipe.specs.{Places.IsNodeAt, Procedure.procedure_nodes}
use Rattle.batch_recipe.proofs.nodes.node_below.Given as goal

abbrev pub invariant-loop-child : goal.invariant-loop-child
invariant-loop-child l = IsNodeAt (procedure_nodes l.recipe.acts) l.at (0 ∷ take l.child-index l.below)
