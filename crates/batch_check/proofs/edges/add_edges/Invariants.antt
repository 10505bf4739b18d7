use Rattle.std.proofs.Common.{length}
use Rattle.batch_check.{specs.Sites.resource_count, proofs.RecipeEdges.KeepsBindings}
use Rattle.batch_check.proofs.edges.add_edges.Given as goal

abbrev pub invariant-loop-taken : goal.invariant-loop-taken
invariant-loop-taken l = KeepsBindings l.site l.number l.collected.edges.items l.of_roles.items l.taken-index (resource_count l.site) l.fn.edges l.edges

abbrev pub invariant-loop-role : goal.invariant-loop-role
invariant-loop-role l = KeepsBindings l.site l.number l.collected.edges.items l.of_roles.items (length l.units.items) l.role l.fn.edges l.edges
