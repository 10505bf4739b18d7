use Rattle.std.proofs.Common.{◌≡◌, ◌-◌, ◌<◌, ◌≤◌, Some, slice_get}
use Rattle.batch_recipe.specs.{ActsAtNodes.procedure_acts, Nodes.Node, Procedure.procedure_nodes, Tree.Trees, Tree.par}
use Rattle.batch_verify.{specs.NodePhases.phases_between, specs.PhaseSets.IsSetOf, proofs.TreesApart.AreLeft}
use Rattle.batch_verify.proofs.tree_phases.tree_at.Given as goal

-- the phases so far, and whether the branches so far run apart
abbrev pub invariant-loop-below : goal.invariant-loop-below
invariant-loop-below l = (l.node < l.below) × (l.below ≤ l.entry.end) × IsSetOf l.recipe.acts.phases.items (phases_between (procedure_acts l.recipe.acts) l.node l.below) l.set
    × ((x : Node) (branches : Trees) → slice_get (procedure_nodes l.recipe.acts) l.node ≡ Some x → x.here ≡ par branches
    → AreLeft (procedure_nodes l.recipe.acts) l.entry.end l.apart (phases_between (procedure_acts l.recipe.acts) l.node l.below) l.below branches)

abbrev pub decreases-loop-below : goal.decreases-loop-below
decreases-loop-below l = l.entry.end - l.below
