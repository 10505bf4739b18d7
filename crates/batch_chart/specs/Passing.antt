-- surface: the tree that a batch of a recipe follows, and the nodes to which the acts of a recipe pass on the units that they reserve.
use Rattle.std.specs.Prelude.{◌≡◌, ◌<◌, ℕ, Option, option_map}
use Rattle.batch_recipe.specs.Expanding.{Binding}
use Rattle.batch_recipe.specs.Procedure.{bound_tree}
use Rattle.batch_recipe.specs.Tree.{Tree}
use Rattle.batch_recipe.specs.Nodes.{node_count}
use Rattle.batch_recipe.specs.declared.recipe.Recipe.{Recipe}
use Rattle.batch_model.specs.Moves.{reserved_place}
use Rattle.batch_model.specs.Plant.{Batch}
use Rattle.batch_chart.specs.NodesOf.{place_at, step_at}

-- the tree is the recipe's under some binding of its roles
abbrev pub IsTreeOf : Recipe → Tree → Type 0
IsTreeOf doc t = (bound : Binding) × (t ≡ bound_tree bound doc.acts)

-- the batch follows the tree, which is the recipe's under some binding of its roles
pub record IsBatchOf (doc : Recipe) (t : Tree) (b : Batch) : Type 0 where
  pub bound : Binding
  pub tree : t ≡ bound_tree bound doc.acts
  pub follows : b.recipe.procedure ≡ t

-- the act at node n passes its need i to the unit procedure at this node, or to none, whatever units take the roles
abbrev pub PassesTo : Recipe → ℕ → ℕ → Option ℕ → Type 0
PassesTo doc n i to =
    (bound : Binding) → n < node_count (bound_tree bound doc.acts)
    → option_map (place_at (bound_tree bound doc.acts)) to ≡ reserved_place (bound_tree bound doc.acts) (step_at (bound_tree bound doc.acts) n) i
