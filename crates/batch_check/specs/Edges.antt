-- trusted: edges that stand in recipes, and edges that cover the paths of recipes.
use Rattle.std.specs.Prelude.{◌≡◌, ℕ, ◌+◌, ◌<◌, ◌≤◌, List, [], ◌∷◌, ◌&&◌, Bool, IsTrue, length, map, nat_eq, position, slice_get, take, Option, Some, None, ⊤}
use Rattle.std.specs.List.{All, list_any}
use Rattle.batch_cell.specs.LookUps.{resources_of}
use Rattle.batch_cell.specs.declared.cell.Cell.{Cell}
use Rattle.batch_recipe.specs.Conditions.{Name, same_name}
use Rattle.batch_recipe.specs.Nodes.{Node, needs_of}
use Rattle.batch_recipe.specs.Expanding.{Binding}
use Rattle.batch_recipe.specs.Procedure.{bound_nodes}
use Rattle.batch_recipe.specs.declared.recipe.Recipe.{Recipe}
use Rattle.batch_model.specs.Lists.{Each}
use Rattle.batch_model.specs.Setups.{master_of, setup_of}
use Rattle.batch_verify.specs.Refusals.{IsTried}
use Rattle.batch_check.specs.declared.edge.Edge.{Edge}

-- the units that take the recipe's roles are tried for them
abbrev pub AreTried : Cell → Recipe → Binding → Type 0
AreTried cell recipe bound = IsTried (setup_of cell (recipe ∷ [])) (master_of cell recipe) bound

-- Edges that stand

-- the act at the node asks, among its own needs, for `later`, and `earlier` is asked for before on its path
pub record AsksInOrder (node : Node) (earlier later : Name) : Type 0 where
  pub before : ℕ
  pub own : ℕ
  pub ordered : before < own
  -- the needs of the act are the last of its path
  pub among_own : length node.asked ≤ own + length (needs_of node.here)
  pub earlier_is : slice_get node.asked before ≡ Some earlier
  pub later_is : slice_get node.asked own ≡ Some later

-- the act at the node asks in this order for the resources with these numbers
pub record AsksByNumber (cell : Cell) (node : Node) (earlier later : ℕ) : Type 0 where
  pub earlier_name : Name
  pub later_name : Name
  pub earlier_named : slice_get (resources_of cell) earlier ≡ Some earlier_name
  pub later_named : slice_get (resources_of cell) later ≡ Some later_name
  pub asked : AsksInOrder node earlier_name later_name

-- the edge says in which order a node of a recipe asks for resources, where some units take its roles
pub record EdgeStands (cell : Cell) (recipes : List Recipe) (edge : Edge) : Type 0 where
  pub recipe : Recipe
  pub found : slice_get recipes edge.recipe ≡ Some recipe
  pub bound : Binding
  pub tried : AreTried cell recipe bound
  pub node : Node
  pub numbered : slice_get (bound_nodes bound recipe.acts) edge.node ≡ Some node
  pub asked : AsksByNumber cell node edge.earlier edge.later

-- Edges that cover

-- the number of the resource with this name
abbrev pub number_of_resource : Cell → Name → Option ℕ
number_of_resource cell name = position (same_name name) (resources_of cell)

abbrev pub numbers_of_resources : Cell → List Name → List (Option ℕ)
numbers_of_resources cell names = map (number_of_resource cell) names

-- some edge leads from the one resource to the other
abbrev pub has_pair : List Edge → ℕ → ℕ → Bool
has_pair edges earlier later = list_any (λ edge. nat_eq edge.earlier earlier && nat_eq edge.later later) edges

-- for each of these edges, one of the others leads from the same resource to the same
abbrev pub HasPairsOf : List Edge → List Edge → Type 0
HasPairsOf edges others = All (λ edge. IsTrue (has_pair others edge.earlier edge.later)) edges

-- an edge leads from the one to the other, if both are resources
abbrev pub Joins : List Edge → Option ℕ → Option ℕ → Type 0
Joins edges None later = ⊤
Joins edges (Some earlier) None = ⊤
Joins edges (Some earlier) (Some later) = IsTrue (has_pair edges earlier later)

-- each two needs that follow one another, the first one after `last`, are an edge
abbrev pub Follows : List Edge → Option ℕ → List (Option ℕ) → Type 0
Follows edges last [] = ⊤
Follows edges last (need ∷ needs) = Joins edges last need × Follows edges need needs

-- each two resources that follow one another on the node's path are an edge
abbrev pub Covers : Cell → List Edge → Node → Type 0
Covers cell edges node = Follows edges None (numbers_of_resources cell node.asked)

-- the predicate holds of all nodes of the recipe, whatever units take its roles
abbrev pub OfNodes : Cell → (Node → Type 0) → Recipe → Type 0
OfNodes cell Is recipe = (bound : Binding) → AreTried cell recipe bound → Each Is (bound_nodes bound recipe.acts)

-- the same of all nodes of all recipes
abbrev pub CoversRecipes : Cell → List Recipe → List Edge → Type 0
CoversRecipes cell recipes edges = Each (OfNodes cell (Covers cell edges)) recipes

-- The first recipe

-- the path to the node asks for the one resource right after the other
pub record AsksNext (cell : Cell) (node : Node) (earlier later : ℕ) : Type 0 where
  pub place : ℕ
  pub earlier_is : slice_get (numbers_of_resources cell node.asked) place ≡ Some (Some earlier)
  pub later_is : slice_get (numbers_of_resources cell node.asked) (place + 1) ≡ Some (Some later)

-- no recipe before that of the edge asks so for its resources, whatever units take its roles
abbrev pub IsOfFirst : Cell → List Recipe → Edge → Type 0
IsOfFirst cell recipes edge = Each (OfNodes cell (λ node. ¬ (AsksNext cell node edge.earlier edge.later))) (take edge.recipe recipes)

-- edges that stand for the orders in which the recipes ask; no recipe before that of an edge asks for `later` right after `earlier`
pub record AreEdgesOf (cell : Cell) (recipes : List Recipe) (edges : List Edge) : Type 0 where
  pub standing : All (EdgeStands cell recipes) edges
  pub first : All (IsOfFirst cell recipes) edges
  pub covering : CoversRecipes cell recipes edges
