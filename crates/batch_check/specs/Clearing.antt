-- trusted: edges, rankings and circles, and their meaning for the clearance of recipes.
use Rattle.std.specs.Prelude.{ℕ, ◌<◌, ◌≤◌, List, length, IsTrue}
use Rattle.std.specs.List.{All}
use Rattle.batch_cell.specs.LookUps.{resources_of}
use Rattle.batch_cell.specs.declared.cell.Cell as equipment
use Rattle.batch_recipe.specs.Conditions.{Name}
use Rattle.batch_recipe.specs.WellFormed.{is_among}
use Rattle.batch_recipe.specs.declared.recipe.Recipe as document
use Rattle.batch_model.specs.Lists.{Each}
use Rattle.batch_model.specs.Cleared.{Ranking, NeedsResources, RiseStrictly, IsCleared, CanBeCleared}
use Rattle.batch_model.specs.Setups.{setup_of}
use Rattle.batch_check.specs.declared.edge.Edge.{Edge}
use Rattle.batch_verify.specs.Refusals.{rank_in}
use Rattle.batch_check.specs.Edges.{OfNodes, EdgeStands, AreEdgesOf}
use Rattle.batch_check.specs.LeastRanking.{IsEdgeCircle, IsLeastRanking}

-- each need is a resource of the cell
abbrev pub NeedResources : equipment.Cell → List document.Recipe → Type 0
NeedResources c recipes = Each (OfNodes c (λ node. NeedsResources (resources_of c) node.here)) recipes

-- the ranks rise strictly along all paths of the recipes, whatever units take their roles
abbrev pub RiseAlongPaths : equipment.Cell → Ranking → List document.Recipe → Type 0
RiseAlongPaths c rank recipes = Each (OfNodes c (λ node. RiseStrictly rank node.asked)) recipes

-- each resource has a rank above 0
abbrev pub RanksResources : equipment.Cell → Ranking → Type 0
RanksResources c rank = (name : Name) → IsTrue (is_among (resources_of c) name) → 0 < rank name

-- no resource has a lower rank in the other ranking
abbrev pub IsAtMost : equipment.Cell → Ranking → Ranking → Type 0
IsAtMost c rank other = (name : Name) → IsTrue (is_among (resources_of c) name) → rank name ≤ other name

-- ranks that rise along all paths, and no ranks that do are lower anywhere
pub record RiseLeast (c : equipment.Cell) (recipes : List document.Recipe) (rank : Ranking) : Type 0 where
  pub rising : RiseAlongPaths c rank recipes
  pub positive : RanksResources c rank
  pub bounded : (name : Name) → rank name ≤ length (resources_of c)
  pub least : (other : Ranking) → RanksResources c other → RiseAlongPaths c other recipes → IsAtMost c rank other

-- a ranking that clears the recipes, and no ranking that does has a lower rank anywhere
pub record IsLeastClearance (c : equipment.Cell) (recipes : List document.Recipe) (rank : Ranking) : Type 0 where
  pub clearing : IsCleared (setup_of c recipes) rank
  pub positive : RanksResources c rank
  pub bounded : (name : Name) → rank name ≤ length (resources_of c)
  pub least : (other : Ranking) → RanksResources c other → IsCleared (setup_of c recipes) other → IsAtMost c rank other

-- a circle of edges that stand in the recipes
pub record StandsAsCircle (c : equipment.Cell) (recipes : List document.Recipe) (edges : List Edge) : Type 0 where
  pub circle : IsEdgeCircle edges edges
  pub standing : All (EdgeStands c recipes) edges

-- Laws

-- no ranks rise along all paths of recipes in which a circle stands
abbrev pub CirclesLeaveNoRising : Type 0
CirclesLeaveNoRising = (c : equipment.Cell) (recipes : List document.Recipe) (circle : List Edge) (rank : Ranking)
    → StandsAsCircle c recipes circle → RiseAlongPaths c rank recipes → ⊥

-- so no ranking clears them
abbrev pub CirclesLeaveNoClearance : Type 0
CirclesLeaveNoClearance = (c : equipment.Cell) (recipes : List document.Recipe) (circle : List Edge)
    → StandsAsCircle c recipes circle → CanBeCleared (setup_of c recipes) → ⊥

-- the least ranks along the edges of recipes are the least that rise along all their paths
abbrev pub LeastRanksRise : Type 0
LeastRanksRise = (c : equipment.Cell) (recipes : List document.Recipe) (edges : List Edge) (ranks : List ℕ)
    → NeedResources c recipes → AreEdgesOf c recipes edges → IsLeastRanking (length (resources_of c)) edges ranks → RiseLeast c recipes (rank_in c ranks)
