-- trusted: ranks that are no greater than the paths of recipes ask for.
use Rattle.std.specs.Prelude.{◌≡◌, ◌⊎◌, ℕ, ◌+◌, ◌<◌, ◌≤◌, List, IsTrue, slice_get, Some}
use Rattle.batch_cell.specs.LookUps.{resources_of}
use Rattle.batch_cell.specs.declared.cell.Cell as equipment
use Rattle.batch_recipe.specs.Conditions.{Name}
use Rattle.batch_recipe.specs.Expanding.{Binding}
use Rattle.batch_recipe.specs.WellFormed.{is_among}
use Rattle.batch_recipe.specs.declared.recipe.Recipe as document
use Rattle.batch_model.specs.Lists.{Has}
use Rattle.batch_model.specs.Plant.{Master}
use Rattle.batch_model.specs.Cleared.{Part, Ranking, IsServed, procedure_parts}
use Rattle.batch_model.specs.Setups.{setup_of}

-- along the path of a node of a recipe, where some units take its roles, the one is asked for before the other
pub record IsAskedBefore (recipes : List Master) (earlier later : Name) : Type 0 where
  pub recipe : Master
  pub listed : Has recipes recipe
  pub bound : Binding
  pub served : IsServed recipe bound
  pub part : Part
  pub within : Has (procedure_parts (recipe.control bound)) part
  pub before : ℕ
  pub place : ℕ
  pub ordered : before < place
  pub earlier_is : slice_get part.node.asked before ≡ Some earlier
  pub later_is : slice_get part.node.asked place ≡ Some later

-- the rank is one more than that of a resource asked for before this one, and none asked for before this one has a greater rank
pub record FollowsGreatest (recipes : List Master) (rank : Ranking) (name : Name) : Type 0 where
  pub earlier : Name
  pub asked : IsAskedBefore recipes earlier name
  pub one_more : rank name ≡ rank earlier + 1
  pub greatest : (other : Name) → IsAskedBefore recipes other name → rank other ≤ rank earlier

-- the rank is 1, and no resource is asked for before this one
pub record IsLowest (recipes : List Master) (rank : Ranking) (name : Name) : Type 0 where
  pub one : rank name ≡ 1
  pub first : (other : Name) → ¬ (IsAskedBefore recipes other name)

-- each resource's rank is one more than the greatest among those asked for before it on some path, and 1 where there are none
abbrev pub RanksTightly : equipment.Cell → List document.Recipe → Ranking → Type 0
RanksTightly c recipes rank = (name : Name) → IsTrue (is_among (resources_of c) name)
    → FollowsGreatest (setup_of c recipes).recipes rank name ⊎ IsLowest (setup_of c recipes).recipes rank name
