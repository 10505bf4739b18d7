-- surface: bindings that show all that the nodes of a recipe can break, whatever units take its roles.
use Rattle.std.specs.Prelude.{◌≡◌, ◌≢◌, ℕ, ◌<◌, ◌≤◌, List, Option, Some, slice_get, true}
use Rattle.batch_cell.specs.LookUps.{units_of_class}
use Rattle.batch_cell.specs.declared.cell.Cell as equipment
use Rattle.batch_recipe.specs.Conditions.{Name}
use Rattle.batch_recipe.specs.Expanding.{Binding}
use Rattle.batch_recipe.specs.Procedure.{bound_tree}
use Rattle.batch_recipe.specs.Tree.{Tree}
use Rattle.batch_recipe.specs.WellFormed.{are_kinds, are_roles}
use Rattle.batch_recipe.specs.declared.recipe.Recipe as document
use Rattle.batch_recipe.specs.declared.role.Role.{Role}
use Rattle.batch_model.specs.Lists.{Has}
use Rattle.batch_model.specs.Plant.{Setup}
use Rattle.batch_model.specs.Cleared.{Ranking, Part, NeedsWithinCapacity, IsOffered, IsApart, TurnsRun, ReservesFollow, procedure_parts}
use Rattle.batch_model.specs.Recipes.{recipe_of}
use Rattle.batch_model.specs.Setups.{master_of, setup_of}
use Rattle.batch_verify.specs.Bindings.{binding_count, numbered_binding}
use Rattle.batch_verify.specs.Refusals.{IsKnown, IsTried, IsTriedFor, RisesBy}
use Rattle.batch_verify.specs.declared.rule.Rule.{Rule}
use Rattle.batch_verify.specs.declared.rule.Rule.TheVariants.{UnknownResource, ShareAboveCapacity, PhaseNotOffered, SamePhaseInParallel, LoopWithoutPhase, ReserveDoesNotFollow, RankNotRising}

-- a node of this procedure meets this rule, whatever the others say
abbrev pub Meets : Setup → Option Ranking → Tree → Rule → Part → Type 0
Meets setup ranking procedure UnknownResource x = IsKnown setup x
Meets setup ranking procedure ShareAboveCapacity x = NeedsWithinCapacity setup x.node.here
Meets setup ranking procedure PhaseNotOffered x = IsOffered setup x.node.here
Meets setup ranking procedure SamePhaseInParallel x = IsApart x.level x.node.here
Meets setup ranking procedure LoopWithoutPhase x = TurnsRun x.node.here
Meets setup ranking procedure ReserveDoesNotFollow x = ReservesFollow procedure x.node
Meets setup ranking procedure RankNotRising x = RisesBy ranking x.node.asked

-- none that is tried for a role of these candidates has a greater rank
abbrev pub IsHighest : Setup → Ranking → List Name → Name → Type 0
IsHighest setup rank candidates taker = (unit : Name) → IsTriedFor setup candidates unit → rank unit ≤ rank taker

-- none that is tried for a role of these candidates has a smaller rank
abbrev pub IsLowestTaker : Setup → Ranking → List Name → Name → Type 0
IsLowestTaker setup rank candidates taker = (unit : Name) → IsTriedFor setup candidates unit → rank taker ≤ rank unit

-- in one of the bindings the one role is taken at its highest rank, and the other at its lowest
pub record AreBeside (setup : Setup) (rank : Ranking) (cell : equipment.Cell) (Looked : Binding → Type 0) (high low : Role) : Type 0 where
  pub bound : Binding
  pub looked : Looked bound
  pub highest : IsHighest setup rank (units_of_class cell high.class) (bound high.name)
  pub lowest : IsLowestTaker setup rank (units_of_class cell low.class) (bound low.name)

-- the bindings give each candidate of each role, and, if there are ranks, each two roles beside one another
pub record AreEnough (setup : Setup) (ranking : Option Ranking) (cell : equipment.Cell) (roles : List Role) (Looked : Binding → Type 0) : Type 0 where
  pub by_number : (number : ℕ) → number < binding_count cell roles → Looked (numbered_binding cell roles number)
  pub beside : (rank : Ranking) → ranking ≡ Some rank → (high low : Role) → Has roles high → Has roles low → high.name ≢ low.name → AreBeside setup rank cell Looked high low

-- the nodes of a recipe
abbrev pub bound_parts_of : document.Recipe → Binding → List Part
bound_parts_of recipe bound = procedure_parts (recipe_of recipe bound)

-- in each of the bindings the node with this number meets the rule
abbrev pub IsMetInEach : Setup → Option Ranking → document.Recipe → (Binding → Type 0) → ℕ → Rule → Type 0
IsMetInEach setup ranking recipe Looked node rule =
    (bound : Binding) → Looked bound → (x : Part) → slice_get (bound_parts_of recipe bound) node ≡ Some x → Meets setup ranking (bound_tree bound recipe.acts) rule x

-- each node meets in every tried binding the rules that it meets in bindings that are enough
abbrev pub NumberedBindingsSuffice : Type 0
NumberedBindingsSuffice =
    (cell : equipment.Cell) (recipes : List document.Recipe) (recipe : document.Recipe) → are_kinds recipe.acts ≡ true → are_roles recipe.roles.items recipe.acts ≡ true
    → (ranking : Option Ranking) (looked : List Binding) → AreEnough (setup_of cell recipes) ranking cell recipe.roles.items (Has looked)
    → (bound : Binding) → IsTried (setup_of cell recipes) (master_of cell recipe) bound
    → (node : ℕ) (one : Part) → slice_get (bound_parts_of recipe bound) node ≡ Some one
    → (rule : Rule) → IsMetInEach (setup_of cell recipes) ranking recipe (Has looked) node rule → Meets (setup_of cell recipes) ranking (bound_tree bound recipe.acts) rule one
