-- trusted: expanded trees of the procedural model: a procedure of unit procedures, these of operations, and these of phase steps.
use Rattle.std.specs.Prelude.{◌≡◌, List, [], ◌∷◌, true, ⊤, Some, slice_get}
use Rattle.batch_recipe.specs.Conditions.{Name}
use Rattle.batch_recipe.specs.Following.{follower}
use Rattle.batch_recipe.specs.Tree.{Place, Tree, act, skip, seq, par, sel, loop, Task, runs, follows, Trees, no_trees, tree, Choices, otherwise, choice}
use Rattle.batch_recipe.specs.Expanding.{Binding}
use Rattle.batch_recipe.specs.Procedure.{bound_tree}
use Rattle.batch_recipe.specs.WellFormed.{are_kinds, is_well_formed}
use Rattle.batch_recipe.specs.declared.acts.Acts.{Acts}
use Rattle.batch_recipe.specs.declared.recipe.Recipe as document
use Rattle.batch_recipe.specs.declared.need.Need.{Need}
use Rattle.batch_model.specs.ActStates.{steps}
use Rattle.batch_model.specs.Lists.{Each}
use Rattle.batch_model.specs.Recipes.{recipe_of}
use Rattle.batch_model.specs.Cleared.{Level, in_procedure, in_unit_procedure, in_operation}
use Rattle.batch_model.specs.Placed.{IsPlaced}

-- a unit procedure has no `par` in its chart
abbrev pub AllowsPar : Level → Type 0
AllowsPar in_unit_procedure = ⊥
AllowsPar _ = ⊤

abbrev mutual
  -- a tree in a chart of the level, below a unit procedure on this unit
  pub IsOfLevel : Level → Name → Tree → Type 0
  IsOfLevel level unit (act step task) = IsActOf level unit step.needs task
  IsOfLevel level unit skip = ⊤
  IsOfLevel level unit (seq charts) = AreOfLevel level unit charts
  IsOfLevel level unit (par charts) = AllowsPar level × AreOfLevel level unit charts
  IsOfLevel level unit (sel choices) = AreChoicesOf level unit choices
  IsOfLevel level unit (loop turns until body) = IsOfLevel level unit body

  -- a unit procedure's first need is one unit of its unit, and phase steps alone run a phase, on that unit
  pub IsActOf : Level → Name → List Need → Task → Type 0
  IsActOf in_procedure unit (own ∷ needs) (follows name chart) = (own.units ≡ 1) × IsOfLevel in_unit_procedure own.resource chart
  IsActOf in_unit_procedure unit needs (follows name chart) = IsOfLevel in_operation unit chart
  IsActOf in_operation unit needs (runs phase) = phase.unit ≡ unit
  IsActOf _ _ _ _ = ⊥

  pub AreOfLevel : Level → Name → Trees → Type 0
  AreOfLevel level unit no_trees = ⊤
  AreOfLevel level unit (tree chart charts) = IsOfLevel level unit chart × AreOfLevel level unit charts

  pub AreChoicesOf : Level → Name → Choices → Type 0
  AreChoicesOf level unit (otherwise chart) = IsOfLevel level unit chart
  AreChoicesOf level unit (choice condition chart choices) = IsOfLevel level unit chart × AreChoicesOf level unit choices

-- an act that follows a chart of unit procedures; no unit is above these
abbrev pub HasLevels : Tree → Type 0
HasLevels (act step (follows name chart)) = IsOfLevel in_procedure [] chart
HasLevels _ = ⊥

-- if a unit procedure follows an act that reserves it, the need by which the act does so is the first need of the unit procedure
abbrev pub ReservesUnits : Tree → Type 0
ReservesUnits chart =
    Each (λ step. Each (λ reserve. (place : Place) → follower chart step.place reserve.name ≡ Some place
    → Each (λ other. other.place ≡ place → slice_get step.needs reserve.need ≡ slice_get other.needs 0) (steps chart)) step.reserves) (steps chart)

-- the expanded tree of a procedure
pub record IsProcedure (chart : Tree) : Type 0 where
  pub placed : IsPlaced (0 ∷ []) chart
  pub levels : HasLevels chart
  pub reserved : ReservesUnits chart

-- if acts are of their kinds and well formed, the expanded tree is one of a procedure, whatever units take the roles
abbrev pub TreesAreProcedures : Type 0
TreesAreProcedures =
    (bound : Binding) (acts : Acts) (values : List Name) → are_kinds acts ≡ true → is_well_formed values acts ≡ true
    → IsProcedure (bound_tree bound acts)

-- as the acts of every recipe are
abbrev pub RecipesAreProcedures : Type 0
RecipesAreProcedures = (recipe : document.Recipe) (bound : Binding) → IsProcedure (recipe_of recipe bound).procedure
