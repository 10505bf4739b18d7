-- surface: a standing plant: the rest of each batch is a possible rest of its recipe, with every act at its node of the expanded tree.
use Rattle.std.specs.Prelude.{◌≡◌, ◌⊎◌, ℕ, ◌<◌, ◌≤◌, List, [], ◌∷◌, ◌++◌, length, Bool, true, false, ◌||◌, ⊤}
use Rattle.batch_matrix.specs.declared.state.State.{State}
use Rattle.batch_matrix.specs.declared.state.State.TheVariants.{Idle, Complete}
use Rattle.batch_matrix.specs.Matrix.{same_state}
use Rattle.batch_recipe.specs.Following.{Follower, enter}
use Rattle.batch_recipe.specs.Levels.{Level, is_procedure, below}
use Rattle.batch_recipe.specs.Conditions.{Name}
use Rattle.batch_recipe.specs.Tree.{Place, Task, runs, follows, Tree, act, seq, par, sel, loop, Trees, no_trees, tree, Choices, otherwise, choice}
use Rattle.batch_model.specs.Lists.{Has, Each}
use Rattle.batch_model.specs.Rest.{Rest, ready, asking, open_act, live, freeing, in_seq, in_par, in_loop, done, Rests, no_rests, rest, acts}
use Rattle.batch_model.specs.Plant.{Recipe, Master, Setup, Batch, Plant}
use Rattle.batch_model.specs.Events.{is_binding, bound_by}
use Rattle.batch_model.specs.Runs.{goes_on}
use Rattle.batch_model.specs.Settled.{IsAdvanced}
use Rattle.batch_model.specs.Placed.{IsPlaced}

abbrev mutual
  pub IsRestOf : Tree → Rest → Type 0
  IsRestOf (act step task) (ready its_step its_task granted) = (its_step ≡ step) × (its_task ≡ task) × (granted ≤ length its_step.needs)
  IsRestOf (act step task) (asking its_step its_task granted) = (its_step ≡ step) × (its_task ≡ task) × (granted < length its_step.needs)
  IsRestOf (act step task) (open_act its_step remaining) = (its_step ≡ step) × IsRestBelow task remaining
  IsRestOf (act step task) (live its_step phase state) = (its_step ≡ step) × (task ≡ runs phase)
  IsRestOf (act step task) (freeing its_step left) = (its_step ≡ step) × (0 < left) × (left ≤ length its_step.needs)
  IsRestOf (seq charts) (in_seq remaining following) = IsBranch charts remaining following
  IsRestOf (par charts) (in_par rests) = AreBranches charts rests
  IsRestOf (sel choices) remaining = IsChosen choices remaining
  IsRestOf (loop turns until body) (in_loop its_turns its_until its_body remaining) =
      (its_turns ≤ turns) × (its_until ≡ until) × (its_body ≡ body) × IsRestOf body remaining
  IsRestOf _ done = ⊤
  IsRestOf _ _ = ⊥

  -- it is a rest of the chart of an open act
  pub IsRestBelow : Task → Rest → Type 0
  IsRestBelow (runs phase) remaining = ⊥
  IsRestBelow (follows name chart) remaining = IsRestOf chart remaining

  -- it is a rest of one of the branches, and the charts after that branch follow
  pub IsBranch : Trees → Rest → Trees → Type 0
  IsBranch no_trees remaining following = ⊥
  IsBranch (tree chart charts) remaining following = (IsRestOf chart remaining × (following ≡ charts)) ⊎ IsBranch charts remaining following

  pub AreBranches : Trees → Rests → Type 0
  AreBranches no_trees no_rests = ⊤
  AreBranches (tree chart charts) (rest remaining rests) = IsRestOf chart remaining × AreBranches charts rests
  AreBranches _ _ = ⊥

  pub IsChosen : Choices → Rest → Type 0
  IsChosen (otherwise chart) remaining = IsRestOf chart remaining
  IsChosen (choice condition chart choices) remaining = IsRestOf chart remaining ⊎ IsChosen choices remaining

-- Units that are held in advance

-- the unit procedures that follow a branch of a `seq`; these charts come after it, and `next` follows the `seq`
abbrev pub after_branch : Level → List Follower → Trees → List Follower
after_branch level next no_trees = next
after_branch level next (tree chart charts) = enter level chart

abbrev mutual
  -- the unit procedures that are reached before any act begins: those that follow acts that are freeing, or open with nothing left in
  -- their charts; `next` follows the rest
  pub due_followers : Level → List Follower → Rest → List Follower
  due_followers level next (open_act step remaining) = due_followers (below level) next remaining
  due_followers level next (freeing step left) = next
  due_followers level next (in_seq remaining charts) = due_followers level (after_branch level next charts) remaining
  due_followers level next (in_par rests) = due_in_each level rests
  due_followers level next (in_loop turns until body remaining) = due_followers level [] remaining
  due_followers level next done = next
  due_followers level next _ = []

  pub due_in_each : Level → Rests → List Follower
  due_in_each level no_rests = []
  due_in_each level (rest remaining rests) = due_followers level [] remaining ++ due_in_each level rests

-- the unit procedure at the place is due in the rest
abbrev pub IsAwaited : Rest → Place → Type 0
IsAwaited remaining place = (name : Name) × Has (due_followers is_procedure [] remaining) (name, place)

-- Batches that aren't started, or are complete

abbrev pub is_resting : State → Bool
is_resting now = same_state now Idle || same_state now Complete

abbrev pub IsUnbegun : Rest → Type 0
IsUnbegun (ready step task granted) = ⊤
IsUnbegun _ = ⊥

-- the control recipe is made from the master recipe, for units that take its roles
abbrev pub IsControlOf : Master → Recipe → Type 0
IsControlOf master recipe =
    (pairs : List (Name × Name)) × (is_binding master.roles pairs ≡ true) × (recipe ≡ master.control (bound_by pairs))

-- the control recipe is made from a master recipe of the setup
abbrev pub IsControl : Setup → Recipe → Type 0
IsControl setup recipe = (master : Master) × Has setup.recipes master × IsControlOf master recipe

-- each control recipe's expanded tree carries the places of its acts
abbrev pub HasPlacedTrees : Setup → Type 0
HasPlacedTrees setup = (recipe : Recipe) → IsControl setup recipe → IsPlaced (0 ∷ []) recipe.procedure

-- the batch makes a control recipe of the setup. Its rest is a possible rest of that recipe, with nothing left to be reached. Each place
-- that holds a unit in advance is due. A batch on its way to Stopped or Aborted, or there, holds nothing in advance. No act of an idle or
-- complete batch has begun
pub record IsStandingBatch (setup : Setup) (batch : Batch) : Type 0 where
  pub known : IsControl setup batch.recipe
  pub stands : IsRestOf batch.recipe.procedure batch.rest
  pub advanced : IsAdvanced batch.rest
  pub awaited : Each (λ held. IsAwaited batch.rest held.place) batch.in_advance
  pub given_up : goes_on batch.state ≡ false → batch.in_advance ≡ []
  pub unbegun : is_resting batch.state ≡ true → Each IsUnbegun (acts batch.rest)

-- the numbers rise, and stay below the next one
abbrev pub AreNumbered : ℕ → List Batch → Type 0
AreNumbered next [] = ⊤
AreNumbered next (batch ∷ more) = (batch.number < next) × Each (λ other. batch.number < other.number) more × AreNumbered next more

pub record IsStanding (setup : Setup) (plant : Plant) : Type 0 where
  pub batches : Each (IsStandingBatch setup) plant.batches
  pub numbers : AreNumbered plant.next_number plant.batches
