-- trusted: the unit procedures that follow a node of an expanded tree: to them alone a step hands over units.
use Rattle.std.specs.Prelude.{ℕ, zero, suc, List, [], ◌∷◌, ◌++◌, Option, Some, None, option_map, find}
use Rattle.batch_recipe.specs.Conditions.{Name, same_name}
use Rattle.batch_recipe.specs.Levels.{Level, is_procedure, in_procedure, below}
use Rattle.batch_recipe.specs.Tree.{Place, Tree, act, skip, seq, par, sel, loop, runs, follows, Trees, no_trees, tree, Choices, otherwise, choice}

-- a unit procedure of the tree: its name and its place
abbrev pub Follower : Type 0
Follower = Name × Place

-- Down from a part of the procedure's chart

-- the unit procedures met first on each way down, in the order of their places. A way goes by the first branch of a `seq`, each branch of
-- a `par` and the body of a `loop`. It goes by nothing that may be passed over
abbrev mutual
  pub firsts : Tree → List Follower
  firsts (act step (runs phase)) = []
  firsts (act step (follows name chart)) = (name, step.place) ∷ []
  firsts skip = []
  firsts (seq charts) = firsts_of_first charts
  firsts (par charts) = firsts_of_each charts
  firsts (sel choices) = []
  firsts (loop turns until body) = firsts body

  pub firsts_of_first : Trees → List Follower
  firsts_of_first no_trees = []
  firsts_of_first (tree chart charts) = firsts chart

  pub firsts_of_each : Trees → List Follower
  firsts_of_each no_trees = []
  firsts_of_each (tree chart charts) = firsts chart ++ firsts_of_each charts

-- the same of a chart at this level: labels of the procedure's chart alone stand for unit procedures
abbrev pub enter : Level → Tree → List Follower
enter in_procedure chart = firsts chart
enter _ chart = []

-- Up from a node

abbrev pub branch : Trees → ℕ → Option Tree
branch no_trees number = None
branch (tree chart charts) zero = Some chart
branch (tree chart charts) (suc number) = branch charts number

abbrev pub choice_at : Choices → ℕ → Option Tree
choice_at (otherwise chart) zero = Some chart
choice_at (otherwise chart) (suc number) = None
choice_at (choice condition chart choices) zero = Some chart
choice_at (choice condition chart choices) (suc number) = choice_at choices number

-- the child of a tree with this number
abbrev pub child_of : Tree → ℕ → Option Tree
child_of (act step (runs phase)) number = None
child_of (act step (follows name chart)) zero = Some chart
child_of (act step (follows name chart)) (suc number) = None
child_of skip number = None
child_of (seq charts) number = branch charts number
child_of (par charts) number = branch charts number
child_of (sel choices) number = choice_at choices number
child_of (loop turns until body) zero = Some body
child_of (loop turns until body) (suc number) = None

-- the level of the children of a tree
abbrev pub level_within : Level → Tree → Level
level_within level (act step task) = below level
level_within level _ = level

-- the followers of the child of a tree with this number, where `next` are those of the tree. After a branch of a `seq` the next branch is
-- taken. After the last branch, after a branch of a `sel` and after the chart of an act the way leads further up
abbrev pub next_after : Level → List Follower → Tree → ℕ → List Follower
next_after level next (act step task) number = next
next_after level next skip number = []
next_after level next (seq charts) number = elim (branch charts (suc number)) [ None ↦ next | Some chart ↦ enter level chart ]
next_after level next (par charts) number = []
next_after level next (sel choices) number = next
next_after level next (loop turns until body) number = []

-- the followers of the node at a place below a tree
abbrev pub following_below : Level → List Follower → Tree → Place → List Follower
following_below level next here [] = next
following_below level next here (number ∷ place) =
    elim (child_of here number)
    [ None ↦ [] | Some part ↦ following_below (level_within level here) (next_after level next here number) part place ]

-- the followers of the node at a place of a procedure's tree; the procedure has none
abbrev pub following : Tree → Place → List Follower
following procedure [] = []
following procedure (root ∷ place) = following_below is_procedure [] procedure place

-- the place of the unit procedure with this name that follows the node at a place: of the first, if several do
abbrev pub follower : Tree → Place → Name → Option Place
follower procedure place name = option_map (λ f. f.1) (find (λ f. same_name f.0 name) (following procedure place))
