-- surface: the acts of the rest of a tree, each with the number of its node.
use Rattle.std.specs.Prelude.{ℕ, ◌+◌, List, [], ◌∷◌, ◌++◌, map, filter, true, false, Option, Some, None, nat_le}
use Rattle.batch_recipe.specs.Nodes.{node_count}
use Rattle.batch_recipe.specs.Tree.{Task, runs, follows, Tree, act, skip, seq, par, sel, loop, Trees, no_trees, tree, Choices, otherwise, choice}
use Rattle.batch_model.specs.Rest.{Rest, open_act, done}
use Rattle.batch_chart.specs.declared.stage.Stage.{Stage}
use Rattle.batch_chart.specs.Stages.{stage_at, is_begun, turns_of, is_finished}
use Rattle.batch_chart.specs.Meaning.{act_as, meaning_below}

-- an act at node n, and those below it
abbrev pub entries : ℕ → Rest → List (ℕ × Rest) → List (ℕ × Rest)
entries n done below = []
entries n (open_act s r) below = (n, open_act s r) ∷ below
entries n a below = (n, a) ∷ []

abbrev pub entries_in : Option ℕ → List (ℕ × Rest) → List (ℕ × Rest)
entries_in None below = []
entries_in (Some k) below = below

abbrev mutual
  pub numbered : Tree → ℕ → List Stage → List (ℕ × Rest)
  numbered (act s w) n xs = entries n (act_as s w (meaning_below w (n + 1) xs) (stage_at xs n)) (numbered_below w (n + 1) xs)
  numbered skip n xs = []
  numbered (seq ts) n xs = elim (is_begun (stage_at xs n)) [ true ↦ numbered_branch ts (n + 1) xs | false ↦ [] ]
  numbered (par ts) n xs = elim (is_begun (stage_at xs n)) [ true ↦ numbered_each ts (n + 1) xs | false ↦ [] ]
  numbered (sel ch) n xs = elim (is_begun (stage_at xs n)) [ true ↦ numbered_chosen ch (n + 1) xs | false ↦ [] ]
  numbered (loop k p body) n xs = entries_in (turns_of (stage_at xs n)) (numbered body (n + 1) xs)

  pub numbered_below : Task → ℕ → List Stage → List (ℕ × Rest)
  numbered_below (runs p) n xs = []
  numbered_below (follows name c) n xs = numbered c n xs

  pub numbered_each : Trees → ℕ → List Stage → List (ℕ × Rest)
  numbered_each no_trees n xs = []
  numbered_each (tree c ts) n xs = numbered c n xs ++ numbered_each ts (n + node_count c) xs

  pub numbered_branch : Trees → ℕ → List Stage → List (ℕ × Rest)
  numbered_branch no_trees n xs = []
  numbered_branch (tree c ts) n xs = elim (is_finished (stage_at xs n)) [ true ↦ numbered_branch ts (n + node_count c) xs | false ↦ numbered c n xs ]

  pub numbered_chosen : Choices → ℕ → List Stage → List (ℕ × Rest)
  numbered_chosen (otherwise c) n xs = numbered c n xs
  numbered_chosen (choice p c ch) n xs = elim (is_finished (stage_at xs n)) [ true ↦ numbered_chosen ch (n + node_count c) xs | false ↦ numbered c n xs ]

-- the acts at node k and at later ones
abbrev pub acts_since : Tree → List Stage → ℕ → List Rest
acts_since t xs k = map (λ (e : ℕ × Rest). e.1) (filter (λ (e : ℕ × Rest). nat_le k e.0) (numbered t 0 xs))
