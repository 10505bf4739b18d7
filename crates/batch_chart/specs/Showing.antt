-- private: the states that acts show.
use Rattle.std.specs.Prelude.{◌≡◌, ◌<◌, ◌≤◌, ◌+◌, ℕ, List, [], ◌∷◌, Bool, Option, None, find}
use Rattle.std.specs.List.{list_any}
use Rattle.batch_matrix.specs.declared.state.State.{State}
use Rattle.batch_matrix.specs.Matrix.{same_state}
use Rattle.batch_recipe.specs.Nodes.{node_count}
use Rattle.batch_recipe.specs.Tree.{Tree}
use Rattle.batch_model.specs.Plant.{Batch, phase_states}
use Rattle.batch_model.specs.Rest.{acts}
use Rattle.batch_model.specs.ActStates.{gravest, state_in}
use Rattle.batch_recipe.specs.declared.entry.Entry.{Entry}
use Rattle.batch_recipe.specs.declared.recipe.Recipe.{Recipe}
use Rattle.batch_chart.specs.declared.stage.Stage.{Stage}
use Rattle.batch_chart.specs.Outlined.{Stands, end_at}
use Rattle.batch_chart.specs.Meaning.{meaning}
use Rattle.batch_chart.specs.NodesOf.{place_at}
use Rattle.batch_chart.specs.Running.{IsLaid, IsAlive}

-- the state that an open act shows, by those of the live phases beneath it, in a batch of this state
abbrev pub shown_by : State → List State → State
shown_by batch states = elim states [ [] ↦ batch | x ∷ xs ↦ gravest x xs ]

-- one of these is the state
abbrev pub is_among : List State → State → Bool
is_among states x = list_any (λ y. same_state y x) states

-- the tree below the act at node n
abbrev pub StandsBelow : List Entry → Recipe → ℕ → Tree → Type 0
StandsBelow ns doc n c = (end_at ns n ≡ n + 1 + node_count c) × Stands ns doc (n + 1) c

-- the first of the wanted states that a live phase below the act at node n has
pub record IsFirstShown (ns : List Entry) (doc : Recipe) (n : ℕ) (xs : List Stage) (wanted : List State) (result : Option State) : Type 0 where
  pub means : (c : Tree) → StandsBelow ns doc n c → result ≡ find (is_among (phase_states (acts (meaning c (n + 1) xs)))) wanted

-- an open act at node n shows this state
pub record IsShown (ns : List Entry) (doc : Recipe) (n : ℕ) (xs : List Stage) (batch x : State) : Type 0 where
  pub means : (c : Tree) → StandsBelow ns doc n c → x ≡ shown_by batch (phase_states (acts (meaning c (n + 1) xs)))

-- the act at node k shows this state, in a batch of the state; None where no act is there
pub record IsStateAt (ns : List Entry) (doc : Recipe) (xs : List Stage) (k : ℕ) (batch : State) (result : Option State) : Type 0 where
  pub means : (t : Tree) (b : Batch) → IsLaid ns doc t → IsAlive t xs → k < node_count t → b.recipe.procedure ≡ t → b.state ≡ batch → b.rest ≡ meaning t 0 xs → result ≡ state_in b (place_at t k)
  pub past : (t : Tree) → IsLaid ns doc t → node_count t ≤ k → result ≡ None
