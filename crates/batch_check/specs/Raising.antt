-- private: the invariants while the ranks of resources are raised.
use Rattle.std.specs.Prelude.{◌≡◌, ℕ, ◌+◌, ◌<◌, ◌≤◌, List, length, slice_index, slice_index_or, Option, Some, None, ◌⊎◌}
use Rattle.std.specs.List.{All, Contains}
use Rattle.batch_check.specs.declared.edge.Edge.{Edge}
use Rattle.batch_check.specs.declared.raising.Round.{Round}
use Rattle.batch_check.specs.declared.raising.Round.TheVariants.{Still, Raised, Overran}
use Rattle.batch_check.specs.LeastRanking.{IsRanking}

-- the edge that last raised the rank of a resource
pub record IsCaused (edges : List Edge) (ranks : List ℕ) (causes : List (Option Edge)) (resource : ℕ) : Type 0 where
  pub edge : Edge
  pub stored : slice_index_or causes resource None ≡ Some edge
  pub standing : Contains edges edge
  pub into : edge.later ≡ resource
  pub one_above : slice_index ranks resource ≤ slice_index ranks edge.earlier + 1

-- the invariant of each raise of a rank
pub record IsProgress (edges : List Edge) (ranks : List ℕ) (causes : List (Option Edge)) : Type 0 where
  pub lengths : length causes ≡ length ranks
  pub positive : (resource : ℕ) → resource < length ranks → 0 < slice_index ranks resource
  pub bounded : (resource : ℕ) → resource < length ranks → slice_index ranks resource ≤ length ranks
  pub least : (other : ℕ → ℕ) → IsRanking (length ranks) edges other
      → (resource : ℕ) → resource < length ranks → slice_index ranks resource ≤ other resource
  pub caused : (resource : ℕ) → resource < length ranks → 1 < slice_index ranks resource → IsCaused edges ranks causes resource

-- the ranks rise along the edge, or its earlier has at least rank k
abbrev pub RisesOr : ℕ → List ℕ → Edge → Type 0
RisesOr k ranks e = (slice_index ranks e.earlier < slice_index ranks e.later) ⊎ (k ≤ slice_index ranks e.earlier)

-- an edge whose earlier has the greatest rank that there is
pub record Overruns (edges : List Edge) (ranks : List ℕ) (edge : Edge) : Type 0 where
  pub standing : Contains edges edge
  pub top : length ranks ≤ slice_index ranks edge.earlier

-- the outcome of a round over all edges, from the first ranks
abbrev pub IsRound : List Edge → List ℕ → List ℕ → Round → Type 0
IsRound edges first ranks Still = All (λ e. slice_index ranks e.earlier < slice_index ranks e.later) edges
IsRound edges first ranks Raised = (k : ℕ) → All (RisesOr k first) edges → All (RisesOr (k + 1) ranks) edges
IsRound edges first ranks (Overran edge) = Overruns edges ranks edge
