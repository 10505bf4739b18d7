-- trusted: ranks of resources that rise along edges, and circles of edges.
use Rattle.std.specs.Prelude.{◌≡◌, ◌≢◌, ℕ, ◌+◌, ◌<◌, ◌≤◌, List, [], ◌∷◌, length, slice_index}
use Rattle.std.specs.List.{All, AllPairs, Contains}
use Rattle.batch_check.specs.declared.edge.Edge.{Edge}

-- both resources of each edge are below count
abbrev pub HasEndsBelow : ℕ → List Edge → Type 0
HasEndsBelow count edges = All (λ e. (e.earlier < count) × (e.later < count)) edges

-- Rankings

-- positive ranks of the resources below count, which rise along each edge
pub record IsRanking (count : ℕ) (edges : List Edge) (rank : ℕ → ℕ) : Type 0 where
  pub positive : (resource : ℕ) → resource < count → 0 < rank resource
  pub rising : All (λ e. rank e.earlier < rank e.later) edges

-- an edge leads to the resource from one whose rank is lower by one
pub record IsJustAbove (edges : List Edge) (ranks : List ℕ) (resource : ℕ) : Type 0 where
  pub edge : Edge
  pub standing : Contains edges edge
  pub into : edge.later ≡ resource
  pub just_above : slice_index ranks resource ≡ slice_index ranks edge.earlier + 1

-- a ranking that has a rank for each resource, and no ranking ranks a resource lower
pub record IsLeastRanking (count : ℕ) (edges : List Edge) (ranks : List ℕ) : Type 0 where
  pub complete : length ranks ≡ count
  pub ranking : IsRanking count edges (λ resource. slice_index ranks resource)
  pub least : (other : ℕ → ℕ) → IsRanking count edges other
      → (resource : ℕ) → resource < count → slice_index ranks resource ≤ other resource
  -- so no rank is above the number of resources
  pub bounded : (resource : ℕ) → resource < count → slice_index ranks resource ≤ count
  -- and a rank is one more than the greatest among the resources that edges lead from, and 1 where there are none
  pub tight : (resource : ℕ) → resource < count → 1 < slice_index ranks resource → IsJustAbove edges ranks resource

-- Circles

-- the edges lead from the first resource to the last: the later of each edge is the earlier of the next
abbrev pub LeadsAlong : ℕ → List Edge → ℕ → Type 0
LeadsAlong first [] last = first ≡ last
LeadsAlong first (e ∷ es) last = (e.earlier ≡ first) × LeadsAlong e.later es last

-- edges out of these that lead from a resource back to it, and no resource comes twice
pub record IsEdgeCircle (edges : List Edge) (circle : List Edge) : Type 0 where
  pub start : ℕ
  pub nonempty : 0 < length circle
  pub closed : LeadsAlong start circle start
  pub apart : AllPairs (λ e f. e.later ≢ f.later) circle
  pub standing : All (Contains edges) circle

abbrev pub CirclesLeaveNoRanking : Type 0
CirclesLeaveNoRanking = (count : ℕ) (edges circle : List Edge) (rank : ℕ → ℕ) → IsEdgeCircle edges circle → IsRanking count edges rank → ⊥
