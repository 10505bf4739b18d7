-- private: the invariants while resources are reached from one of them, and circles with the fewest edges.
use Rattle.std.specs.Prelude.{◌≡◌, ◌≢◌, ℕ, ◌+◌, ◌<◌, ◌≤◌, List, length, slice_index, slice_index_or, Option, Some, None, IsTrue}
use Rattle.std.specs.List.{Contains}
use Rattle.batch_model.specs.Lists.{Each}
use Rattle.batch_check.specs.declared.edge.Edge.{Edge}
use Rattle.batch_check.specs.declared.spreading.Spread.{Spread}
use Rattle.batch_check.specs.declared.spreading.Spread.TheVariants.{Still, Further, Back}
use Rattle.batch_check.specs.Edges.{has_pair}
use Rattle.batch_check.specs.LeastRanking.{IsEdgeCircle, LeadsAlong}

-- Levels, which count from 1, that of the start; a resource that isn't reached has 0

-- the edge that reached a resource, from one whose level is lower by one
pub record IsReached (edges : List Edge) (levels : List ℕ) (causes : List (Option Edge)) (resource : ℕ) : Type 0 where
  pub edge : Edge
  pub stored : slice_index_or causes resource None ≡ Some edge
  pub standing : Contains edges edge
  pub into : edge.later ≡ resource
  pub from : 0 < slice_index levels edge.earlier
  pub one_above : slice_index levels resource ≡ slice_index levels edge.earlier + 1

-- each resource that has a level was reached, but for the start
pub record HasReached (edges : List Edge) (start : ℕ) (levels : List ℕ) (causes : List (Option Edge)) : Type 0 where
  pub lengths : length causes ≡ length levels
  pub root : slice_index levels start ≡ 1
  pub reached : (resource : ℕ) → resource ≢ start → 0 < slice_index levels resource → IsReached edges levels causes resource

-- the edge doesn't lead back to the start, but to a resource that is reached, at most one level up
pub record LeadsOn (start : ℕ) (levels : List ℕ) (edge : Edge) : Type 0 where
  pub elsewhere : edge.later ≢ start
  pub reached : 0 < slice_index levels edge.later
  pub near : slice_index levels edge.later ≤ slice_index levels edge.earlier + 1

-- no level is above this one, and all edges from levels below it lead on
pub record IsSpread (edges : List Edge) (start level : ℕ) (levels : List ℕ) (causes : List (Option Edge)) : Type 0 where
  pub has : HasReached edges start levels causes
  pub top : (resource : ℕ) → slice_index levels resource ≤ level
  pub onward : (edge : Edge) → Contains edges edge → 0 < slice_index levels edge.earlier → slice_index levels edge.earlier < level → LeadsOn start levels edge

-- the edge leads back to the start from a resource of this level
pub record LeadsBack (edges : List Edge) (start level : ℕ) (levels : List ℕ) (causes : List (Option Edge)) (edge : Edge) : Type 0 where
  pub has : HasReached edges start levels causes
  pub positive : 0 < level
  pub standing : Contains edges edge
  pub from : slice_index levels edge.earlier ≡ level
  pub back : edge.later ≡ start

-- the outcome of a round over all edges
abbrev pub IsSpreadOn : List Edge → ℕ → ℕ → List ℕ → List (Option Edge) → Spread → Type 0
IsSpreadOn edges start level levels causes Still = IsSpread edges start (level + 1) levels causes × ((resource : ℕ) → slice_index levels resource ≤ level)
IsSpreadOn edges start level levels causes Further = IsSpread edges start (level + 1) levels causes
IsSpreadOn edges start level levels causes (Back edge) = LeadsBack edges start level levels causes edge

-- Circles

-- an edge joins the two resources of each of these
abbrev pub AreJoined : List Edge → List Edge → Type 0
AreJoined edges walk = Each (λ e. IsTrue (has_pair edges e.earlier e.later)) walk

-- joined resources lead from the start back to it by no fewer edges than these
abbrev pub NoneBelow : List Edge → ℕ → ℕ → Type 0
NoneBelow edges start most = (walk : List Edge) → LeadsAlong start walk start → 0 < length walk → AreJoined edges walk → most ≤ length walk

-- a circle of so many edges
pub record IsClosedAt (edges : List Edge) (start level : ℕ) (circle : List Edge) : Type 0 where
  pub is_circle : IsEdgeCircle edges circle
  pub sized : length circle ≡ level

-- a circle with fewer than so many edges, and no other through the start has fewer
pub record IsFewest (edges : List Edge) (start most : ℕ) (circle : List Edge) : Type 0 where
  pub is_circle : IsEdgeCircle edges circle
  pub fewer : length circle < most
  pub none : NoneBelow edges start (length circle)

-- no circle of joined resources has fewer edges
abbrev pub HasFewest : List Edge → List Edge → Type 0
HasFewest edges circle = (other : List Edge) → IsEdgeCircle other other → AreJoined edges other → length circle ≤ length other
