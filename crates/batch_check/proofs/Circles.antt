-- Circles out of edges that stand.
use Rattle.std.proofs.Common.{ℕ, ◌≡◌, ◌<◌, ◌≤◌, List, IsTrue, Contains, length, arith}
use Rattle.std.proofs.lemmas.List.Elements.{All-weaker, All-contains, All-contains_itself, recursion_from_All}
use Rattle.batch_cell.specs.declared.cell.Cell.{Cell}
use Rattle.batch_recipe.specs.declared.recipe.Recipe.{Recipe}
use Rattle.batch_check.specs.{declared.edge.Edge.Edge, declared.edge_set.EdgeSet.EdgeSet, Clearing.StandsAsCircle, Collecting.HasAllPairs, Edges.EdgeStands, Edges.has_pair, LeastRanking.IsEdgeCircle, LeastRanking.HasEndsBelow, Shortest.IsShortest, Spreading.HasFewest}

module _ (edges circle : List Edge) (h : IsEdgeCircle edges circle) where
  pub circle_within : (count : ℕ) → HasEndsBelow count edges → HasEndsBelow count circle
  circle_within count within =
      let P : Edge → Type 0 = λ e. (e.earlier < count) × (e.later < count) in
      All-weaker (Contains edges) P (λ e stands. All-contains P edges e within stands) circle h.standing

  circle_itself : IsEdgeCircle circle circle
  circle_itself = record { start = h.start; nonempty = h.nonempty; closed = h.closed; apart = h.apart; standing = All-contains_itself circle }

  -- it stays one where edges are added
  pub circle_stays : (more : List Edge) → ((e : Edge) → Contains edges e → Contains more e) → IsEdgeCircle more circle
  circle_stays more stays = record {
    start = h.start;
    nonempty = h.nonempty;
    closed = h.closed;
    apart = h.apart;
    standing = All-weaker (Contains edges) (Contains more) stays circle h.standing;
  }

module _ (cell : Cell) (recipes : List Recipe) (old set : EdgeSet) (pairs : HasAllPairs cell recipes old set) where
  pub stands_as_circle : (circle : List Edge) → IsEdgeCircle set.edges.items circle → StandsAsCircle cell recipes circle
  stands_as_circle circle h = record {
    circle = circle_itself set.edges.items circle h;
    standing = All-weaker (Contains set.edges.items) (EdgeStands cell recipes) pairs.standing circle h.standing;
  }

  -- the fewest edges of the set are the fewest that stand
  pub is_shortest : (shortest turned : List Edge) → HasFewest set.edges.items shortest → length turned ≡ length shortest → IsShortest cell recipes turned
  is_shortest shortest turned fewest same other stands =
      let P : Edge → Type 0 = λ e. IsTrue (has_pair set.edges.items e.earlier e.later) in
      let least : length shortest ≤ length other = fewest other stands.circle (recursion_from_All P other (All-weaker (EdgeStands cell recipes) P pairs.whole other stands.standing)) in
      omega (arith, same, least)
