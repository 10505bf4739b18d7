-- private: edges that join the needs of a path to one more.
use Rattle.std.specs.Prelude.{◌≡◌, ℕ, ◌<◌, List, [], ◌∷◌, ◌++◌, Option, Some, None, ◌⊎◌, IsTrue, option_map, unwrap_or, Box}
use Rattle.std.specs.Global.{Global}
use Rattle.std.specs.List.{Contains}
use Rattle.batch_check.specs.declared.asked.Asked.{Asked}
use Rattle.batch_check.specs.declared.edge.Edge.{Edge}
use Rattle.batch_check.specs.declared.edge_set.EdgeSet.{EdgeSet}
use Rattle.batch_check.specs.Edges.{HasPairsOf, has_pair}
use Rattle.batch_check.specs.Pairs.{Keeps}

-- the set grows
pub record Grows (old new : EdgeSet) : Type 0 where
  pub same_count : new.count ≡ old.count
  pub kept : Keeps old.edges.items new.edges.items
  pub stays : (edge : Edge) → Contains old.edges.items edge → Contains new.edges.items edge
  -- a new edge leads where none led
  pub fresh : (edge : Edge) → Contains new.edges.items edge → Contains old.edges.items edge ⊎ ¬ (IsTrue (has_pair old.edges.items edge.earlier edge.later))

-- the needs that are kept, as a list
abbrev pub items_in : Option (Box Asked Global) → Option (List (Option ℕ))
items_in None = None
items_in (Some asked) = Some asked.value.needs.items

-- those from which edges lead
abbrev pub needs_in : Option (List (Option ℕ)) → List (Option ℕ)
needs_in asked = unwrap_or asked []

-- each need that is a resource has a number below count
abbrev pub AreBelow : ℕ → List (Option ℕ) → Type 0
AreBelow count needs = (number : ℕ) → Contains needs (Some number) → number < count

-- the act at the node asks for the edge's later, and its earlier is one of these needs
pub record LeadsFrom (recipe node : ℕ) (needs : List (Option ℕ)) (later : Option ℕ) (edge : Edge) : Type 0 where
  pub recipe_is : edge.recipe ≡ recipe
  pub node_is : edge.node ≡ node
  pub earlier_is : Contains needs (Some edge.earlier)
  pub later_is : later ≡ Some edge.later

-- an edge leads from each of these needs to the one that the act at the node asks for
pub record HasJoined (recipe node : ℕ) (needs : List (Option ℕ)) (later : Option ℕ) (old new : EdgeSet) : Type 0 where
  pub grown : Grows old new
  pub joined : (i j : ℕ) → Contains needs (Some i) → later ≡ Some j → IsTrue (has_pair new.edges.items i j)
  pub only : (edge : Edge) → Contains new.edges.items edge → Contains old.edges.items edge ⊎ LeadsFrom recipe node needs later edge

-- if needs are kept, edges lead from them to one more, which is kept too
pub record IsKept (recipe node : ℕ) (asked : Option (List (Option ℕ))) (number : Option ℕ) (old new : EdgeSet) (kept : Option (List (Option ℕ))) : Type 0 where
  pub joined : HasJoined recipe node (needs_in asked) number old new
  pub extended : kept ≡ option_map (λ needs. needs ++ number ∷ []) asked

-- these edges were added, each if none led from the one resource to the other yet
pub record HasTaken (edges : List Edge) (old new : EdgeSet) : Type 0 where
  pub grown : Grows old new
  pub taken : HasPairsOf edges new.edges.items
  pub only : (edge : Edge) → Contains new.edges.items edge → Contains old.edges.items edge ⊎ Contains edges edge
