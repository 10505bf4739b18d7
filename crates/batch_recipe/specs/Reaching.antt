-- private: the child of a node by its number.
use Rattle.std.specs.Prelude.{◌≡◌, ℕ, List, slice_get, Some}
use Rattle.batch_recipe.specs.Nodes.{Node, child}
use Rattle.batch_recipe.specs.Places.{IsNodeAt}

-- node number k is child i of the node n
abbrev pub IsChildOf : List Node → ℕ → ℕ → ℕ → Type 0
IsChildOf ns n i k = (above : Node) → slice_get ns n ≡ Some above → IsNodeAt ns k (child above.place i)

abbrev pub HasNoChild : List Node → ℕ → ℕ → Type 0
HasNoChild ns n i = (above : Node) → slice_get ns n ≡ Some above → (k : ℕ) → ¬ (IsNodeAt ns k (child above.place i))
