-- private: the subtrees below the nodes of an expanded tree, by number.
use Rattle.std.specs.Prelude.{◌≡◌, ℕ, ◌+◌, List, slice_get, Some, ⊤}
use Rattle.batch_recipe.specs.Nodes.{Node, node_count}
use Rattle.batch_recipe.specs.Tree.{Tree, act, skip, seq, par, sel, loop, Task, runs, follows, Trees, no_trees, tree, Choices, otherwise, choice}

-- the tree at the node with the number k
abbrev pub IsHere : List Node → ℕ → Tree → Type 0
IsHere ns k t = (x : Node) × (slice_get ns k ≡ Some x) × (x.here ≡ t)

-- the trees stand one after another from number k to m
abbrev pub AreHere : List Node → ℕ → ℕ → Trees → Type 0
AreHere ns k m no_trees = k ≡ m
AreHere ns k m (tree t ts) = IsHere ns k t × AreHere ns (k + node_count t) m ts

abbrev pub AreCasesHere : List Node → ℕ → ℕ → Choices → Type 0
AreCasesHere ns k m (otherwise t) = IsHere ns k t × (k + node_count t ≡ m)
AreCasesHere ns k m (choice c t cs) = IsHere ns k t × AreCasesHere ns (k + node_count t) m cs

abbrev pub IsBelow : List Node → ℕ → Task → Type 0
IsBelow ns k (runs phase) = ⊤
IsBelow ns k (follows name t) = IsHere ns k t

-- the subtrees of the tree at number k stand right after it
abbrev pub HasBelow : List Node → ℕ → Tree → Type 0
HasBelow ns k (act s w) = IsBelow ns (k + 1) w
HasBelow ns k skip = ⊤
HasBelow ns k (seq ts) = AreHere ns (k + 1) (k + node_count (seq ts)) ts
HasBelow ns k (par ts) = AreHere ns (k + 1) (k + node_count (par ts)) ts
HasBelow ns k (sel cs) = AreCasesHere ns (k + 1) (k + node_count (sel cs)) cs
HasBelow ns k (loop n c t) = IsHere ns (k + 1) t
