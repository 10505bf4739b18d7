-- No place of a tree has more numbers than there are nodes above it and in the tree.
use Rattle.std.proofs.Common.{◌≡◌, ℕ, zero, suc, ◌+◌, ◌<◌, ◌≤◌, ◌++◌, List, [], ◌∷◌, length, slice_get, Some, None, subst, arith, length-append}
use Rattle.std.specs.List.{AllByRecursion}
use Rattle.batch_recipe.{specs.Conditions.Name, specs.Tree.Place, specs.Tree.Tree, specs.Tree.act, specs.Tree.skip, specs.Tree.seq, specs.Tree.par, specs.Tree.sel, specs.Tree.loop, specs.Tree.Task, specs.Tree.runs, specs.Tree.follows, specs.Tree.Trees, specs.Tree.no_trees, specs.Tree.tree, specs.Tree.Choices, specs.Tree.otherwise, specs.Tree.choice, specs.Nodes.Node, specs.Nodes.nodes, specs.Nodes.nodes_within, specs.Nodes.nodes_of_each, specs.Nodes.nodes_of_choices, specs.Nodes.child, specs.Nodes.node_count, specs.Nodes.count_within, specs.Nodes.count_of_each, specs.Nodes.count_of_choices, proofs.NodeOrder.counted_nodes, specs.Needs.resources_needed}

abbrev IsShallow : ℕ → Node → Type 0
IsShallow b n = length n.place < b

abbrev AreShallow : ℕ → List Node → Type 0
AreShallow b ns = AllByRecursion (IsShallow b) ns

both : (b : ℕ) (xs ys : List Node) → AreShallow b xs → AreShallow b ys → AreShallow b (xs ++ ys)
both b [] ys h g = g
both b (x ∷ xs) ys h g = (h.0, both b xs ys h.1 g)

below_child : (p : Place) (i count b : ℕ) → length p + 1 + count ≤ b → length (child p i) + count ≤ b
below_child p i count b h = let e = length-append p (i ∷ []) in omega arith

mutual
  shallow : (p : Place) (above : List Name) (t : Tree) (b : ℕ) → length p + node_count t ≤ b → AreShallow b (nodes p above t)
  shallow p above (act s w) b h = (omega arith, shallow_within p (above ++ resources_needed s.needs) w b (omega arith))
  shallow p above skip b h = (omega arith, tt)
  shallow p above (seq ts) b h = (omega arith, shallow_each p above 0 ts b (omega arith))
  shallow p above (par ts) b h = (omega arith, shallow_each p above 0 ts b (omega arith))
  shallow p above (sel cs) b h = (omega arith, shallow_choices p above 0 cs b (omega arith))
  shallow p above (loop n c t) b h = (omega arith, shallow (child p 0) above t b (below_child p 0 (node_count t) b (omega arith)))

  shallow_within : (p : Place) (above : List Name) (w : Task) (b : ℕ) → length p + 1 + count_within w ≤ b → AreShallow b (nodes_within p above w)
  shallow_within p above (runs phase) b h = tt
  shallow_within p above (follows name t) b h = shallow (child p 0) above t b (below_child p 0 (node_count t) b h)

  shallow_each : (p : Place) (above : List Name) (i : ℕ) (ts : Trees) (b : ℕ) → length p + 1 + count_of_each ts ≤ b → AreShallow b (nodes_of_each p above i ts)
  shallow_each p above i no_trees b h = tt
  shallow_each p above i (tree t ts) b h =
      both b (nodes (child p i) above t) (nodes_of_each p above (i + 1) ts)
      (shallow (child p i) above t b (below_child p i (node_count t) b (omega arith))) (shallow_each p above (i + 1) ts b (omega arith))

  shallow_choices : (p : Place) (above : List Name) (i : ℕ) (cs : Choices) (b : ℕ) → length p + 1 + count_of_choices cs ≤ b → AreShallow b (nodes_of_choices p above i cs)
  shallow_choices p above i (otherwise t) b h = shallow (child p i) above t b (below_child p i (node_count t) b h)
  shallow_choices p above i (choice c t cs) b h =
      both b (nodes (child p i) above t) (nodes_of_choices p above (i + 1) cs)
      (shallow (child p i) above t b (below_child p i (node_count t) b (omega arith))) (shallow_choices p above (i + 1) cs b (omega arith))

found_shallow : (b : ℕ) (ns : List Node) (k : ℕ) (at : Node) → AreShallow b ns → slice_get ns k ≡ Some at → length at.place < b
found_shallow b [] k at h got = let bad : None ≡ Some at = got in absurd cc
found_shallow b (n ∷ ns) zero at h got = let same : Some n ≡ Some at = got in let e : n ≡ at = cc in subst (IsShallow b) e h.0
found_shallow b (n ∷ ns) (suc k) at h got = found_shallow b ns k at h.1 got

-- a node of a tree at the root
pub root_shallow : (t : Tree) (k : ℕ) (at : Node) → slice_get (nodes (0 ∷ []) [] t) k ≡ Some at → length at.place ≤ length (nodes (0 ∷ []) [] t)
root_shallow t k at got =
    let counted = counted_nodes (0 ∷ []) [] t in
    let small = found_shallow (1 + node_count t) (nodes (0 ∷ []) [] t) k at (shallow (0 ∷ []) [] t (1 + node_count t) (omega arith)) got in
    omega arith
