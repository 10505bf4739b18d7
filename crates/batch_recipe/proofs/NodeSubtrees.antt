-- The tree at a node stands from the node's number on, and its subtrees right after it.
use Rattle.std.proofs.Common.{◌≡◌, ℕ, zero, suc, ◌+◌, ◌-◌, ◌<◌, ◌≤◌, List, [], ◌∷◌, ◌++◌, length, Some, None, get_or, slice_get, sym, ap, ◌∙◌, refl, subst, arith}
use Rattle.std.{specs.List.AllByRecursion, proofs.lemmas.Option.slice_get_within, proofs.lemmas.Option.slice_get-get_or}
use Rattle.batch_recipe.{specs.Children.IsHere, specs.Children.AreHere, specs.Children.AreCasesHere, specs.Children.IsBelow, specs.Children.HasBelow, specs.Conditions.Name, specs.Expanding.Binding, specs.Needs.resources_needed, specs.Nodes.Node, specs.Nodes.node, specs.Nodes.nodes, specs.Nodes.nodes_within, specs.Nodes.nodes_of_each, specs.Nodes.nodes_of_choices, specs.Nodes.child, specs.Nodes.node_count, specs.Nodes.count_of_each, specs.Nodes.count_of_choices, specs.Tree.Place, specs.Tree.Tree, specs.Tree.act, specs.Tree.skip, specs.Tree.seq, specs.Tree.par, specs.Tree.sel, specs.Tree.loop, specs.Tree.Task, specs.Tree.runs, specs.Tree.follows, specs.Tree.Trees, specs.Tree.no_trees, specs.Tree.tree, specs.Tree.Choices, specs.Tree.otherwise, specs.Tree.choice, specs.Procedure.bound_tree, specs.Procedure.bound_nodes, specs.declared.acts.Acts.Acts, proofs.OutlineLinks.AreFrom, proofs.OutlineLinks.from_left, proofs.OutlineLinks.from_right, proofs.OutlineLinks.from_tail, proofs.OutlineLinks.from_head, proofs.NodeOrder.counted_nodes, proofs.NodeOrder.in_order}

pub all_at : (P : Node → Type 0) (xs : List Node) → AllByRecursion P xs → (j : ℕ) (x : Node) → slice_get xs j ≡ Some x → P x
all_at P [] h j x is = let bad : None ≡ Some x = is in absurd cc
all_at P (y ∷ xs) h zero x is = let e : Some y ≡ Some x = is in let same : y ≡ x = cc in subst P same h.0
all_at P (y ∷ xs) h (suc j) x is = all_at P xs h.1 j x is

-- a tree has a node
pub some_count : (t : Tree) → 0 < node_count t
some_count (act s w) = omega arith
some_count skip = omega arith
some_count (seq ts) = omega arith
some_count (par ts) = omega arith
some_count (sel cs) = omega arith
some_count (loop n c t) = omega arith

module _ (ns : List Node) where
  is_here : (n : ℕ) (p : Place) (above : List Name) (t : Tree) → AreFrom ns n (nodes p above t) → IsHere ns n t
  is_here n p above (act s w) h = (node p above (act s w), from_head ns n (node p above (act s w)) (nodes_within p (above ++ resources_needed s.needs) w) h, refl)
  is_here n p above skip h = (node p above skip, from_head ns n (node p above skip) [] h, refl)
  is_here n p above (seq ts) h = (node p above (seq ts), from_head ns n (node p above (seq ts)) (nodes_of_each p above 0 ts) h, refl)
  is_here n p above (par ts) h = (node p above (par ts), from_head ns n (node p above (par ts)) (nodes_of_each p above 0 ts) h, refl)
  is_here n p above (sel cs) h = (node p above (sel cs), from_head ns n (node p above (sel cs)) (nodes_of_choices p above 0 cs) h, refl)
  is_here n p above (loop k c t) h = (node p above (loop k c t), from_head ns n (node p above (loop k c t)) (nodes (child p 0) above t) h, refl)

  are_here : (n m : ℕ) (p : Place) (above : List Name) (i : ℕ) (ts : Trees) → n + count_of_each ts ≡ m → AreFrom ns n (nodes_of_each p above i ts) → AreHere ns n m ts
  are_here n m p above i no_trees size h = omega (arith, size)
  are_here n m p above i (tree t ts) size h =
      let xs = nodes (child p i) above t in
      let ys = nodes_of_each p above (i + 1) ts in (
        is_here n (child p i) above t (from_left ns n xs ys h),
        are_here (n + node_count t) m p above (i + 1) ts (omega (arith, size)) (from_right ns n (node_count t) xs ys (counted_nodes (child p i) above t) h),
      )

  cases_here : (n m : ℕ) (p : Place) (above : List Name) (i : ℕ) (cs : Choices) → n + count_of_choices cs ≡ m → AreFrom ns n (nodes_of_choices p above i cs) → AreCasesHere ns n m cs
  cases_here n m p above i (otherwise t) size h = (is_here n (child p i) above t h, size)
  cases_here n m p above i (choice c t cs) size h =
      let xs = nodes (child p i) above t in
      let ys = nodes_of_choices p above (i + 1) cs in (
        is_here n (child p i) above t (from_left ns n xs ys h),
        cases_here (n + node_count t) m p above (i + 1) cs (omega (arith, size)) (from_right ns n (node_count t) xs ys (counted_nodes (child p i) above t) h),
      )

  task_here : (n : ℕ) (p : Place) (above : List Name) (w : Task) → AreFrom ns n (nodes_within p above w) → IsBelow ns n w
  task_here n p above (runs phase) h = tt
  task_here n p above (follows name t) h = is_here n (child p 0) above t h

  tree_has_below : (n : ℕ) (p : Place) (above : List Name) (t : Tree) → AreFrom ns n (nodes p above t) → HasBelow ns n t
  tree_has_below n p above (act s w) h =
      task_here (n + 1) p (above ++ resources_needed s.needs) w (from_tail ns n (node p above (act s w)) (nodes_within p (above ++ resources_needed s.needs) w) h)
  tree_has_below n p above skip h = tt
  tree_has_below n p above (seq ts) h = are_here (n + 1) (n + node_count (seq ts)) p above 0 ts (omega arith) (from_tail ns n (node p above (seq ts)) (nodes_of_each p above 0 ts) h)
  tree_has_below n p above (par ts) h = are_here (n + 1) (n + node_count (par ts)) p above 0 ts (omega arith) (from_tail ns n (node p above (par ts)) (nodes_of_each p above 0 ts) h)
  tree_has_below n p above (sel cs) h = cases_here (n + 1) (n + node_count (sel cs)) p above 0 cs (omega arith) (from_tail ns n (node p above (sel cs)) (nodes_of_choices p above 0 cs) h)
  tree_has_below n p above (loop k c t) h = is_here (n + 1) (child p 0) above t (from_tail ns n (node p above (loop k c t)) (nodes (child p 0) above t) h)

  -- the nodes of its tree stand from number n on
  abbrev pub Stands : ℕ → Node → Type 0
  Stands n x = (above : List Name) × AreFrom ns n (nodes x.place above x.here)

  -- so of each of these nodes, of which the first has number n
  abbrev AllStand : ℕ → List Node → Type 0
  AllStand n [] = Unit {0}
  AllStand n (x ∷ xs) = Stands n x × AllStand (n + 1) xs

  both : (n m : ℕ) (xs ys : List Node) → length xs ≡ m → AllStand n xs → AllStand (n + m) ys → AllStand n (xs ++ ys)
  both n m [] ys size h g = let same : n + m ≡ n = omega (arith, size) in subst (λ k. AllStand k ys) same g
  both n m (x ∷ xs) ys size h g =
      let same : n + m ≡ n + 1 + length xs = omega (arith, size) in
      (h.0, both (n + 1) (length xs) xs ys refl h.1 (subst (λ k. AllStand k ys) same g))

  mutual
    tree_stands : (n : ℕ) (p : Place) (above : List Name) (t : Tree) → AreFrom ns n (nodes p above t) → AllStand n (nodes p above t)
    tree_stands n p above (act s w) h =
        ((above, h), task_stands (n + 1) p (above ++ resources_needed s.needs) w (from_tail ns n (node p above (act s w)) (nodes_within p (above ++ resources_needed s.needs) w) h))
    tree_stands n p above skip h = ((above, h), tt)
    tree_stands n p above (seq ts) h = ((above, h), each_stand (n + 1) p above 0 ts (from_tail ns n (node p above (seq ts)) (nodes_of_each p above 0 ts) h))
    tree_stands n p above (par ts) h = ((above, h), each_stand (n + 1) p above 0 ts (from_tail ns n (node p above (par ts)) (nodes_of_each p above 0 ts) h))
    tree_stands n p above (sel cs) h = ((above, h), cases_stand (n + 1) p above 0 cs (from_tail ns n (node p above (sel cs)) (nodes_of_choices p above 0 cs) h))
    tree_stands n p above (loop k c t) h = ((above, h), tree_stands (n + 1) (child p 0) above t (from_tail ns n (node p above (loop k c t)) (nodes (child p 0) above t) h))

    task_stands : (n : ℕ) (p : Place) (above : List Name) (w : Task) → AreFrom ns n (nodes_within p above w) → AllStand n (nodes_within p above w)
    task_stands n p above (runs phase) h = tt
    task_stands n p above (follows name t) h = tree_stands n (child p 0) above t h

    each_stand : (n : ℕ) (p : Place) (above : List Name) (i : ℕ) (ts : Trees) → AreFrom ns n (nodes_of_each p above i ts) → AllStand n (nodes_of_each p above i ts)
    each_stand n p above i no_trees h = tt
    each_stand n p above i (tree t ts) h =
        let xs = nodes (child p i) above t in
        let ys = nodes_of_each p above (i + 1) ts in
        let size = counted_nodes (child p i) above t in
        both n (node_count t) xs ys size (tree_stands n (child p i) above t (from_left ns n xs ys h)) (each_stand (n + node_count t) p above (i + 1) ts (from_right ns n (node_count t) xs ys size h))

    cases_stand : (n : ℕ) (p : Place) (above : List Name) (i : ℕ) (cs : Choices) → AreFrom ns n (nodes_of_choices p above i cs) → AllStand n (nodes_of_choices p above i cs)
    cases_stand n p above i (otherwise t) h = tree_stands n (child p i) above t h
    cases_stand n p above i (choice c t cs) h =
        let xs = nodes (child p i) above t in
        let ys = nodes_of_choices p above (i + 1) cs in
        let size = counted_nodes (child p i) above t in
        both n (node_count t) xs ys size (tree_stands n (child p i) above t (from_left ns n xs ys h)) (cases_stand (n + node_count t) p above (i + 1) cs (from_right ns n (node_count t) xs ys size h))

  node_is : (a b : Node) → Some a ≡ Some b → a ≡ b
  node_is a b e = cc

  stands_at : (n : ℕ) (xs : List Node) → AllStand n xs → (j : ℕ) (x : Node) → slice_get xs j ≡ Some x → Stands (n + j) x
  stands_at n [] h j x is = let bad : None ≡ Some x = is in cc
  stands_at n (y ∷ xs) h zero x is =
      let same : n ≡ n + 0 = omega arith in
      subst (λ k. Stands k x) same (subst (λ (z : Node). Stands n z) (node_is y x is) h.0)
  stands_at n (y ∷ xs) h (suc j) x is =
      let same : n + 1 + j ≡ n + suc j = omega arith in
      subst (λ k. Stands k x) same (stands_at (n + 1) xs h.1 j x is)

module _ (bound : Binding) (acts : Acts) (k : ℕ) (x : Node) (is : slice_get (bound_nodes bound acts) k ≡ Some x) where
  -- the tree at each node of a recipe
  pub stands : Stands (bound_nodes bound acts) k x
  stands =
      let ns = bound_nodes bound acts in
      let all : (j : ℕ) (y : Node) → slice_get ns j ≡ Some y → slice_get ns (0 + j) ≡ Some y = λ j y h. ap (slice_get ns) (omega arith) ∙ h in
      let same : 0 + k ≡ k = omega arith in
      subst (λ n. Stands ns n x) same (stands_at ns 0 ns (tree_stands ns 0 (0 ∷ []) [] (bound_tree bound acts) all) k x is)

  -- and its subtrees
  pub has_below : HasBelow (bound_nodes bound acts) k x.here
  has_below = tree_has_below (bound_nodes bound acts) k x.place stands.0 x.here stands.1

  -- which ends within the nodes
  pub ends_within : k + node_count x.here ≤ length (bound_nodes bound acts)
  ends_within =
      let xs = nodes x.place stands.0 x.here in
      let size = counted_nodes x.place stands.0 x.here in
      let some = some_count x.here in
      let y = get_or xs (node_count x.here - 1) x in
      let here : slice_get xs (node_count x.here - 1) ≡ Some y = slice_get-get_or xs (node_count x.here - 1) x (omega (arith, size, some)) in
      let last = slice_get_within (bound_nodes bound acts) (k + (node_count x.here - 1)) y (stands.1 (node_count x.here - 1) y here) in
      omega (arith, last, some)

  -- a node with one of its numbers stands at its place or below it
  pub place_within : (m : ℕ) (z : Node) → slice_get (bound_nodes bound acts) m ≡ Some z → k ≤ m → m < k + node_count x.here → (rest : Place) × (z.place ≡ x.place ++ rest)
  place_within m z at low high =
      let xs = nodes x.place stands.0 x.here in
      let size = counted_nodes x.place stands.0 x.here in
      let y = get_or xs (m - k) x in
      let here : slice_get xs (m - k) ≡ Some y = slice_get-get_or xs (m - k) x (omega (arith, size, low, high)) in
      let number : k + (m - k) ≡ m = omega (arith, low) in
      let both : Some y ≡ Some z = sym (ap (slice_get (bound_nodes bound acts)) (sym number) ∙ stands.1 (m - k) y here) ∙ at in
      let same : y ≡ z = cc in
      subst (λ (w : Node). (rest : Place) × (w.place ≡ x.place ++ rest)) same
      (all_at (λ (w : Node). (rest : Place) × (w.place ≡ x.place ++ rest)) xs (in_order x.place stands.0 x.here).0 (m - k) y here)
