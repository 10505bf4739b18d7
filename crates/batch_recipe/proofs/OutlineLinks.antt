-- How the nodes of an outline hang together.
use Rattle.std.proofs.Common.{◌≡◌, ℕ, zero, suc, ◌+◌, ◌<◌, ◌≤◌, List, [], ◌∷◌, ◌++◌, length, Some, None, slice_get, sym, ap, ◌∙◌, refl, subst, arith, append-nil, inl, inr}
use Rattle.std.{specs.Option.option_map, proofs.lemmas.List.length-map, proofs.lemmas.Option.slice_get-map}
use Rattle.batch_recipe.{specs.ActsAtNodes.procedure_acts, specs.Conditions.Name, specs.Expanding.Binding, specs.Needs.resources_needed, specs.Nodes.Node, specs.Nodes.node, specs.Nodes.nodes, specs.Nodes.nodes_within, specs.Nodes.nodes_of_each, specs.Nodes.nodes_of_choices, specs.Nodes.child, specs.Nodes.needs_of, specs.Nodes.node_count, specs.Nodes.count_within, specs.Nodes.count_of_each, specs.Nodes.count_of_choices, specs.Outlines.Shape, specs.Outlines.act_of_kind, specs.Outlines.shape_of, specs.Outlines.shape, specs.Outlines.shapes, specs.Outlines.shapes_within, specs.Outlines.shapes_of_each, specs.Outlines.shapes_of_choices, specs.Outlines.IsOutline, specs.Links.form_at, specs.Links.IsShaped, specs.Links.Hangs, specs.Links.IsEntryOf, specs.Links.IsBranch, specs.Links.IsChoice, specs.Links.IsOnlyChild, specs.Links.IsChildTree, specs.Procedure.bound_tree, specs.Procedure.bound_nodes, specs.Tree.Place, specs.Tree.Tree, specs.Tree.act, specs.Tree.skip, specs.Tree.seq, specs.Tree.par, specs.Tree.sel, specs.Tree.loop, specs.Tree.Task, specs.Tree.runs, specs.Tree.follows, specs.Tree.Trees, specs.Tree.no_trees, specs.Tree.tree, specs.Tree.Choices, specs.Tree.otherwise, specs.Tree.choice, specs.declared.acts.Acts.Acts, specs.declared.condition.Condition.Condition, specs.declared.entry.Entry.Entry, proofs.NodeOrder.counted_nodes, proofs.AppendedLists.slice_get-left, proofs.AppendedLists.slice_get-right, proofs.EntryShapes.shapes_counted}

module _ (ns : List Node) where
  -- these are the nodes from number n on
  abbrev pub AreFrom : ℕ → List Node → Type 0
  AreFrom n xs = (j : ℕ) (x : Node) → slice_get xs j ≡ Some x → slice_get ns (n + j) ≡ Some x

  pub from_left : (n : ℕ) (xs ys : List Node) → AreFrom n (xs ++ ys) → AreFrom n xs
  from_left n xs ys h = λ j x is. h j x (slice_get-left xs ys j x is)

  pub from_right : (n m : ℕ) (xs ys : List Node) → length xs ≡ m → AreFrom n (xs ++ ys) → AreFrom (n + m) ys
  from_right n m xs ys size h = λ j x is.
      let same : n + m + j ≡ n + (length xs + j) = omega (arith, size) in
      ap (slice_get ns) same ∙ h (length xs + j) x (slice_get-right xs ys j ∙ is)

  pub from_tail : (n : ℕ) (x : Node) (xs : List Node) → AreFrom n (x ∷ xs) → AreFrom (n + 1) xs
  from_tail n x xs h = λ j y is.
      let same : n + 1 + j ≡ n + suc j = omega arith in
      ap (slice_get ns) same ∙ h (suc j) y is

  pub from_head : (n : ℕ) (x : Node) (xs : List Node) → AreFrom n (x ∷ xs) → slice_get ns n ≡ Some x
  from_head n x xs h = let same : n ≡ n + 0 = omega arith in ap (slice_get ns) same ∙ h 0 x refl

  abbrev IsLinked : ℕ → Node → Shape → Type 0
  IsLinked k at s = IsShaped k at s × Hangs ns k at s

  abbrev AreLinked : ℕ → List Node → List Shape → Type 0
  AreLinked n [] [] = Unit {0}
  AreLinked n (x ∷ xs) (s ∷ ss) = IsLinked n x s × AreLinked (n + 1) xs ss
  AreLinked n _ _ = ⊥

  linked_both : (n m : ℕ) (xs ys : List Node) (ss rr : List Shape) → length xs ≡ m → AreLinked n xs ss → AreLinked (n + m) ys rr → AreLinked n (xs ++ ys) (ss ++ rr)
  linked_both n m [] ys [] rr size h g = let same : n + m ≡ n = omega (arith, size) in subst (λ k. AreLinked k ys rr) same g
  linked_both n m (x ∷ xs) ys (s ∷ ss) rr size h g =
      let same : n + m ≡ n + 1 + length xs = omega (arith, size) in
      (h.0, linked_both (n + 1) (length xs) xs ys ss rr refl h.1 (subst (λ k. AreLinked k ys rr) same g))
  linked_both n m xs ys ss rr size h g = grind arith

  linked_at : (n : ℕ) (xs : List Node) (ss : List Shape) → AreLinked n xs ss → (j : ℕ) (s : Shape) → slice_get ss j ≡ Some s
      → (x : Node) × (slice_get xs j ≡ Some x) × IsLinked (n + j) x s
  linked_at n [] [] h j s is = let bad : None ≡ Some s = is in cc
  linked_at n (x ∷ xs) (r ∷ ss) h zero s is =
      let e : r ≡ s = some_same r s is in
      let same : n ≡ n + 0 = omega arith in
      (x, refl, subst (λ k. IsLinked k x s) same (subst (λ (q : Shape). IsLinked n x q) e h.0))
    where
      some_same : (a b : Shape) → Some a ≡ Some b → a ≡ b
      some_same a b e = cc
  linked_at n (x ∷ xs) (r ∷ ss) h (suc j) s is =
      let g = linked_at (n + 1) xs ss h.1 j s is in
      let same : n + 1 + j ≡ n + suc j = omega arith in
      (g.0, g.1, subst (λ k. IsLinked k g.0 s) same g.2)
  linked_at n xs ss h j s is = grind arith

  -- below the node y with the number u, whose tree is `of`, and which ends at m or later
  record Below (u n m : ℕ) (p : Place) (above : List Name) (of : Tree) : Type 0 where
    pub y : Node
    pub known : slice_get ns u ≡ Some y
    pub earlier : u < n
    pub room : m ≤ u + node_count y.here
    pub placed : y.place ≡ p
    pub asked : y.asked ≡ above
    pub here : y.here ≡ of

  first_linked : (n u i m : ℕ) (p : Place) (above : List Name) (of t : Tree) → n + node_count t ≤ m → IsChildTree of i t → Below u n m p above of
      → IsLinked n (node (child p i) above t) (shape (form_at t) n u i t)
  first_linked n u i m p above of t fits is b = (
    record { formed = refl; ended = refl },
    record {
      above = b.y;
      known = b.known;
      earlier = b.earlier;
      within = omega (arith, b.room, fits);
      branch = subst (λ (w : Tree). IsChildTree w i t) (sym b.here) is;
      placed = ap (λ q. child q i) (sym b.placed);
      asks = ap (λ xs. xs ++ resources_needed (needs_of t)) (sym b.asked);
    },
  )

  under : (n m : ℕ) (p : Place) (above : List Name) (t : Tree) (xs : List Node) → m ≡ n + node_count t → AreFrom n (node p above t ∷ xs) → Below n (n + 1) m p (above ++ resources_needed (needs_of t)) t
  under n m p above t xs size h =
      record { y = node p above t; known = from_head n (node p above t) xs h; earlier = omega arith; room = omega (arith, size); placed = refl; asked = refl; here = refl }

  -- where it asks for nothing itself
  plain : (n m : ℕ) (p : Place) (above : List Name) (t : Tree) (xs : List Node) → needs_of t ≡ [] → m ≡ n + node_count t → AreFrom n (node p above t ∷ xs) → Below n (n + 1) m p above t
  plain n m p above t xs none size h =
      record {
        y = node p above t;
        known = from_head n (node p above t) xs h;
        earlier = omega arith;
        room = omega (arith, size);
        placed = refl;
        asked = ap (λ ys. above ++ resources_needed ys) none ∙ append-nil above;
        here = refl;
      }

  later : (u n k m : ℕ) (p : Place) (above : List Name) (of : Tree) → Below u n m p above of → Below u (n + k) m p above of
  later u n k m p above of b = record { y = b.y; known = b.known; earlier = omega (arith, b.earlier); room = b.room; placed = b.placed; asked = b.asked; here = b.here }

  -- the branches that are numbered from i are branches of the tree
  abbrev AreBranches : Tree → ℕ → Trees → Type 0
  AreBranches of i ts = (j : ℕ) (t : Tree) → IsBranch ts j t → IsChildTree of (i + j) t

  abbrev AreChoices : Tree → ℕ → Choices → Type 0
  AreChoices of i cs = (j : ℕ) (t : Tree) → IsChoice cs j t → IsChildTree of (i + j) t

  first_branch : (of : Tree) (i : ℕ) (t : Tree) (ts : Trees) → AreBranches of i (tree t ts) → IsChildTree of i t
  first_branch of i t ts h = let same : i + 0 ≡ i = omega arith in subst (λ k. IsChildTree of k t) same (h 0 t refl)

  more_branches : (of : Tree) (i : ℕ) (t : Tree) (ts : Trees) → AreBranches of i (tree t ts) → AreBranches of (i + 1) ts
  more_branches of i t ts h = λ j v is. let same : i + suc j ≡ i + 1 + j = omega arith in subst (λ k. IsChildTree of k v) same (h (suc j) v is)

  only_choice : (of : Tree) (i : ℕ) (t : Tree) → AreChoices of i (otherwise t) → IsChildTree of i t
  only_choice of i t h = let same : i + 0 ≡ i = omega arith in subst (λ k. IsChildTree of k t) same (h 0 t refl)

  first_choice : (of : Tree) (i : ℕ) (c : Condition) (t : Tree) (cs : Choices) → AreChoices of i (choice c t cs) → IsChildTree of i t
  first_choice of i c t cs h = let same : i + 0 ≡ i = omega arith in subst (λ k. IsChildTree of k t) same (h 0 t refl)

  more_choices : (of : Tree) (i : ℕ) (c : Condition) (t : Tree) (cs : Choices) → AreChoices of i (choice c t cs) → AreChoices of (i + 1) cs
  more_choices of i c t cs h = λ j v is. let same : i + suc j ≡ i + 1 + j = omega arith in subst (λ k. IsChildTree of k v) same (h (suc j) v is)

  own_branches : (of : Tree) (ts : Trees) → ((j : ℕ) (t : Tree) → IsBranch ts j t → IsChildTree of j t) → AreBranches of 0 ts
  own_branches of ts h = λ j t is. let same : j ≡ 0 + j = omega arith in subst (λ k. IsChildTree of k t) same (h j t is)

  mutual
    tree_linked : (n u i m : ℕ) (p : Place) (above : List Name) (of t : Tree) → n + node_count t ≤ m → IsChildTree of i t → Below u n m p above of → AreFrom n (nodes (child p i) above t)
        → AreLinked n (nodes (child p i) above t) (shapes n u i t)
    tree_linked n u i m p above of (act s w) fits is b h =
        let size : n + node_count (act s w) ≡ n + 1 + count_within w = omega arith in (
          first_linked n u i m p above of (act s w) fits is b,
          within_linked n (n + node_count (act s w)) (child p i) (above ++ resources_needed s.needs) (act s w) w (omega (arith, size)) (λ j t c. c) (under n (n + node_count (act s w)) (child p i) above (act s w) _ refl h) (from_tail n _ _ h),
        )
    tree_linked n u i m p above of skip fits is b h = (first_linked n u i m p above of skip fits is b, tt)
    tree_linked n u i m p above of (seq ts) fits is b h = (
      first_linked n u i m p above of (seq ts) fits is b,
      each_linked (n + 1) n 0 (n + node_count (seq ts)) (child p i) above (seq ts) ts (omega arith) (own_branches (seq ts) ts (λ j t c. c)) (plain n (n + node_count (seq ts)) (child p i) above (seq ts) _ refl refl h) (from_tail n _ _ h),
    )
    tree_linked n u i m p above of (par ts) fits is b h = (
      first_linked n u i m p above of (par ts) fits is b,
      each_linked (n + 1) n 0 (n + node_count (par ts)) (child p i) above (par ts) ts (omega arith) (own_branches (par ts) ts (λ j t c. c)) (plain n (n + node_count (par ts)) (child p i) above (par ts) _ refl refl h) (from_tail n _ _ h),
    )
    tree_linked n u i m p above of (sel cs) fits is b h = (
      first_linked n u i m p above of (sel cs) fits is b,
      choices_linked (n + 1) n 0 (n + node_count (sel cs)) (child p i) above (sel cs) cs (omega arith)
          (λ j t c. let same : j ≡ 0 + j = omega arith in subst (λ k. IsChildTree (sel cs) k t) same c)
          (plain n (n + node_count (sel cs)) (child p i) above (sel cs) _ refl refl h) (from_tail n _ _ h),
    )
    tree_linked n u i m p above of (loop k c t) fits is b h = (
      first_linked n u i m p above of (loop k c t) fits is b,
      tree_linked (n + 1) n 0 (n + node_count (loop k c t)) (child p i) above (loop k c t) t (omega arith) (refl, refl) (plain n (n + node_count (loop k c t)) (child p i) above (loop k c t) _ refl refl h) (from_tail n _ _ h),
    )

    within_linked : (n m : ℕ) (p : Place) (above : List Name) (of : Tree) (w : Task) → n + 1 + count_within w ≤ m → ((j : ℕ) (t : Tree) → IsOnlyChild w j t → IsChildTree of j t) → Below n (n + 1) m p above of
        → AreFrom (n + 1) (nodes_within p above w) → AreLinked (n + 1) (nodes_within p above w) (shapes_within n w)
    within_linked n m p above of (runs phase) fits is b h = tt
    within_linked n m p above of (follows name t) fits is b h = tree_linked (n + 1) n 0 m p above of t fits (is 0 t (refl, refl)) b h

    each_linked : (n u i m : ℕ) (p : Place) (above : List Name) (of : Tree) (ts : Trees) → n + count_of_each ts ≤ m → AreBranches of i ts → Below u n m p above of → AreFrom n (nodes_of_each p above i ts)
        → AreLinked n (nodes_of_each p above i ts) (shapes_of_each n u i ts)
    each_linked n u i m p above of no_trees fits are b h = tt
    each_linked n u i m p above of (tree t ts) fits are b h =
        let size = counted_nodes (child p i) above t in
        linked_both n (node_count t) (nodes (child p i) above t) (nodes_of_each p above (i + 1) ts) (shapes n u i t) (shapes_of_each (n + node_count t) u (i + 1) ts) size
        (tree_linked n u i m p above of t (omega (arith, fits)) (first_branch of i t ts are) b (from_left n (nodes (child p i) above t) (nodes_of_each p above (i + 1) ts) h))
        (each_linked (n + node_count t) u (i + 1) m p above of ts (omega (arith, fits)) (more_branches of i t ts are) (later u n (node_count t) m p above of b)
        (from_right n (node_count t) (nodes (child p i) above t) (nodes_of_each p above (i + 1) ts) size h))

    choices_linked : (n u i m : ℕ) (p : Place) (above : List Name) (of : Tree) (cs : Choices) → n + count_of_choices cs ≤ m → AreChoices of i cs → Below u n m p above of → AreFrom n (nodes_of_choices p above i cs)
        → AreLinked n (nodes_of_choices p above i cs) (shapes_of_choices n u i cs)
    choices_linked n u i m p above of (otherwise t) fits are b h = tree_linked n u i m p above of t fits (only_choice of i t are) b h
    choices_linked n u i m p above of (choice c t cs) fits are b h =
        let size = counted_nodes (child p i) above t in
        linked_both n (node_count t) (nodes (child p i) above t) (nodes_of_choices p above (i + 1) cs) (shapes n u i t) (shapes_of_choices (n + node_count t) u (i + 1) cs) size
        (tree_linked n u i m p above of t (omega (arith, fits)) (first_choice of i c t cs are) b (from_left n (nodes (child p i) above t) (nodes_of_choices p above (i + 1) cs) h))
        (choices_linked (n + node_count t) u (i + 1) m p above of cs (omega (arith, fits)) (more_choices of i c t cs are) (later u n (node_count t) m p above of b)
        (from_right n (node_count t) (nodes (child p i) above t) (nodes_of_choices p above (i + 1) cs) size h))

some_is : (a b : Shape) → Some a ≡ Some b → a ≡ b
some_is a b e = cc

root_entry : (s : Rattle.batch_recipe.specs.Tree.Step) (w : Task) (k : ℕ) (e : Entry) → slice_get (shapes 0 0 0 (act s w)) k ≡ Some (shape_of e) → IsEntryOf (nodes (0 ∷ []) [] (act s w)) k e
root_entry s w zero e is =
    let root = node (0 ∷ []) [] (act s w) in
    let same = some_is (shape (form_at (act s w)) 0 0 0 (act s w)) (shape_of e) is in
    record {
      at = root;
      numbered = refl;
      shaped = subst (λ (q : Shape). IsShaped 0 root q) same (record { formed = refl; ended = refl });
      hangs = inl (record { number = refl; alone = ap (λ (q : Shape). q.child) (sym same); placed = refl; asks = refl });
    }
root_entry s w (suc k) e is =
    let ns = nodes (0 ∷ []) [] (act s w) in
    let root = node (0 ∷ []) [] (act s w) in
    let asked = resources_needed s.needs in
    let xs = nodes_within (0 ∷ []) asked w in
    let all : (j : ℕ) (x : Node) → slice_get ns j ≡ Some x → slice_get ns (0 + j) ≡ Some x = λ j x h. ap (slice_get ns) (omega arith) ∙ h in
    let linked = within_linked ns 0 (node_count (act s w)) (0 ∷ []) asked (act s w) w (omega arith) (λ j t c. c) (under ns 0 (node_count (act s w)) (0 ∷ []) [] (act s w) xs (omega arith) all) (from_tail ns 0 root xs all) in
    let g = linked_at ns 1 xs (shapes_within 0 w) linked k (shape_of e) is in
    let same : 1 + k ≡ suc k = omega arith in
    record {
      at = g.0;
      numbered = g.1;
      shaped = subst (λ n. IsShaped n g.0 (shape_of e)) same g.2.0;
      hangs = inr (subst (λ n. Hangs ns n g.0 (shape_of e)) same g.2.1);
    }

module _ (acts : Acts) (es : List Entry) (h : IsOutline acts es) where
  -- an entry stands for the node with its number, whatever units take the roles
  pub entry_of : (bound : Binding) (k : ℕ) (e : Entry) → slice_get es k ≡ Some e → IsEntryOf (bound_nodes bound acts) k e
  entry_of bound k e is =
      root_entry _ _ k e (ap (λ ss. slice_get ss k) (sym (h.shaped bound)) ∙ (slice_get-map shape_of es k ∙ ap (option_map shape_of) is))

  -- there are as many
  pub as_many_entries : (bound : Binding) → length es ≡ length (bound_nodes bound acts)
  as_many_entries bound = sym (length-map es shape_of) ∙ (ap length (h.shaped bound) ∙ (shapes_counted 0 0 0 (bound_tree bound acts) ∙ sym (counted_nodes (0 ∷ []) [] (bound_tree bound acts))))

  pub act_of_entry : (k : ℕ) (e : Entry) → slice_get es k ≡ Some e → slice_get (procedure_acts acts) k ≡ Some (act_of_kind acts e.kind)
  act_of_entry k e is = ap (λ xs. slice_get xs k) (sym h.acted) ∙ (slice_get-map (λ (x : Entry). act_of_kind acts x.kind) es k ∙ ap (option_map (λ (x : Entry). act_of_kind acts x.kind)) is)
