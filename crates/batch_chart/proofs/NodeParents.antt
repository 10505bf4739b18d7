-- The parent of each node is the one above it.
use Rattle.std.proofs.Common.{◌≡◌, inl, inr, ℕ, ◌+◌, ◌<◌, ◌≤◌, List, [], length, Some, slice_get, sym, ap, ◌∙◌, refl, subst, arith, append-nil}
use Rattle.std.proofs.lemmas.Bool.{cases_lt, Decides.eqb_tells}
use Rattle.batch_recipe.{specs.Nodes.node_count, specs.Nodes.count_within, specs.Nodes.count_of_each, specs.Nodes.count_of_choices, specs.Outlines.Shape, specs.Outlines.shapes, specs.Outlines.shapes_within, specs.Outlines.shapes_of_each, specs.Outlines.shapes_of_choices, specs.Tree.Step, specs.Tree.Task, specs.Tree.runs, specs.Tree.follows, specs.Tree.Tree, specs.Tree.act, specs.Tree.skip, specs.Tree.seq, specs.Tree.par, specs.Tree.sel, specs.Tree.loop, specs.Tree.Trees, specs.Tree.no_trees, specs.Tree.tree, specs.Tree.Choices, specs.Tree.otherwise, specs.Tree.choice, proofs.EntryShapes.shapes_counted, proofs.NodeSubtrees.some_count, specs.declared.entry.Entry.Entry, specs.declared.recipe.Recipe.Recipe}
use Rattle.batch_chart.{specs.Outlined.end_at, specs.Outlined.Stands, specs.Outlined.StandsAct, specs.Outlined.AreStanding, specs.Outlined.AreChoices, specs.Parents.parent_at, specs.Parents.IsAbove, specs.Parents.HaveParents, proofs.Sublists.AreFrom, proofs.Sublists.from_left, proofs.Sublists.from_right, proofs.Sublists.from_tail, proofs.Sublists.from_head, proofs.TreePositions.stood-each, proofs.TreePositions.stood-choices, proofs.TreePositions.nested}

module _ (all : List Shape) (ns : List Entry) (doc : Recipe) (parents : (k : ℕ) (s : Shape) → slice_get all k ≡ Some s → parent_at ns k ≡ s.parent) where
  -- the nodes between node u and the number n have ended there
  abbrev IsClear : ℕ → ℕ → Type 0
  IsClear u n = (m : ℕ) → u < m → m < n → end_at ns m ≤ n

  own_parent : (t : Tree) (n u i : ℕ) → AreFrom all n (shapes n u i t) → parent_at ns n ≡ u
  own_parent (act s w) n u i h = parents n _ (from_head all n _ _ h)
  own_parent skip n u i h = parents n _ (from_head all n _ _ h)
  own_parent (seq ts) n u i h = parents n _ (from_head all n _ _ h)
  own_parent (par ts) n u i h = parents n _ (from_head all n _ _ h)
  own_parent (sel cs) n u i h = parents n _ (from_head all n _ _ h)
  own_parent (loop k c t) n u i h = parents n _ (from_head all n _ _ h)

  tree_clear : (c : Tree) (u n : ℕ) → IsClear u n → Stands ns doc n c → IsClear u (n + node_count c)
  tree_clear c u n clear h m low high = elim (cases_lt m n) [
    | inl q ↦ let e = clear m low q in omega (arith, e)
    | inr q ↦ nested ns doc m c n h q high
  ]

  -- a tree that is a child of node u
  first_above : (t : Tree) (n u i k : ℕ) → u < n → n + node_count t ≤ end_at ns u → IsClear u n → AreFrom all n (shapes n u i t) → n ≤ k → (n < k → IsAbove ns (parent_at ns k) k) → IsAbove ns (parent_at ns k) k
  first_above t n u i k later room clear are low below = elim (eqb_tells n k) [
    | inl q ↦
        let is : parent_at ns k ≡ u = ap (parent_at ns) (sym q.1) ∙ own_parent t n u i are in
        subst (λ p. IsAbove ns p k) (sym is) (subst (λ z. IsAbove ns u z) q.1 (record { before = later; past = omega (arith, room, some_count t); between = clear }))
    | inr q ↦ let d = q.1 in below (omega arith)
  ]

  mutual
    -- those below a node
    below_above : (t : Tree) (n u i : ℕ) → Stands ns doc n t → AreFrom all n (shapes n u i t) → (k : ℕ) → n < k → k < n + node_count t → IsAbove ns (parent_at ns k) k
    below_above (act s w) n u i h are k low high = work_above s w n h (from_tail all n _ _ are) k low high
    below_above skip n u i h are k low high = absurd (omega arith)
    below_above (seq ts) n u i h are k low high =
        each_above ts (n + 1) (n + node_count (seq ts)) n 0 (omega arith) (omega (arith, h.0.2)) (λ m a b. absurd (omega arith)) h.1 (from_tail all n _ _ are) k (omega arith) high
    below_above (par ts) n u i h are k low high =
        each_above ts (n + 1) (n + node_count (par ts)) n 0 (omega arith) (omega (arith, h.0.2)) (λ m a b. absurd (omega arith)) h.1 (from_tail all n _ _ are) k (omega arith) high
    below_above (sel cs) n u i h are k low high =
        choices_above cs h.0 (n + 1) (n + node_count (sel cs)) n 0 (omega arith) (omega (arith, h.1.2)) (λ m a b. absurd (omega arith)) h.2 (from_tail all n _ _ are) k (omega arith) high
    below_above (loop j c t) n u i h are k low high =
        let size : n + 1 + node_count t ≡ n + node_count (loop j c t) = omega arith in
        first_above t (n + 1) n 0 k (omega arith) (omega (arith, h.1.2)) (λ m a b. absurd (omega arith)) (from_tail all n _ _ are) (omega arith)
        (λ later. below_above t (n + 1) n 0 h.3 (from_tail all n _ _ are) k later (omega (arith, size, high)))

    work_above : (s : Step) (w : Task) (n : ℕ) → StandsAct ns doc n s w → AreFrom all (n + 1) (shapes_within n w) → (k : ℕ) → n < k → k < n + (1 + count_within w) → IsAbove ns (parent_at ns k) k
    work_above s (runs p) n h are k low high = absurd (omega arith)
    work_above s (follows name c) n h are k low high =
        first_above c (n + 1) n 0 k (omega arith) (omega (arith, h.0.2)) (λ m a b. absurd (omega arith)) are (omega arith)
        (λ later. below_above c (n + 1) n 0 h.1 are k later (omega (arith, high)))

    each_above : (ts : Trees) (n m u i : ℕ) → u < n → m ≤ end_at ns u → IsClear u n → AreStanding ns doc n m ts → AreFrom all n (shapes_of_each n u i ts) → (k : ℕ) → n ≤ k → k < m → IsAbove ns (parent_at ns k) k
    each_above no_trees n m u i later room clear h are k low high = absurd (omega (arith, h))
    each_above (tree c ts) n m u i later room clear h are k low high =
        let rest : m ≡ n + node_count c + count_of_each ts = stood-each ns doc (n + node_count c) m ts h.1 in
        let xs = shapes n u i c in
        elim (cases_lt k (n + node_count c)) [
          | inl q ↦ first_above c n u i k later (omega (arith, rest, room)) clear (from_left all n xs _ are) low (λ lt. below_above c n u i h.0 (from_left all n xs _ are) k lt q)
          | inr q ↦ each_above ts (n + node_count c) m u (i + 1) (omega (arith, later)) room (tree_clear c u n clear h.0) h.1
              (subst (λ j. AreFrom all (n + j) (shapes_of_each (n + node_count c) u (i + 1) ts)) (shapes_counted n u i c) (from_right all n xs _ are)) k q high
        ]

    choices_above : (cs : Choices) (first n m u i : ℕ) → u < n → m ≤ end_at ns u → IsClear u n → AreChoices ns doc first n m cs → AreFrom all n (shapes_of_choices n u i cs) → (k : ℕ) → n ≤ k → k < m → IsAbove ns (parent_at ns k) k
    choices_above (otherwise c) first n m u i later room clear h are k low high = first_above c n u i k later (omega (arith, h.1, room)) clear are low (λ lt. below_above c n u i h.0 are k lt (omega (arith, h.1, high)))
    choices_above (choice p c cs) first n m u i later room clear h are k low high =
        let rest : m ≡ n + node_count c + count_of_choices cs = stood-choices ns doc (first + 1) (n + node_count c) m cs h.2 in
        let xs = shapes n u i c in
        elim (cases_lt k (n + node_count c)) [
          | inl q ↦ first_above c n u i k later (omega (arith, rest, room)) clear (from_left all n xs _ are) low (λ lt. below_above c n u i h.1 (from_left all n xs _ are) k lt q)
          | inr q ↦ choices_above cs (first + 1) (n + node_count c) m u (i + 1) (omega (arith, later)) room (tree_clear c u n clear h.1) h.2
              (subst (λ j. AreFrom all (n + j) (shapes_of_choices (n + node_count c) u (i + 1) cs)) (shapes_counted n u i c) (from_right all n xs _ are)) k q high
        ]

  pub have_parents : (t : Tree) → Stands ns doc 0 t → length ns ≡ node_count t → all ≡ shapes 0 0 0 t → HaveParents ns
  have_parents t h size is = λ k some within.
      below_above t 0 0 0 h (record { front = []; rest = []; is = is ∙ sym (append-nil (shapes 0 0 0 t)); count = refl }) k some (omega (arith, within, size))
