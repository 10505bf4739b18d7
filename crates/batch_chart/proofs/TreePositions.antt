-- Where trees stand.
use Rattle.std.proofs.Common.{◌≡◌, ◌≢◌, inl, inr, ◌<◌, ◌≤◌, ℕ, zero, suc, ◌+◌, List, [], ◌∷◌, Some, length, arith, refl, sym, ◌∙◌, subst, ap}
use Rattle.std.{specs.Prelude.slice_get, proofs.lemmas.Bool.cases_lt, proofs.lemmas.Bool.Decides.eqb_tells}
use Rattle.batch_recipe.{specs.Nodes.node_count, specs.Nodes.count_of_each, specs.Nodes.count_of_choices, specs.Nodes.count_within, specs.Conditions.Name, specs.Tree.Step, specs.Tree.Phase, specs.Tree.Task, specs.Tree.runs, specs.Tree.follows, specs.Tree.Tree, specs.Tree.act, specs.Tree.skip, specs.Tree.seq, specs.Tree.par, specs.Tree.sel, specs.Tree.loop, specs.Tree.Trees, specs.Tree.no_trees, specs.Tree.tree, specs.Tree.Choices, specs.Tree.otherwise, specs.Tree.choice, specs.declared.condition.Condition.Condition, specs.declared.entry.Entry.Entry, proofs.NodeSubtrees.some_count, specs.declared.recipe.Recipe.Recipe}
use Rattle.batch_chart.specs.{declared.node.Kind.TheVariants.Skip, declared.node.Kind.TheVariants.Act, declared.node.Kind.TheVariants.Seq, declared.node.Kind.TheVariants.Par, declared.node.Kind.TheVariants.Sel, declared.node.Kind.TheVariants.Loop, declared.stage.Stage.Stage, Outlined.end_at, Outlined.kind_at, Outlined.IsCondition, Outlined.IsPhase, Outlined.Stands, Outlined.StandsAct, Outlined.AreStanding, Outlined.AreChoices, Outlined.HasTree, Outlined.HaveTrees, Outlined.HaveChoices}
use Rattle.batch_chart.specs.declared.node.Kind.TheVariants as kind

pub choices-pos : (ch : Choices) → 0 < count_of_choices ch
choices-pos (otherwise c) = some_count c
choices-pos (choice p c ch) = omega (arith, some_count c)

pub record Stood (ns : List Entry) (n : ℕ) (c : Tree) : Type 0 where
  pub within : n < length ns
  pub end : end_at ns n ≡ n + node_count c
  pub fits : n + node_count c ≤ length ns

pub below-get : {X : Type 0} (xs : List X) (i : ℕ) (x : X) → slice_get xs i ≡ Some x → i < length xs
below-get [] i x e = absurd (cc)
below-get (y ∷ xs) zero x e = omega arith
below-get (y ∷ xs) (suc i) x e = omega (arith, below-get xs i x e)

module _ (ns : List Entry) (doc : Recipe) where
  stood-act : (n : ℕ) (s : Step) (w : Task) → StandsAct ns doc n s w → Stood ns n (act s w)
  stood-act n s (runs p) h = record { within = h.1.0; end = h.1.2; fits = h.1.3 }
  stood-act n s (follows name c) h = record { within = h.0.0; end = h.0.2; fits = h.0.3 }

  pub stood : (n : ℕ) (c : Tree) → Stands ns doc n c → Stood ns n c
  stood n (act s w) h = stood-act n s w h
  stood n skip h = record { within = h.0; end = h.2; fits = h.3 }
  stood n (sel ch) h = record { within = h.1.0; end = h.1.2; fits = h.1.3 }
  stood n (loop k c body) h = record { within = h.1.0; end = h.1.2; fits = h.1.3 }
  stood n x h = record { within = h.0.0; end = h.0.2; fits = h.0.3 }

  pub stood-each : (n m : ℕ) (ts : Trees) → AreStanding ns doc n m ts → m ≡ n + count_of_each ts
  stood-each n m no_trees h = omega (arith, h)
  stood-each n m (tree c ts) h = omega (arith, stood-each (n + node_count c) m ts h.1)

  pub stood-choices : (i n m : ℕ) (ch : Choices) → AreChoices ns doc i n m ch → m ≡ n + count_of_choices ch
  stood-choices i n m (otherwise c) h = omega (arith, h.1)
  stood-choices i n m (choice p c ch) h = omega (arith, stood-choices (i + 1) (n + node_count c) m ch h.2)

  -- the trees at a node of each kind

  pub data SkipAt (n : ℕ) : Tree → Type 0 where
    skip_at : SkipAt n skip

  pub data PhaseAt (n k i : ℕ) : Tree → Type 0 where
    phase_at : (s : Step) (p : Phase) → IsPhase doc i p → end_at ns n ≡ n + 1 → length s.needs ≡ k → PhaseAt n k i (act s (runs p))

  pub data ActAt (n k : ℕ) : Tree → Type 0 where
    act_at : (s : Step) (name : Name) (c : Tree) → Stands ns doc (n + 1) c → end_at ns n ≡ n + (1 + node_count c) → length s.needs ≡ k → ActAt n k (act s (follows name c))

  pub data SeqAt (n : ℕ) : Tree → Type 0 where
    seq_at : (ts : Trees) → AreStanding ns doc (n + 1) (end_at ns n) ts → SeqAt n (seq ts)

  pub data ParAt (n : ℕ) : Tree → Type 0 where
    par_at : (ts : Trees) → AreStanding ns doc (n + 1) (end_at ns n) ts → ParAt n (par ts)

  pub data SelAt (n i : ℕ) : Tree → Type 0 where
    sel_at : (ch : Choices) → AreChoices ns doc i (n + 1) (end_at ns n) ch → SelAt n i (sel ch)

  pub data LoopAt (n k i : ℕ) : Tree → Type 0 where
    loop_at : (p : Condition) (body : Tree) → IsCondition doc i p → Stands ns doc (n + 1) body → end_at ns n ≡ n + (1 + node_count body) → LoopAt n k i (loop k p body)

  pub skip-at : (n : ℕ) → kind_at ns n ≡ Skip → (c : Tree) → Stands ns doc n c → SkipAt n c
  skip-at n e (act s (follows name c)) h = let d = h.0.1 in absurd (cc)
  skip-at n e skip h = skip_at
  skip-at n e (seq ts) h = let d = h.0.1 in absurd (cc)
  skip-at n e (par ts) h = let d = h.0.1 in absurd (cc)
  skip-at n e x h = let d = h.1.1 in absurd (cc)

  pub phase-at : (n k i : ℕ) → kind_at ns n ≡ kind.Phase k i → (c : Tree) → Stands ns doc n c → PhaseAt n k i c
  phase-at n k i e (act s (runs p)) h =
      let d : kind.Phase (length s.needs) h.0 ≡ kind.Phase k i = sym h.1.1 ∙ e in
      let same : h.0 ≡ i = cc in
      phase_at s p (subst (λ j. IsPhase doc j p) same h.2) h.1.2 (cc)
  phase-at n k i e skip h = let d = h.1 in absurd (cc)
  phase-at n k i e (sel ch) h = let d = h.1.1 in absurd (cc)
  phase-at n k i e (loop j p body) h = let d = h.1.1 in absurd (cc)
  phase-at n k i e x h = let d = h.0.1 in absurd (cc)

  pub act-at : (n k : ℕ) → kind_at ns n ≡ Act k → (c : Tree) → Stands ns doc n c → ActAt n k c
  act-at n k e (act s (follows name c)) h =
      let d : Act (length s.needs) ≡ Act k = sym h.0.1 ∙ e in
      act_at s name c h.1 h.0.2 (cc)
  act-at n k e skip h = let d = h.1 in absurd (cc)
  act-at n k e (seq ts) h = let d = h.0.1 in absurd (cc)
  act-at n k e (par ts) h = let d = h.0.1 in absurd (cc)
  act-at n k e x h = let d = h.1.1 in absurd (cc)

  pub seq-at : (n : ℕ) → kind_at ns n ≡ Seq → (c : Tree) → Stands ns doc n c → SeqAt n c
  seq-at n e (act s (follows name c)) h = let d = h.0.1 in absurd (cc)
  seq-at n e skip h = let d = h.1 in absurd (cc)
  seq-at n e (seq ts) h = seq_at ts (subst (λ m. AreStanding ns doc (n + 1) m ts) (sym h.0.2) h.1)
  seq-at n e (par ts) h = let d = h.0.1 in absurd (cc)
  seq-at n e x h = let d = h.1.1 in absurd (cc)

  pub par-at : (n : ℕ) → kind_at ns n ≡ Par → (c : Tree) → Stands ns doc n c → ParAt n c
  par-at n e (act s (follows name c)) h = let d = h.0.1 in absurd (cc)
  par-at n e skip h = let d = h.1 in absurd (cc)
  par-at n e (seq ts) h = let d = h.0.1 in absurd (cc)
  par-at n e (par ts) h = par_at ts (subst (λ m. AreStanding ns doc (n + 1) m ts) (sym h.0.2) h.1)
  par-at n e x h = let d = h.1.1 in absurd (cc)

  pub sel-at : (n i : ℕ) → kind_at ns n ≡ Sel i → (c : Tree) → Stands ns doc n c → SelAt n i c
  sel-at n i e (act s (runs p)) h = let d = h.1.1 in absurd (cc)
  sel-at n i e skip h = let d = h.1 in absurd (cc)
  sel-at n i e (sel ch) h =
      let d : Sel h.0 ≡ Sel i = sym h.1.1 ∙ e in
      let same : h.0 ≡ i = cc in
      sel_at ch (subst (λ m. AreChoices ns doc i (n + 1) m ch) (sym h.1.2) (subst (λ j. AreChoices ns doc j (n + 1) (n + node_count (sel ch)) ch) same h.2))
  sel-at n i e (loop k p body) h = let d = h.1.1 in absurd (cc)
  sel-at n i e x h = let d = h.0.1 in absurd (cc)

  pub loop-at : (n k i : ℕ) → kind_at ns n ≡ Loop k i → (c : Tree) → Stands ns doc n c → LoopAt n k i c
  loop-at n k i e (act s (runs p)) h = let d = h.1.1 in absurd (cc)
  loop-at n k i e skip h = let d = h.1 in absurd (cc)
  loop-at n k i e (sel ch) h = let d = h.1.1 in absurd (cc)
  loop-at n k i e (loop j p body) h =
      let d : Loop j h.0 ≡ Loop k i = sym h.1.1 ∙ e in
      let same : h.0 ≡ i = cc in
      let turns : j ≡ k = cc in
      subst (λ z. LoopAt n z i (loop j p body)) turns (loop_at p body (subst (λ z. IsCondition doc z p) same h.2) h.3 h.1.2)
  loop-at n k i e x h = let d = h.0.1 in absurd (cc)

  -- the trees of a row, one after the other

  pub data RowAt (n m : ℕ) : Trees → Type 0 where
    row_at : (c : Tree) (ts : Trees) → Stands ns doc n c → AreStanding ns doc (end_at ns n) m ts → end_at ns n ≡ n + node_count c → end_at ns n ≤ m → RowAt n m (tree c ts)

  pub row-at : (n m : ℕ) → n ≢ m → (ts : Trees) → AreStanding ns doc n m ts → RowAt n m ts
  row-at n m ne no_trees h = absurd (ne h)
  row-at n m ne (tree c ts) h =
      let e : end_at ns n ≡ n + node_count c = (stood n c h.0).end in
      row_at c ts h.0 (subst (λ i. AreStanding ns doc i m ts) (sym e) h.1) e (omega (arith, stood-each (n + node_count c) m ts h.1))

  pub row-end : (n m : ℕ) → n ≡ m → (ts : Trees) → AreStanding ns doc n m ts → ts ≡ no_trees
  row-end n m e no_trees h = refl
  row-end n m e (tree c ts) h = absurd (omega (arith, stood-each (n + node_count c) m ts h.1, some_count c))

  -- the branches of a selection: the last one, or one before others

  pub data LastAt (n m : ℕ) : Choices → Type 0 where
    last_at : (c : Tree) → Stands ns doc n c → LastAt n m (otherwise c)

  pub data ChoiceAt (i n m : ℕ) : Choices → Type 0 where
    choice_at : (p : Condition) (c : Tree) (ch : Choices) → IsCondition doc i p → Stands ns doc n c → AreChoices ns doc (i + 1) (end_at ns n) m ch → end_at ns n ≡ n + node_count c → end_at ns n < m → ChoiceAt i n m (choice p c ch)

  pub last-at : (i n m : ℕ) → end_at ns n ≡ m → (ch : Choices) → AreChoices ns doc i n m ch → LastAt n m ch
  last-at i n m e (otherwise c) h = last_at c h.0
  last-at i n m e (choice p c ch) h =
      absurd (omega (arith, (stood n c h.1).end, stood-choices (i + 1) (n + node_count c) m ch h.2, choices-pos ch))

  pub choice-at : (i n m : ℕ) → end_at ns n ≢ m → (ch : Choices) → AreChoices ns doc i n m ch → ChoiceAt i n m ch
  choice-at i n m ne (otherwise c) h = absurd (ne ((stood n c h.0).end ∙ h.1))
  choice-at i n m ne (choice p c ch) h =
      let e : end_at ns n ≡ n + node_count c = (stood n c h.1).end in
      choice_at p c ch h.0 h.1 (subst (λ z. AreChoices ns doc (i + 1) z m ch) (sym e) h.2) e
      (omega (arith, stood-choices (i + 1) (n + node_count c) m ch h.2, choices-pos ch))

  -- the first branch, whichever it is
  pub data BranchAt (n m : ℕ) : Choices → Type 0 where
    only_at : (c : Tree) → Stands ns doc n c → end_at ns n ≡ m → BranchAt n m (otherwise c)
    more_at : (p : Condition) (c : Tree) (ch : Choices) → Stands ns doc n c → end_at ns n < m → BranchAt n m (choice p c ch)

  pub branch-at : (i n m : ℕ) (ch : Choices) → AreChoices ns doc i n m ch → BranchAt n m ch
  branch-at i n m (otherwise c) h = only_at c h.0 ((stood n c h.0).end ∙ h.1)
  branch-at i n m (choice p c ch) h =
      more_at p c ch h.1 (omega (arith, (stood n c h.1).end, stood-choices (i + 1) (n + node_count c) m ch h.2, choices-pos ch))

  -- a tree stands at each node

  abbrev pub SomeStands : ℕ → Type 0
  SomeStands k = (c : Tree) × Stands ns doc k c

  mutual
    pub some-stands : (k : ℕ) (c : Tree) (n : ℕ) → Stands ns doc n c → n ≤ k → k < n + node_count c → SomeStands k
    some-stands k (act s w) n h le lt = elim (eqb_tells n k) [
      | inl q ↦ (act s w, subst (λ i. Stands ns doc i (act s w)) q.1 h)
      | inr q ↦ let d = q.1 in some-act k s w n h (omega arith) lt
    ]
    some-stands k skip n h le lt = let e : n ≡ k = omega arith in (skip, subst (λ i. Stands ns doc i skip) e h)
    some-stands k (seq ts) n h le lt = elim (eqb_tells n k) [
      | inl q ↦ (seq ts, subst (λ i. Stands ns doc i (seq ts)) q.1 h)
      | inr q ↦ let d = q.1 in some-each k ts (n + 1) (n + (1 + count_of_each ts)) h.1 (omega arith) lt
    ]
    some-stands k (par ts) n h le lt = elim (eqb_tells n k) [
      | inl q ↦ (par ts, subst (λ i. Stands ns doc i (par ts)) q.1 h)
      | inr q ↦ let d = q.1 in some-each k ts (n + 1) (n + (1 + count_of_each ts)) h.1 (omega arith) lt
    ]
    some-stands k (sel ch) n h le lt = elim (eqb_tells n k) [
      | inl q ↦ (sel ch, subst (λ i. Stands ns doc i (sel ch)) q.1 h)
      | inr q ↦ let d = q.1 in some-choices k ch h.0 (n + 1) (n + (1 + count_of_choices ch)) h.2 (omega arith) lt
    ]
    some-stands k (loop i p body) n h le lt = elim (eqb_tells n k) [
      | inl q ↦ (loop i p body, subst (λ z. Stands ns doc z (loop i p body)) q.1 h)
      | inr q ↦ let d = q.1 in some-stands k body (n + 1) h.3 (omega arith) (omega arith)
    ]

    some-act : (k : ℕ) (s : Step) (w : Task) (n : ℕ) → StandsAct ns doc n s w → n < k → k < n + (1 + count_within w) → SomeStands k
    some-act k s (runs p) n h le lt = absurd (omega arith)
    some-act k s (follows name c) n h le lt = some-stands k c (n + 1) h.1 (omega arith) (omega arith)

    pub some-each : (k : ℕ) (ts : Trees) (n m : ℕ) → AreStanding ns doc n m ts → n ≤ k → k < m → SomeStands k
    some-each k no_trees n m h le lt = absurd (omega (arith, h))
    some-each k (tree c ts) n m h le lt = elim (cases_lt k (n + node_count c)) [
      | inl q ↦ some-stands k c n h.0 le q
      | inr q ↦ some-each k ts (n + node_count c) m h.1 q lt
    ]

    pub some-choices : (k : ℕ) (ch : Choices) (i n m : ℕ) → AreChoices ns doc i n m ch → n ≤ k → k < m → SomeStands k
    some-choices k (otherwise c) i n m h le lt = some-stands k c n h.0 le (omega (arith, h.1))
    some-choices k (choice p c ch) i n m h le lt = elim (cases_lt k (n + node_count c)) [
      | inl q ↦ some-stands k c n h.1 le q
      | inr q ↦ some-choices k ch (i + 1) (n + node_count c) m h.2 q lt
    ]

  -- the requirements of calls on parts

  module _ (xs : List Stage) where
    pub within : (n : ℕ) → HasTree ns doc xs n → n < length ns
    within n h = (stood n h.1.0 h.1.1).within

    pub below-end : (n : ℕ) → HasTree ns doc xs n → n < end_at ns n
    below-end n h = omega (arith, (stood n h.1.0 h.1.1).end, some_count h.1.0)

    pub end-fits : (n : ℕ) → HasTree ns doc xs n → end_at ns n ≤ length ns
    end-fits n h = omega (arith, (stood n h.1.0 h.1.1).end, (stood n h.1.0 h.1.1).fits)

    pub seq-standing : (ys : List Stage) (n : ℕ) → HasTree ns doc xs n → kind_at ns n ≡ Seq → length ys ≡ length ns → HaveTrees ns doc ys (n + 1) (end_at ns n)
    seq-standing ys n h e l = go h.1.0 (seq-at n e h.1.0 h.1.1)
      where
        go : (c : Tree) → SeqAt n c → HaveTrees ns doc ys (n + 1) (end_at ns n)
        go _ (seq_at ts a) = (l, (ts, a))

    pub par-standing : (ys : List Stage) (n : ℕ) → HasTree ns doc xs n → kind_at ns n ≡ Par → length ys ≡ length ns → HaveTrees ns doc ys (n + 1) (end_at ns n)
    par-standing ys n h e l = go h.1.0 (par-at n e h.1.0 h.1.1)
      where
        go : (c : Tree) → ParAt n c → HaveTrees ns doc ys (n + 1) (end_at ns n)
        go _ (par_at ts a) = (l, (ts, a))

    pub sel-standing : (ys : List Stage) (n i : ℕ) → HasTree ns doc xs n → kind_at ns n ≡ Sel i → length ys ≡ length ns → HaveChoices ns doc ys i (n + 1) (end_at ns n)
    sel-standing ys n i h e l = go h.1.0 (sel-at n i e h.1.0 h.1.1)
      where
        go : (c : Tree) → SelAt n i c → HaveChoices ns doc ys i (n + 1) (end_at ns n)
        go _ (sel_at ch a) = (l, (ch, a))

    pub loop-standing : (ys : List Stage) (n k i : ℕ) → HasTree ns doc xs n → kind_at ns n ≡ Loop k i → length ys ≡ length ns → HasTree ns doc ys (n + 1)
    loop-standing ys n k i h e l = go h.1.0 (loop-at n k i e h.1.0 h.1.1)
      where
        go : (c : Tree) → LoopAt n k i c → HasTree ns doc ys (n + 1)
        go _ (loop_at p body q a b) = (l, (body, a))

    pub first-standing : (n m : ℕ) → n ≢ m → HaveTrees ns doc xs n m → HasTree ns doc xs n
    first-standing n m ne h = go h.1.0 (row-at n m ne h.1.0 h.1.1)
      where
        go : (ts : Trees) → RowAt n m ts → HasTree ns doc xs n
        go _ (row_at c ts a b e f) = (h.0, (c, a))

    pub rest-standing : (ys : List Stage) (n m : ℕ) → n ≢ m → HaveTrees ns doc xs n m → length ys ≡ length ns → HaveTrees ns doc ys (end_at ns n) m
    rest-standing ys n m ne h l = go h.1.0 (row-at n m ne h.1.0 h.1.1)
      where
        go : (ts : Trees) → RowAt n m ts → HaveTrees ns doc ys (end_at ns n) m
        go _ (row_at c ts a b e f) = (l, (ts, b))

    pub first-end : (n m : ℕ) → n ≢ m → HaveTrees ns doc xs n m → end_at ns n ≤ m
    first-end n m ne h = go h.1.0 (row-at n m ne h.1.0 h.1.1)
      where
        go : (ts : Trees) → RowAt n m ts → end_at ns n ≤ m
        go _ (row_at c ts a b e f) = f

    pub choice-standing : (i n m : ℕ) → HaveChoices ns doc xs i n m → HasTree ns doc xs n
    choice-standing i n m h = go h.1.0 (branch-at i n m h.1.0 h.1.1)
      where
        go : (ch : Choices) → BranchAt n m ch → HasTree ns doc xs n
        go _ (only_at c a e) = (h.0, (c, a))
        go _ (more_at p c ch a e) = (h.0, (c, a))

    pub choice-end : (i n m : ℕ) → HaveChoices ns doc xs i n m → end_at ns n ≤ m
    choice-end i n m h = go h.1.0 (branch-at i n m h.1.0 h.1.1)
      where
        go : (ch : Choices) → BranchAt n m ch → end_at ns n ≤ m
        go _ (only_at c a e) = omega arith
        go _ (more_at p c ch a e) = omega arith

    pub choices-standing : (ys : List Stage) (i n m : ℕ) → end_at ns n ≢ m → HaveChoices ns doc xs i n m → length ys ≡ length ns → HaveChoices ns doc ys (i + 1) (end_at ns n) m
    choices-standing ys i n m ne h l = go h.1.0 (choice-at i n m ne h.1.0 h.1.1)
      where
        go : (ch : Choices) → ChoiceAt i n m ch → HaveChoices ns doc ys (i + 1) (end_at ns n) m
        go _ (choice_at p c ch q a b e f) = (l, (ch, b))

    -- the number of a condition is below their count
    pub choices-below : (i n m : ℕ) → end_at ns n ≢ m → HaveChoices ns doc xs i n m → i < length doc.outline.conditions.items
    choices-below i n m ne h = go h.1.0 (choice-at i n m ne h.1.0 h.1.1)
      where
        go : (ch : Choices) → ChoiceAt i n m ch → i < length doc.outline.conditions.items
        go _ (choice_at p c ch q a b e f) = below-get doc.outline.conditions.items i p q

-- the subtree of a node that stands in a tree ends within the tree
module _ (ns : List Entry) (doc : Recipe) (k : ℕ) where
  own-end : (n : ℕ) (c : Tree) → Stands ns doc n c → n ≡ k → end_at ns k ≤ n + node_count c
  own-end n c h e = omega (arith, (stood ns doc n c h).end, ap (end_at ns) e)

  mutual
    pub nested : (c : Tree) (n : ℕ) → Stands ns doc n c → n ≤ k → k < n + node_count c → end_at ns k ≤ n + node_count c
    nested (act s w) n h le lt = elim (eqb_tells n k) [
      | inl q ↦ own-end n (act s w) h q.1
      | inr q ↦ let d = q.1 in nested-act s w n h (omega arith) lt
    ]
    nested skip n h le lt = own-end n skip h (omega arith)
    nested (seq ts) n h le lt = elim (eqb_tells n k) [
      | inl q ↦ own-end n (seq ts) h q.1
      | inr q ↦ let d = q.1 in nested-each ts (n + 1) (n + (1 + count_of_each ts)) h.1 (omega arith) (omega arith)
    ]
    nested (par ts) n h le lt = elim (eqb_tells n k) [
      | inl q ↦ own-end n (par ts) h q.1
      | inr q ↦ let d = q.1 in nested-each ts (n + 1) (n + (1 + count_of_each ts)) h.1 (omega arith) (omega arith)
    ]
    nested (sel ch) n h le lt = elim (eqb_tells n k) [
      | inl q ↦ own-end n (sel ch) h q.1
      | inr q ↦ let d = q.1 in nested-choices ch h.0 (n + 1) (n + (1 + count_of_choices ch)) h.2 (omega arith) (omega arith)
    ]
    nested (loop i p body) n h le lt = elim (eqb_tells n k) [
      | inl q ↦ own-end n (loop i p body) h q.1
      | inr q ↦ let d = q.1 in let inner : end_at ns k ≤ n + 1 + node_count body = nested body (n + 1) h.3 (omega arith) (omega arith) in omega arith
    ]

    nested-act : (s : Step) (w : Task) (n : ℕ) → StandsAct ns doc n s w → n < k → k < n + (1 + count_within w) → end_at ns k ≤ n + (1 + count_within w)
    nested-act s (runs p) n h le lt = absurd (omega arith)
    nested-act s (follows name c) n h le lt = let inner : end_at ns k ≤ n + 1 + node_count c = nested c (n + 1) h.1 (omega arith) (omega arith) in omega arith

    pub nested-each : (ts : Trees) (n m : ℕ) → AreStanding ns doc n m ts → n ≤ k → k < m → end_at ns k ≤ m
    nested-each no_trees n m h le lt = absurd (omega (arith, h))
    nested-each (tree c ts) n m h le lt = elim (cases_lt k (n + node_count c)) [
      | inl q ↦ let inner : end_at ns k ≤ n + node_count c = nested c n h.0 le q in omega (arith, stood-each ns doc (n + node_count c) m ts h.1)
      | inr q ↦ nested-each ts (n + node_count c) m h.1 q lt
    ]

    pub nested-choices : (ch : Choices) (i n m : ℕ) → AreChoices ns doc i n m ch → n ≤ k → k < m → end_at ns k ≤ m
    nested-choices (otherwise c) i n m h le lt = let inner : end_at ns k ≤ n + node_count c = nested c n h.0 le (omega (arith, h.1)) in omega (arith, h.1)
    nested-choices (choice p c ch) i n m h le lt = elim (cases_lt k (n + node_count c)) [
      | inl q ↦ let inner : end_at ns k ≤ n + node_count c = nested c n h.1 le q in omega (arith, stood-choices ns doc (i + 1) (n + node_count c) m ch h.2)
      | inr q ↦ nested-choices ch (i + 1) (n + node_count c) m h.2 q lt
    ]
