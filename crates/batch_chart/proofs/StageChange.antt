-- The meaning of a change of one act's stage, or of its descendants.
use Rattle.std.proofs.Common.{◌≡◌, ◌≢◌, ◌⊎◌, inl, inr, ◌≤◌, ℕ, zero, suc, ◌+◌, List, Bool, true, false, Some, None, nat_eq, arith, refl, sym, ◌∙◌, subst, ap}
use Rattle.std.{specs.Prelude.slice_get, specs.Prelude.Option, proofs.lemmas.Bool.eq-eqb, proofs.lemmas.Bool.cases_lt, proofs.lemmas.Bool.Decides.eqb_tells}
use Rattle.batch_recipe.specs.{declared.condition.Condition.Condition, Nodes.node_count, Nodes.count_of_each, Nodes.count_of_choices, Places.AreInOrder, Tree.Place, Tree.Step, Tree.Task, Tree.runs, Tree.follows, Tree.Tree, Tree.act, Tree.skip, Tree.seq, Tree.par, Tree.sel, Tree.loop, Tree.Trees, Tree.no_trees, Tree.tree, Tree.Choices, Tree.otherwise, Tree.choice, declared.entry.Entry.Entry, declared.recipe.Recipe.Recipe}
use Rattle.batch_recipe.specs.Nodes as nodes
use Rattle.batch_model.specs.{Rest.same_place, Rest.Rest, Rest.ready, Rest.asking, Rest.open_act, Rest.live, Rest.freeing, Rest.in_seq, Rest.in_par, Rest.done, Rest.rest, Rest.changed_at, Rest.changed_in_each, Rest.is_done, Moves.freed}
use Rattle.batch_chart.{specs.declared.node.Kind.Kind, specs.declared.node.Kind.TheVariants.Seq, specs.declared.node.Kind.TheVariants.Par, specs.declared.node.Kind.TheVariants.Sel, specs.declared.node.Kind.TheVariants.Loop, specs.declared.stage.Stage.Stage, specs.declared.stage.Stage.TheVariants.Ready, specs.declared.stage.Stage.TheVariants.Asking, specs.declared.stage.Stage.TheVariants.Open, specs.declared.stage.Stage.TheVariants.Live, specs.declared.stage.Stage.TheVariants.Freeing, specs.Stages.stage_at, specs.Stages.is_finished, specs.Stages.is_begun, specs.Stages.turns_of, specs.Meaning.meaning, specs.Meaning.meaning_below, specs.Meaning.meaning_each, specs.Meaning.act_as, specs.Meaning.loop_as, specs.Meaning.meaning_of_branch, specs.Meaning.chosen, specs.Meaning.AgreeOutside, specs.Outlined.end_at, specs.Outlined.kind_at, specs.Outlined.is_act_kind, specs.Outlined.Stands, specs.Outlined.StandsAct, specs.Outlined.AreStanding, specs.Outlined.AreChoices, proofs.TreePositions.nested, proofs.KnownTests.chosen-true, proofs.KnownTests.chosen-false, proofs.KnownTests.choice-map, proofs.TreeAdvance.finished-stage, proofs.FinishedStages.finished-means, proofs.NodeNumbers.IsMarked, proofs.NodeNumbers.IsMarkedBelow, proofs.NodeNumbers.AreMarked, proofs.NodeNumbers.AreMarkedChoices}

-- a node of another kind than an act's is another node
other : (ns : List Entry) (n k : ℕ) (v : Kind) → is_act_kind (kind_at ns k) ≡ true → kind_at ns n ≡ v → is_act_kind v ≡ false → n ≢ k
other ns n k v e d f same =
    let g : is_act_kind (kind_at ns k) ≡ false = ap (λ i. is_act_kind (kind_at ns i)) (sym same) ∙ ap is_act_kind d ∙ f in
    absurd cc

-- an act at another place is left as it is, and its descendants are changed

module _ (p : Place) (f : Rest → Rest) where
  changed-freed : (s : Step) (i : ℕ) → same_place s.place p ≡ false → changed_at p f (freed s i) ≡ freed s i
  changed-freed s zero e = refl
  changed-freed s (suc i) e = chosen-false (same_place s.place p) (f (freeing s (suc i))) (freeing s (suc i)) e

  changed-other : (s : Step) (w : Task) (r : Rest) (x : Stage) → same_place s.place p ≡ false → changed_at p f (act_as s w r x) ≡ act_as s w (changed_at p f r) x
  changed-other s w r (Ready i) e = chosen-false (same_place s.place p) (f (ready s w i)) (ready s w i) e
  changed-other s w r (Asking i) e = chosen-false (same_place s.place p) (f (asking s w i)) (asking s w i) e
  changed-other s (follows name c) r Open e = chosen-false (same_place s.place p) (f (open_act s r)) (open_act s (changed_at p f r)) e
  changed-other s (runs y) r (Live x) e = chosen-false (same_place s.place p) (f (live s y x)) (live s y x) e
  changed-other s w r (Freeing i) e = changed-freed s i e
  changed-other s x r y e = refl

  changed-own : (s : Step) (w : Task) (r : Rest) (x : Stage) → same_place s.place p ≡ true → is_done (act_as s w r x) ≡ false → changed_at p f (act_as s w r x) ≡ f (act_as s w r x)
  changed-own s w r (Ready i) e o = chosen-true (same_place s.place p) (f (ready s w i)) (ready s w i) e
  changed-own s w r (Asking i) e o = chosen-true (same_place s.place p) (f (asking s w i)) (asking s w i) e
  changed-own s (follows name c) r Open e o = chosen-true (same_place s.place p) (f (open_act s r)) (open_act s (changed_at p f r)) e
  changed-own s (runs y) r (Live x) e o = chosen-true (same_place s.place p) (f (live s y x)) (live s y x) e
  changed-own s w r (Freeing (suc i)) e o = chosen-true (same_place s.place p) (f (freeing s (suc i))) (freeing s (suc i)) e
  changed-own x1 x2 x3 x4 x5 x6 = absurd (grind arith)

  changed-loop : (o : Option ℕ) (q : Condition) (body : Tree) (r : Rest) → changed_at p f (loop_as o q body r) ≡ loop_as o q body (changed_at p f r)
  changed-loop None q body r = refl
  changed-loop (Some i) q body r = refl

module _ (ls : List nodes.Node) (rises : AreInOrder ls) (k : ℕ) (at : nodes.Node) (is_at : slice_get ls k ≡ Some at)
    (ns : List Entry) (doc : Recipe) (xs ys : List Stage) (f : Rest → Rest) (is_act : is_act_kind (kind_at ns k) ≡ true) (outside : AgreeOutside k (end_at ns k) xs ys)
    (was : (c : Tree) → Stands ns doc k c → is_done (meaning c k xs) ≡ false) (now : is_finished (stage_at ys k) ≡ false) (change : (c : Tree) → Stands ns doc k c → f (meaning c k xs) ≡ meaning c k ys) where
  abbrev Marked : ℕ → Tree → Type 0
  Marked n c = IsMarked ls rises k at is_at n c

  abbrev pub Apart : ℕ → Type 0
  Apart n = (n ≤ k) ⊎ (end_at ns k ≤ n)

  apart-next : (n : ℕ) → n ≢ k → Apart n → Apart (n + 1)
  apart-next n ne (inl le) = inl (omega arith)
  apart-next n ne (inr le) = inr (omega arith)

  apart-after : (n : ℕ) (c : Tree) → Stands ns doc n c → Apart n → Apart (n + node_count c)
  apart-after n c h (inr le) = inr (omega arith)
  apart-after n c h (inl le) = elim (cases_lt k (n + node_count c)) [ inl q ↦ inr (nested ns doc k c n h le q) | inr q ↦ inl q ]

  same : (n : ℕ) → n ≢ k → Apart n → stage_at ys n ≡ stage_at xs n
  same n ne (inl le) = outside n (inl (omega arith))
  same n ne (inr le) = outside n (inr le)

  unfinished : (c : Tree) → Stands ns doc k c → is_finished (stage_at xs k) ≡ false
  unfinished c h = go (is_finished (stage_at xs k)) refl
    where
      go : (b : Bool) → is_finished (stage_at xs k) ≡ b → b ≡ false
      go true e = let d : is_done (meaning c k xs) ≡ true = ap is_done (finished-means c k xs (finished-stage (stage_at xs k) e)) in sym d ∙ was c h
      go false e = refl

  status : (n : ℕ) (c : Tree) → Stands ns doc n c → Apart n → is_finished (stage_at ys n) ≡ is_finished (stage_at xs n)
  status n c h a = elim (eqb_tells n k) [
    | inl q ↦ subst (λ i. is_finished (stage_at ys i) ≡ is_finished (stage_at xs i)) (sym q.1) (now ∙ sym (unfinished c (subst (λ i. Stands ns doc i c) q.1 h)))
    | inr q ↦ ap is_finished (same n q.1 a)
  ]

  own : (s : Step) (w : Task) (n : ℕ) → StandsAct ns doc n s w → same_place s.place at.place ≡ nat_eq n k → n ≡ k → meaning (act s w) n ys ≡ changed_at at.place f (meaning (act s w) n xs)
  own s w n h m e =
      let here : Stands ns doc k (act s w) = subst (λ i. Stands ns doc i (act s w)) e h in
      let test : same_place s.place at.place ≡ true = m ∙ eq-eqb n k e in
      subst (λ i. meaning (act s w) i ys ≡ changed_at at.place f (meaning (act s w) i xs)) (sym e)
      (sym (change (act s w) here) ∙ sym (changed-own at.place f s w (meaning_below w (k + 1) xs) (stage_at xs k) test (was (act s w) here)))

  mutual
    pub meaning-changed : (c : Tree) (n : ℕ) → Stands ns doc n c → Marked n c → Apart n → meaning c n ys ≡ changed_at at.place f (meaning c n xs)
    meaning-changed (act s w) n h m a = elim (eqb_tells n k) [
      | inl q ↦ own s w n h m.0 q.1
      | inr q ↦
          ap (λ r. act_as s w r (stage_at ys n)) (meaning_below-changed s w n h m.1 (apart-next n q.1 a))
          ∙ ap (λ x. act_as s w (changed_at at.place f (meaning_below w (n + 1) xs)) x) (same n q.1 a)
          ∙ sym (changed-other at.place f s w (meaning_below w (n + 1) xs) (stage_at xs n) (m.0 ∙ q.0))
    ]
    meaning-changed skip n h m a = refl
    meaning-changed (seq ts) n h m a =
        let ne = other ns n k Seq is_act h.0.1 refl in
        ap (λ r. elim (is_begun (stage_at ys n)) as (λ _. Rest) [ true ↦ r | false ↦ done ]) (branch-changed ts (n + 1) (n + (1 + count_of_each ts)) h.1 m (apart-next n ne a))
        ∙ ap (λ x. elim (is_begun x) as (λ _. Rest) [ true ↦ changed_at at.place f (meaning_of_branch ts (n + 1) xs) | false ↦ done ]) (same n ne a)
        ∙ sym (choice-map (changed_at at.place f) (is_begun (stage_at xs n)) (meaning_of_branch ts (n + 1) xs) done)
    meaning-changed (par ts) n h m a =
        let ne = other ns n k Par is_act h.0.1 refl in
        ap (λ r. elim (is_begun (stage_at ys n)) as (λ _. Rest) [ true ↦ in_par r | false ↦ done ]) (meaning_each-changed ts (n + 1) (n + (1 + count_of_each ts)) h.1 m (apart-next n ne a))
        ∙ ap (λ x. elim (is_begun x) as (λ _. Rest) [ true ↦ in_par (changed_in_each at.place f (meaning_each ts (n + 1) xs)) | false ↦ done ]) (same n ne a)
        ∙ sym (choice-map (changed_at at.place f) (is_begun (stage_at xs n)) (in_par (meaning_each ts (n + 1) xs)) done)
    meaning-changed (sel ch) n h m a =
        let ne = other ns n k (Sel h.0) is_act h.1.1 refl in
        ap (λ r. elim (is_begun (stage_at ys n)) as (λ _. Rest) [ true ↦ r | false ↦ done ]) (chosen-changed ch h.0 (n + 1) (n + (1 + count_of_choices ch)) h.2 m (apart-next n ne a))
        ∙ ap (λ x. elim (is_begun x) as (λ _. Rest) [ true ↦ changed_at at.place f (chosen ch (n + 1) xs) | false ↦ done ]) (same n ne a)
        ∙ sym (choice-map (changed_at at.place f) (is_begun (stage_at xs n)) (chosen ch (n + 1) xs) done)
    meaning-changed (loop i p body) n h m a =
        let ne = other ns n k (Loop i h.0) is_act h.1.1 refl in
        ap (λ r. loop_as (turns_of (stage_at ys n)) p body r) (meaning-changed body (n + 1) h.3 m (apart-next n ne a))
        ∙ ap (λ x. loop_as (turns_of x) p body (changed_at at.place f (meaning body (n + 1) xs))) (same n ne a)
        ∙ sym (changed-loop at.place f (turns_of (stage_at xs n)) p body (meaning body (n + 1) xs))

    meaning_below-changed : (s : Step) (w : Task) (n : ℕ) → StandsAct ns doc n s w → IsMarkedBelow ls rises k at is_at (n + 1) w → Apart (n + 1) → meaning_below w (n + 1) ys ≡ changed_at at.place f (meaning_below w (n + 1) xs)
    meaning_below-changed s (runs p) n h m a = refl
    meaning_below-changed s (follows name c) n h m a = meaning-changed c (n + 1) h.1 m a

    meaning_each-changed : (ts : Trees) (n j : ℕ) → AreStanding ns doc n j ts → AreMarked ls rises k at is_at n ts → Apart n → meaning_each ts n ys ≡ changed_in_each at.place f (meaning_each ts n xs)
    meaning_each-changed no_trees n j h m a = refl
    meaning_each-changed (tree c ts) n j h m a =
        ap (λ r. rest r (meaning_each ts (n + node_count c) ys)) (meaning-changed c n h.0 m.0 a)
        ∙ ap (λ r. rest (changed_at at.place f (meaning c n xs)) r) (meaning_each-changed ts (n + node_count c) j h.1 m.1 (apart-after n c h.0 a))

    branch-changed : (ts : Trees) (n j : ℕ) → AreStanding ns doc n j ts → AreMarked ls rises k at is_at n ts → Apart n → meaning_of_branch ts n ys ≡ changed_at at.place f (meaning_of_branch ts n xs)
    branch-changed no_trees n j h m a = refl
    branch-changed (tree c ts) n j h m a =
        ap (λ r. elim (is_finished (stage_at ys n)) as (λ _. Rest) [ true ↦ meaning_of_branch ts (n + node_count c) ys | false ↦ in_seq r ts ]) (meaning-changed c n h.0 m.0 a)
        ∙ ap (λ r. elim (is_finished (stage_at ys n)) as (λ _. Rest) [ true ↦ r | false ↦ in_seq (changed_at at.place f (meaning c n xs)) ts ]) (branch-changed ts (n + node_count c) j h.1 m.1 (apart-after n c h.0 a))
        ∙ ap (λ t. elim t as (λ _. Rest) [ true ↦ changed_at at.place f (meaning_of_branch ts (n + node_count c) xs) | false ↦ in_seq (changed_at at.place f (meaning c n xs)) ts ]) (status n c h.0 a)
        ∙ sym (choice-map (changed_at at.place f) (is_finished (stage_at xs n)) (meaning_of_branch ts (n + node_count c) xs) (in_seq (meaning c n xs) ts))

    chosen-changed : (ch : Choices) (i n j : ℕ) → AreChoices ns doc i n j ch → AreMarkedChoices ls rises k at is_at n ch → Apart n → chosen ch n ys ≡ changed_at at.place f (chosen ch n xs)
    chosen-changed (otherwise c) i n j h m a = meaning-changed c n h.0 m a
    chosen-changed (choice p c ch) i n j h m a =
        ap (λ r. elim (is_finished (stage_at ys n)) as (λ _. Rest) [ true ↦ chosen ch (n + node_count c) ys | false ↦ r ]) (meaning-changed c n h.1 m.0 a)
        ∙ ap (λ r. elim (is_finished (stage_at ys n)) as (λ _. Rest) [ true ↦ r | false ↦ changed_at at.place f (meaning c n xs) ]) (chosen-changed ch (i + 1) (n + node_count c) j h.2 m.1 (apart-after n c h.1 a))
        ∙ ap (λ t. elim t as (λ _. Rest) [ true ↦ changed_at at.place f (chosen ch (n + node_count c) xs) | false ↦ changed_at at.place f (meaning c n xs) ]) (status n c h.1 a)
        ∙ sym (choice-map (changed_at at.place f) (is_finished (stage_at xs n)) (chosen ch (n + node_count c) xs) (meaning c n xs))
