-- Where the tree at p alone has gone on, and is as finished as before, all trees above it have gone on as well.
use Rattle.std.proofs.Common.{◌≡◌, inl, inr, ℕ, zero, suc, ◌+◌, List, Bool, true, false, Some, None, refl, sym, ◌∙◌, subst, ap, ap₂}
use Rattle.std.{specs.Prelude.Option, proofs.lemmas.Bool.Decides.eqb_tells}
use Rattle.batch_recipe.specs.{Conditions.Name, Conditions.ValueList, declared.condition.Condition.Condition, Nodes.node_count, Nodes.count_of_each, Nodes.count_of_choices, Tree.Step, Tree.runs, Tree.follows, Tree.Tree, Tree.act, Tree.skip, Tree.seq, Tree.par, Tree.sel, Tree.loop, Tree.Trees, Tree.no_trees, Tree.tree, Tree.Choices, Tree.otherwise, Tree.choice, declared.entry.Entry.Entry, declared.recipe.Recipe.Recipe}
use Rattle.batch_model.specs.{Rest.Rest, Rest.open_act, Rest.in_seq, Rest.in_par, Rest.done, Rest.Rests, Rest.rest, Rest.is_done, Rest.all_done, Rest.joined, Moves.freed, Settled.IsAdvanced, Settled.AreAdvanced}
use Rattle.batch_chart.{specs.declared.stage.Stage.Stage, specs.declared.stage.Stage.TheVariants.Open, specs.declared.stage.Stage.TheVariants.Freeing, specs.Stages.stage_at, specs.Stages.is_finished, specs.Stages.is_begun, specs.Stages.turns_of, specs.Meaning.meaning, specs.Meaning.meaning_each, specs.Meaning.act_as, specs.Meaning.loop_as, specs.Meaning.meaning_of_branch, specs.Meaning.chosen, specs.Meaning.AgreeOutside, specs.Outlined.end_at, specs.Outlined.Stands, specs.Outlined.AreStanding, specs.Outlined.AreChoices, proofs.TreeAdvance.advance-phase, proofs.TreeLikeness.Apart, proofs.TreeLikeness.next-apart, proofs.TreeLikeness.after-apart, proofs.TreeLikeness.same-stage, proofs.TreeLikeness.same-status, proofs.CalmChanges.turned-still, proofs.KnownTests.chosen-false, specs.ByValues.bare, specs.ByValues.continued_by, specs.ByValues.turned_by, specs.ByValues.reach_first_by, specs.ByValues.advance_by, specs.ByValues.advance_each_by}

-- q goes on to r, if nothing of r is left to be reached
abbrev Went : ValueList → Rest → Rest → Type 0
Went vs r q = IsAdvanced r → r ≡ advance_by vs q

module _ (vs : ValueList) where
  went-if : (b e : Bool) (r q s t : Rest) → e ≡ b → Went vs r s → Went vs q t → Went vs (elim e as (λ _. Rest) [ true ↦ r | false ↦ q ]) (elim b as (λ _. Rest) [ true ↦ s | false ↦ t ])
  went-if true true r q s t e f g = f
  went-if false false r q s t e f g = g
  went-if x y r q s t e f g = absurd (cc)

  went-seq : (r q : Rest) (ts : Trees) → Went vs r q → Went vs (in_seq r ts) (in_seq q ts)
  went-seq r q ts f h = sym (chosen-false (is_done r) (reach_first_by vs ts) (in_seq r ts) h.0) ∙ ap (λ z. continued_by vs z ts) (f h.1)

  went-par : (rs qs : Rests) → (AreAdvanced rs → rs ≡ advance_each_by vs qs) → Went vs (in_par rs) (in_par qs)
  went-par rs qs f h = sym (chosen-false (all_done rs) done (in_par rs) h.0) ∙ ap joined (f h.1)

  went-loop : (o e : Option ℕ) (p : Condition) (body : Tree) (r q : Rest) → e ≡ o → Went vs r q → Went vs (loop_as e p body r) (loop_as o p body q)
  went-loop o e p body r q s f = subst (λ z. Went vs (loop_as z p body r) (loop_as o p body q)) (sym s) (go o)
    where
      go : (o : Option ℕ) → Went vs (loop_as o p body r) (loop_as o p body q)
      go None h = refl
      go (Some k) h = sym (turned-still (bare vs) k p body r h.0) ∙ ap (turned_by vs k p body) (f h.1)

  went-freed : (s : Step) (k : ℕ) → freed s k ≡ advance_by vs (freed s k)
  went-freed s zero = refl
  went-freed s (suc k) = refl

  went-act : (s : Step) (m : Name) (c : Tree) (r q : Rest) (x y : Stage) → y ≡ x → Went vs r q → Went vs (act_as s (follows m c) r y) (act_as s (follows m c) q x)
  went-act s m c r q x y e f = subst (λ z. Went vs (act_as s (follows m c) r z) (act_as s (follows m c) q x)) (sym e) (go x)
    where
      go : (x : Stage) → Went vs (act_as s (follows m c) r x) (act_as s (follows m c) q x)
      go Open h = ap (open_act s) (f h)
      go (Freeing k) h = went-freed s k
      go x h = refl

module _ (ns : List Entry) (doc : Recipe) (vs : ValueList) (p : ℕ) (xs ys : List Stage) (outside : AgreeOutside p (end_at ns p) xs ys) (kept : is_finished (stage_at ys p) ≡ is_finished (stage_at xs p))
    (here : (c : Tree) → Stands ns doc p c → meaning c p ys ≡ advance_by vs (meaning c p xs)) where
  at-node : (n : ℕ) (c : Tree) → n ≡ p → Stands ns doc n c → meaning c n ys ≡ advance_by vs (meaning c n xs)
  at-node n c e h = subst (λ i. meaning c i ys ≡ advance_by vs (meaning c i xs)) (sym e) (here c (subst (λ i. Stands ns doc i c) e h))

  mutual
    pub lifted : (c : Tree) (n : ℕ) → Stands ns doc n c → Apart ns doc p n → Went vs (meaning c n ys) (meaning c n xs)
    lifted (act s (runs q)) n h a = elim (eqb_tells n p) [
      | inl e ↦ λ w. at-node n (act s (runs q)) e.1 h
      | inr e ↦ λ w. ap (act_as s (runs q) done) (same-stage ns doc p xs ys outside kept n e.1 a) ∙ sym (advance-phase vs s q done (stage_at xs n))
    ]
    lifted (act s (follows m c)) n h a = elim (eqb_tells n p) [
      | inl e ↦ λ w. at-node n (act s (follows m c)) e.1 h
      | inr e ↦
          went-act vs s m c (meaning c (n + 1) ys) (meaning c (n + 1) xs) (stage_at xs n) (stage_at ys n) (same-stage ns doc p xs ys outside kept n e.1 a)
          (lifted c (n + 1) h.1 (next-apart ns doc p n e.1 a))
    ]
    lifted skip n h a = λ w. refl
    lifted (seq ts) n h a = elim (eqb_tells n p) [
      | inl e ↦ λ w. at-node n (seq ts) e.1 h
      | inr e ↦
          went-if vs (is_begun (stage_at xs n)) (is_begun (stage_at ys n)) (meaning_of_branch ts (n + 1) ys) done (meaning_of_branch ts (n + 1) xs) done (ap is_begun (same-stage ns doc p xs ys outside kept n e.1 a))
          (lifted-branch ts (n + 1) (n + (1 + count_of_each ts)) h.1 (next-apart ns doc p n e.1 a)) (λ w. refl)
    ]
    lifted (par ts) n h a = elim (eqb_tells n p) [
      | inl e ↦ λ w. at-node n (par ts) e.1 h
      | inr e ↦
          went-if vs (is_begun (stage_at xs n)) (is_begun (stage_at ys n)) (in_par (meaning_each ts (n + 1) ys)) done (in_par (meaning_each ts (n + 1) xs)) done (ap is_begun (same-stage ns doc p xs ys outside kept n e.1 a))
          (went-par vs (meaning_each ts (n + 1) ys) (meaning_each ts (n + 1) xs) (lifted-each ts (n + 1) (n + (1 + count_of_each ts)) h.1 (next-apart ns doc p n e.1 a))) (λ w. refl)
    ]
    lifted (sel ch) n h a = elim (eqb_tells n p) [
      | inl e ↦ λ w. at-node n (sel ch) e.1 h
      | inr e ↦
          went-if vs (is_begun (stage_at xs n)) (is_begun (stage_at ys n)) (chosen ch (n + 1) ys) done (chosen ch (n + 1) xs) done (ap is_begun (same-stage ns doc p xs ys outside kept n e.1 a))
          (lifted-chosen ch h.0 (n + 1) (n + (1 + count_of_choices ch)) h.2 (next-apart ns doc p n e.1 a)) (λ w. refl)
    ]
    lifted (loop j q body) n h a = elim (eqb_tells n p) [
      | inl e ↦ λ w. at-node n (loop j q body) e.1 h
      | inr e ↦
          went-loop vs (turns_of (stage_at xs n)) (turns_of (stage_at ys n)) q body (meaning body (n + 1) ys) (meaning body (n + 1) xs) (ap turns_of (same-stage ns doc p xs ys outside kept n e.1 a))
          (lifted body (n + 1) h.3 (next-apart ns doc p n e.1 a))
    ]

    lifted-each : (ts : Trees) (n m : ℕ) → AreStanding ns doc n m ts → Apart ns doc p n → AreAdvanced (meaning_each ts n ys) → meaning_each ts n ys ≡ advance_each_by vs (meaning_each ts n xs)
    lifted-each no_trees n m h a w = refl
    lifted-each (tree c ts) n m h a w = ap₂ rest (lifted c n h.0 a w.0) (lifted-each ts (n + node_count c) m h.1 (after-apart ns doc p n c h.0 a) w.1)

    lifted-branch : (ts : Trees) (n m : ℕ) → AreStanding ns doc n m ts → Apart ns doc p n → Went vs (meaning_of_branch ts n ys) (meaning_of_branch ts n xs)
    lifted-branch no_trees n m h a = λ w. refl
    lifted-branch (tree c ts) n m h a =
        went-if vs (is_finished (stage_at xs n)) (is_finished (stage_at ys n)) (meaning_of_branch ts (n + node_count c) ys) (in_seq (meaning c n ys) ts) (meaning_of_branch ts (n + node_count c) xs) (in_seq (meaning c n xs) ts)
        (same-status ns doc p xs ys outside kept n a)
        (lifted-branch ts (n + node_count c) m h.1 (after-apart ns doc p n c h.0 a)) (went-seq vs (meaning c n ys) (meaning c n xs) ts (lifted c n h.0 a))

    lifted-chosen : (ch : Choices) (i n m : ℕ) → AreChoices ns doc i n m ch → Apart ns doc p n → Went vs (chosen ch n ys) (chosen ch n xs)
    lifted-chosen (otherwise c) i n m h a = lifted c n h.0 a
    lifted-chosen (choice q c ch) i n m h a =
        went-if vs (is_finished (stage_at xs n)) (is_finished (stage_at ys n)) (chosen ch (n + node_count c) ys) (meaning c n ys) (chosen ch (n + node_count c) xs) (meaning c n xs)
        (same-status ns doc p xs ys outside kept n a)
        (lifted-chosen ch (i + 1) (n + node_count c) m h.2 (after-apart ns doc p n c h.1 a)) (lifted c n h.1 a)
