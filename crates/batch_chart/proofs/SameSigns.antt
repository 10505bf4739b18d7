-- Two trees at the same nodes show the same signs.
use Rattle.std.proofs.Common.{◌≡◌, ◌≢◌, ℕ, suc, ◌+◌, List, [], ◌∷◌, ◌++◌, length, Bool, true, false, Some, None, arith, refl, sym, ◌∙◌, ap, ap₂, subst, nat_eq}
use Rattle.std.specs.Prelude.{Option, map}
use Rattle.batch_recipe.{specs.Conditions.Name, specs.Nodes.node_count, specs.Tree.Step, specs.Tree.Phase, specs.Tree.Task, specs.Tree.runs, specs.Tree.follows, specs.Tree.Tree, specs.Tree.act, specs.Tree.skip, specs.Tree.seq, specs.Tree.par, specs.Tree.sel, specs.Tree.loop, specs.Tree.Trees, specs.Tree.no_trees, specs.Tree.tree, specs.Tree.Choices, specs.Tree.otherwise, specs.Tree.choice, specs.declared.condition.Condition.Condition, specs.declared.entry.Entry.Entry, specs.declared.recipe.Recipe.Recipe, proofs.NodeSubtrees.some_count}
use Rattle.batch_model.specs.{Rest.Rest, Rest.done, Rest.acts, Moves.is_empty}
use Rattle.batch_chart.{specs.declared.stage.Stage.Stage, specs.declared.stage.Stage.TheVariants.Ready, specs.declared.stage.Stage.TheVariants.Asking, specs.declared.stage.Stage.TheVariants.Open, specs.declared.stage.Stage.TheVariants.Live, specs.declared.stage.Stage.TheVariants.Freeing, specs.Stages.stage_at, specs.Stages.is_finished, specs.Stages.is_begun, specs.Stages.turns_of, specs.Meaning.meaning, specs.Meaning.act_as, specs.Outlined.end_at, specs.Outlined.Stands, specs.Outlined.StandsAct, specs.Outlined.AreStanding, specs.Outlined.AreChoices, specs.Numbered.entries, specs.Numbered.entries_in, specs.Numbered.numbered, specs.Numbered.numbered_each, specs.Numbered.numbered_branch, specs.Numbered.numbered_chosen, specs.Noting.signs_of, specs.Noting.ready_signs, specs.Noting.asking_signs, specs.Noting.freeing_signs, specs.Noting.live_signs, specs.Noting.open_signs, specs.Noting.sign_in, proofs.TreePositions.SkipAt, proofs.TreePositions.skip_at, proofs.TreePositions.skip-at, proofs.TreePositions.PhaseAt, proofs.TreePositions.phase_at, proofs.TreePositions.phase-at, proofs.TreePositions.ActAt, proofs.TreePositions.act_at, proofs.TreePositions.act-at, proofs.TreePositions.SeqAt, proofs.TreePositions.seq_at, proofs.TreePositions.seq-at, proofs.TreePositions.ParAt, proofs.TreePositions.par_at, proofs.TreePositions.par-at, proofs.TreePositions.SelAt, proofs.TreePositions.sel_at, proofs.TreePositions.sel-at, proofs.TreePositions.LoopAt, proofs.TreePositions.loop_at, proofs.TreePositions.loop-at, proofs.TreePositions.RowAt, proofs.TreePositions.row_at, proofs.TreePositions.row-at, proofs.TreePositions.row-end, proofs.TreePositions.LastAt, proofs.TreePositions.last_at, proofs.TreePositions.last-at, proofs.TreePositions.ChoiceAt, proofs.TreePositions.choice_at, proofs.TreePositions.choice-at, proofs.TreePositions.stood, proofs.TreePositions.stood-each, proofs.TreePositions.stood-choices, proofs.TreePositions.choices-pos, proofs.NumberedActs.numbered-acts}

-- the signs of each act, with its number
abbrev pub marks : List (ℕ × Rest) → List (ℕ × ℕ)
marks [] = []
marks (a ∷ more) = (a.0, signs_of a.1) ∷ marks more

pub marks-append : (l r : List (ℕ × Rest)) → marks (l ++ r) ≡ marks l ++ marks r
marks-append [] r = refl
marks-append (a ∷ l) r = ap (λ z. (a.0, signs_of a.1) ∷ z) (marks-append l r)

abbrev pub marked-as : ℕ → List (ℕ × ℕ) → ℕ → ℕ
marked-as k [] none = none
marked-as k (a ∷ more) none = marked-as k more (elim (nat_eq a.0 k) as (λ _. ℕ) [ true ↦ a.1 | false ↦ none ])

pub sign-marked : (k : ℕ) (l : List (ℕ × Rest)) (none : ℕ) → sign_in k l none ≡ marked-as k (marks l) none
sign-marked k [] none = refl
sign-marked k (a ∷ l) none = sign-marked k l (elim (nat_eq a.0 k) as (λ _. ℕ) [ true ↦ signs_of a.1 | false ↦ none ])

pub same-signs : (k : ℕ) (l m : List (ℕ × Rest)) (none : ℕ) → marks l ≡ marks m → sign_in k l none ≡ sign_in k m none
same-signs k l m none e = sign-marked k l none ∙ ap (λ z. marked-as k z none) e ∙ sym (sign-marked k m none)

empty-marks : (l m : List (ℕ × Rest)) → marks l ≡ marks m → is_empty (map (λ a. a.1) l) ≡ is_empty (map (λ a. a.1) m)
empty-marks [] [] e = refl
empty-marks (a ∷ l) (b ∷ m) e = refl
empty-marks x1 x2 x3 = absurd (grind arith)

alike-phase : (n : ℕ) (s u : Step) (p q : Phase) (x : Stage) → length s.needs ≡ length u.needs → marks (entries n (act_as s (runs p) done x) []) ≡ marks (entries n (act_as u (runs q) done x) [])
alike-phase n s u p q (Ready k) e = ap (λ z. (n, ready_signs z k) ∷ []) e
alike-phase n s u p q (Asking k) e = ap (λ z. (n, asking_signs z k) ∷ []) e
alike-phase n s u p q (Live x) e = ap (λ z. (n, live_signs z x) ∷ []) e
alike-phase n s u p q (Freeing (suc k)) e = ap (λ z. (n, freeing_signs z (suc k)) ∷ []) e
alike-phase n s u p q x e = refl

alike-act : (n : ℕ) (s u : Step) (name other : Name) (c d : Tree) (r t : Rest) (l m : List (ℕ × Rest)) (x : Stage) → length s.needs ≡ length u.needs → marks l ≡ marks m → is_empty (acts r) ≡ is_empty (acts t)
    → marks (entries n (act_as s (follows name c) r x) l) ≡ marks (entries n (act_as u (follows other d) t x) m)
alike-act n s u name other c d r t l m (Ready k) e f g = ap (λ z. (n, ready_signs z k) ∷ []) e
alike-act n s u name other c d r t l m (Asking k) e f g = ap (λ z. (n, asking_signs z k) ∷ []) e
alike-act n s u name other c d r t l m Open e f g =
    ap (λ z. (n, open_signs z (is_empty (acts r))) ∷ marks l) e ∙ ap (λ z. (n, open_signs (length u.needs) z) ∷ marks l) g ∙ ap (λ z. (n, open_signs (length u.needs) (is_empty (acts t))) ∷ z) f
alike-act n s u name other c d r t l m (Freeing (suc k)) e f g = ap (λ z. (n, freeing_signs z (suc k)) ∷ []) e
alike-act n s u name other c d r t l m x e f g = refl

alike-if : (b : Bool) (l m j k : List (ℕ × Rest)) → marks l ≡ marks m → marks j ≡ marks k
    → marks (elim b as (λ _. List (ℕ × Rest)) [ true ↦ l | false ↦ j ]) ≡ marks (elim b as (λ _. List (ℕ × Rest)) [ true ↦ m | false ↦ k ])
alike-if true l m j k e f = e
alike-if false l m j k e f = f

alike-in : (o : Option ℕ) (l m : List (ℕ × Rest)) → marks l ≡ marks m → marks (entries_in o l) ≡ marks (entries_in o m)
alike-in None l m e = refl
alike-in (Some k) l m e = e

module _ (ns : List Entry) (doc : Recipe) (xs : List Stage) where
  -- a tree has the signs of any other at its nodes
  abbrev SameTree : ℕ → Tree → Type 0
  SameTree n c = (d : Tree) → Stands ns doc n d → marks (numbered c n xs) ≡ marks (numbered d n xs)

  abbrev SameEach : ℕ → ℕ → Trees → Type 0
  SameEach n m ts = (us : Trees) → AreStanding ns doc n m us → marks (numbered_each ts n xs) ≡ marks (numbered_each us n xs)

  abbrev SameBranch : ℕ → ℕ → Trees → Type 0
  SameBranch n m ts = (us : Trees) → AreStanding ns doc n m us → marks (numbered_branch ts n xs) ≡ marks (numbered_branch us n xs)

  abbrev SameChoice : ℕ → ℕ → Choices → Type 0
  SameChoice n m ch = (i : ℕ) (dh : Choices) → AreChoices ns doc i n m dh → marks (numbered_chosen ch n xs) ≡ marks (numbered_chosen dh n xs)

  same-phase : (n : ℕ) (s : Step) (p : Phase) → StandsAct ns doc n s (runs p) → SameTree n (act s (runs p))
  same-phase n s p h d k = go d (phase-at ns doc n (length s.needs) h.0 h.1.1 d k)
    where
      go : (d : Tree) → PhaseAt ns doc n (length s.needs) h.0 d → marks (numbered (act s (runs p)) n xs) ≡ marks (numbered d n xs)
      go _ (phase_at u q a b count) = alike-phase n s u p q (stage_at xs n) (sym count)

  same-act : (n : ℕ) (s : Step) (name : Name) (c : Tree) → StandsAct ns doc n s (follows name c) → SameTree (n + 1) c → SameTree n (act s (follows name c))
  same-act n s name c h same d k = go d (act-at ns doc n (length s.needs) h.0.1 d k)
    where
      go : (d : Tree) → ActAt ns doc n (length s.needs) d → marks (numbered (act s (follows name c)) n xs) ≡ marks (numbered d n xs)
      go _ (act_at u other e a b count) =
          let below = same e a in
          alike-act n s u name other c e (meaning c (n + 1) xs) (meaning e (n + 1) xs) (numbered c (n + 1) xs) (numbered e (n + 1) xs) (stage_at xs n) (sym count) below
          (ap is_empty (sym (numbered-acts xs c (n + 1))) ∙ empty-marks (numbered c (n + 1) xs) (numbered e (n + 1) xs) below ∙ ap is_empty (numbered-acts xs e (n + 1)))

  same-skip : (n : ℕ) → Stands ns doc n skip → SameTree n skip
  same-skip n h d k = go d (skip-at ns doc n h.1 d k)
    where
      go : (d : Tree) → SkipAt ns doc n d → marks (numbered skip n xs) ≡ marks (numbered d n xs)
      go _ skip_at = refl

  same-seq : (n : ℕ) (ts : Trees) → Stands ns doc n (seq ts) → SameBranch (n + 1) (end_at ns n) ts → SameTree n (seq ts)
  same-seq n ts h same d k = go d (seq-at ns doc n h.0.1 d k)
    where
      go : (d : Tree) → SeqAt ns doc n d → marks (numbered (seq ts) n xs) ≡ marks (numbered d n xs)
      go _ (seq_at us a) = alike-if (is_begun (stage_at xs n)) (numbered_branch ts (n + 1) xs) (numbered_branch us (n + 1) xs) [] [] (same us a) refl

  same-par : (n : ℕ) (ts : Trees) → Stands ns doc n (par ts) → SameEach (n + 1) (end_at ns n) ts → SameTree n (par ts)
  same-par n ts h same d k = go d (par-at ns doc n h.0.1 d k)
    where
      go : (d : Tree) → ParAt ns doc n d → marks (numbered (par ts) n xs) ≡ marks (numbered d n xs)
      go _ (par_at us a) = alike-if (is_begun (stage_at xs n)) (numbered_each ts (n + 1) xs) (numbered_each us (n + 1) xs) [] [] (same us a) refl

  same-sel : (n : ℕ) (ch : Choices) → Stands ns doc n (sel ch) → SameChoice (n + 1) (end_at ns n) ch → SameTree n (sel ch)
  same-sel n ch h same d k = go d (sel-at ns doc n h.0 h.1.1 d k)
    where
      go : (d : Tree) → SelAt ns doc n h.0 d → marks (numbered (sel ch) n xs) ≡ marks (numbered d n xs)
      go _ (sel_at dh a) = alike-if (is_begun (stage_at xs n)) (numbered_chosen ch (n + 1) xs) (numbered_chosen dh (n + 1) xs) [] [] (same h.0 dh a) refl

  same-loop : (n k : ℕ) (p : Condition) (body : Tree) → Stands ns doc n (loop k p body) → SameTree (n + 1) body → SameTree n (loop k p body)
  same-loop n k p body h same d q = go d (loop-at ns doc n k h.0 h.1.1 d q)
    where
      go : (d : Tree) → LoopAt ns doc n k h.0 d → marks (numbered (loop k p body) n xs) ≡ marks (numbered d n xs)
      go _ (loop_at r other a b e) = alike-in (turns_of (stage_at xs n)) (numbered body (n + 1) xs) (numbered other (n + 1) xs) (same other b)

  each-end : (n m : ℕ) → n ≡ m → SameEach n m no_trees
  each-end n m e us k = rw (row-end ns doc n m e us k) refl

  branch-end : (n m : ℕ) → n ≡ m → SameBranch n m no_trees
  branch-end n m e us k = rw (row-end ns doc n m e us k) refl

  -- the trees of a row
  module _ (n m : ℕ) (c : Tree) (ts : Trees) (h : AreStanding ns doc n m (tree c ts)) (same : SameTree n c) where
    more : n ≢ m
    more e = absurd (omega (arith, e, stood-each ns doc (n + node_count c) m ts h.1, some_count c))

    own : end_at ns n ≡ n + node_count c
    own = (stood ns doc n c h.0).end

    each-row : SameEach (n + node_count c) m ts → SameEach n m (tree c ts)
    each-row later us k = go us (row-at ns doc n m more us k)
      where
        go : (us : Trees) → RowAt ns doc n m us → marks (numbered_each (tree c ts) n xs) ≡ marks (numbered_each us n xs)
        go _ (row_at d us p q e le) =
            marks-append (numbered c n xs) (numbered_each ts (n + node_count c) xs)
            ∙ ap₂ (λ y z. y ++ z) (same d p) (later us (subst (λ i. AreStanding ns doc i m us) own q) ∙ ap (λ i. marks (numbered_each us i xs)) (sym own ∙ e))
            ∙ sym (marks-append (numbered d n xs) (numbered_each us (n + node_count d) xs))

    branch-row : SameBranch (n + node_count c) m ts → SameBranch n m (tree c ts)
    branch-row later us k = go us (row-at ns doc n m more us k)
      where
        go : (us : Trees) → RowAt ns doc n m us → marks (numbered_branch (tree c ts) n xs) ≡ marks (numbered_branch us n xs)
        go _ (row_at d us p q e le) =
            alike-if (is_finished (stage_at xs n)) (numbered_branch ts (n + node_count c) xs) (numbered_branch us (n + node_count d) xs) (numbered c n xs) (numbered d n xs)
            (later us (subst (λ i. AreStanding ns doc i m us) own q) ∙ ap (λ i. marks (numbered_branch us i xs)) (sym own ∙ e)) (same d p)

  choice-last : (n m : ℕ) (c : Tree) → Stands ns doc n c → n + node_count c ≡ m → SameTree n c → SameChoice n m (otherwise c)
  choice-last n m c h e same i dh k = go dh (last-at ns doc i n m ((stood ns doc n c h).end ∙ e) dh k)
    where
      go : (dh : Choices) → LastAt ns doc n m dh → marks (numbered_chosen (otherwise c) n xs) ≡ marks (numbered_chosen dh n xs)
      go _ (last_at d a) = same d a

  choice-more : (n m j : ℕ) (p : Condition) (c : Tree) (ch : Choices) → Stands ns doc n c → AreChoices ns doc j (n + node_count c) m ch → SameTree n c → SameChoice (n + node_count c) m ch → SameChoice n m (choice p c ch)
  choice-more n m j p c ch h a same later i dh k = go dh (choice-at ns doc i n m (λ e. absurd (omega (arith, e, own, stood-choices ns doc j (n + node_count c) m ch a, choices-pos ch))) dh k)
    where
      own : end_at ns n ≡ n + node_count c
      own = (stood ns doc n c h).end

      go : (dh : Choices) → ChoiceAt ns doc i n m dh → marks (numbered_chosen (choice p c ch) n xs) ≡ marks (numbered_chosen dh n xs)
      go _ (choice_at q d dh r b more e lt) =
          alike-if (is_finished (stage_at xs n)) (numbered_chosen ch (n + node_count c) xs) (numbered_chosen dh (n + node_count d) xs) (numbered c n xs) (numbered d n xs)
          (later (i + 1) dh (subst (λ z. AreChoices ns doc (i + 1) z m dh) own more) ∙ ap (λ z. marks (numbered_chosen dh z xs)) (sym own ∙ e)) (same d b)

  mutual
    pub alike : (c : Tree) (n : ℕ) → Stands ns doc n c → SameTree n c
    alike (act s w) n h = alike-step s w n h
    alike skip n h = same-skip n h
    alike (seq ts) n h = same-seq n ts h (alike-branch ts (n + 1) (end_at ns n) (subst (λ m. AreStanding ns doc (n + 1) m ts) (sym h.0.2) h.1))
    alike (par ts) n h = same-par n ts h (alike-each ts (n + 1) (end_at ns n) (subst (λ m. AreStanding ns doc (n + 1) m ts) (sym h.0.2) h.1))
    alike (sel ch) n h = same-sel n ch h (alike-choices ch h.0 (n + 1) (end_at ns n) (subst (λ m. AreChoices ns doc h.0 (n + 1) m ch) (sym h.1.2) h.2))
    alike (loop k p body) n h = same-loop n k p body h (alike body (n + 1) h.3)

    alike-step : (s : Step) (w : Task) (n : ℕ) → StandsAct ns doc n s w → SameTree n (act s w)
    alike-step s (runs p) n h = same-phase n s p h
    alike-step s (follows name c) n h = same-act n s name c h (alike c (n + 1) h.1)

    alike-each : (ts : Trees) (n m : ℕ) → AreStanding ns doc n m ts → SameEach n m ts
    alike-each no_trees n m h = each-end n m h
    alike-each (tree c ts) n m h = each-row n m c ts h (alike c n h.0) (alike-each ts (n + node_count c) m h.1)

    alike-branch : (ts : Trees) (n m : ℕ) → AreStanding ns doc n m ts → SameBranch n m ts
    alike-branch no_trees n m h = branch-end n m h
    alike-branch (tree c ts) n m h = branch-row n m c ts h (alike c n h.0) (alike-branch ts (n + node_count c) m h.1)

    alike-choices : (ch : Choices) (i n m : ℕ) → AreChoices ns doc i n m ch → SameChoice n m ch
    alike-choices (otherwise c) i n m h = choice-last n m c h.0 h.1 (alike c n h.0)
    alike-choices (choice p c ch) i n m h = choice-more n m (i + 1) p c ch h.1 h.2 (alike c n h.1) (alike-choices ch (i + 1) (n + node_count c) m h.2)
