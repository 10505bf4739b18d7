-- Reaching a tree: the conditions at each kind of node.
use Rattle.std.proofs.Common.{◌≡◌, ◌≢◌, ◌⊎◌, inl, inr, ◌<◌, ◌≤◌, ℕ, ◌+◌, ◌-◌, List, length, Bool, true, false, ◌&&◌, arith, refl, sym, ◌∙◌, subst, ap, pred, sub-one}
use Rattle.std.{proofs.Math.Bool.and_assoc, proofs.Math.Bool.and-true, specs.Prelude.slice_set}
use Rattle.batch_recipe.specs.{Conditions.ValueList, Conditions.holds, Nodes.node_count, Nodes.count_of_each, Nodes.count_of_choices, Tree.Step, Tree.Task, Tree.runs, Tree.follows, Tree.Tree, Tree.act, Tree.Trees, Tree.tree, Tree.Choices, Tree.choice, declared.condition.Condition.Condition, declared.entry.Entry.Entry, declared.recipe.Recipe.Recipe}
use Rattle.batch_model.specs.Rest.{Rest, in_seq, in_par, in_loop, done, Rests, rest, is_done, all_done, joined, turning}
use Rattle.batch_chart.{specs.declared.node.Kind.TheVariants.Skip, specs.declared.node.Kind.TheVariants.Act, specs.declared.node.Kind.TheVariants.Seq, specs.declared.node.Kind.TheVariants.Par, specs.declared.node.Kind.TheVariants.Sel, specs.declared.node.Kind.TheVariants.Loop, specs.declared.stage.Stage.Stage, specs.declared.stage.Stage.TheVariants.Finished, specs.declared.stage.Stage.TheVariants.Ready, specs.declared.stage.Stage.TheVariants.Turning, specs.Stages.stage_at, specs.Stages.is_finished, specs.Stages.is_begun, specs.Stages.turns_of, specs.Stages.closed_as, specs.Stages.looped_as, specs.Meaning.meaning, specs.Meaning.meaning_below, specs.Meaning.meaning_each, specs.Meaning.act_as, specs.Meaning.loop_as, specs.Meaning.meaning_of_branch, specs.Meaning.chosen, specs.Meaning.AgreeWithin, specs.Meaning.AgreeOutside, specs.Outlined.end_at, specs.Outlined.kind_at, specs.Outlined.Stands, specs.Outlined.HasTree, specs.Outlined.HaveTrees, specs.Outlined.HaveChoices, specs.Outlined.condition_holds, specs.Outlined.condition_at, specs.Reaching.IsReached, specs.Reaching.IsFirstReached, specs.Reaching.IsEachReached, specs.Reaching.IsChoiceReached, proofs.TreePositions.stood, proofs.TreePositions.SkipAt, proofs.TreePositions.skip_at, proofs.TreePositions.skip-at, proofs.TreePositions.PhaseAt, proofs.TreePositions.phase_at, proofs.TreePositions.phase-at, proofs.TreePositions.ActAt, proofs.TreePositions.act_at, proofs.TreePositions.act-at, proofs.TreePositions.SeqAt, proofs.TreePositions.seq_at, proofs.TreePositions.seq-at, proofs.TreePositions.ParAt, proofs.TreePositions.par_at, proofs.TreePositions.par-at, proofs.TreePositions.SelAt, proofs.TreePositions.sel_at, proofs.TreePositions.sel-at, proofs.TreePositions.LoopAt, proofs.TreePositions.loop_at, proofs.TreePositions.loop-at, proofs.TreePositions.RowAt, proofs.TreePositions.row_at, proofs.TreePositions.row-at, proofs.TreePositions.row-end, proofs.TreePositions.LastAt, proofs.TreePositions.last_at, proofs.TreePositions.last-at, proofs.TreePositions.ChoiceAt, proofs.TreePositions.choice_at, proofs.TreePositions.choice-at, proofs.TreePositions.below-end, proofs.TreePositions.first-end, proofs.TreePositions.first-standing, proofs.TreePositions.choice-standing, proofs.TreePositions.choice-end, proofs.KnownTests.chosen-true, proofs.KnownTests.chosen-false, specs.Told.AreTold, proofs.FinishedStages.nests, proofs.FinishedStages.nests-each, proofs.FinishedStages.nests-choices, proofs.FinishedStages.nests-below, proofs.FinishedStages.told-finished, proofs.FinishedStages.told-reached, proofs.FinishedStages.told-one, proofs.FinishedStages.told-part, proofs.FinishedStages.told-same, proofs.FinishedStages.told-row, proofs.StageAgreement.stage-set_same, proofs.StageAgreement.stage-set_other, proofs.StageAgreement.meaning-agree, proofs.StageAgreement.meaning_each-agree, proofs.StageAgreement.branch-agree, proofs.StageAgreement.chosen-agree, specs.ByValues.reach_by, specs.ByValues.reach_first_by, specs.ByValues.reach_each_by, specs.ByValues.reach_chosen_by}
use Rattle.batch_chart.specs.declared.node.Kind.TheVariants as kind
use Rattle.batch_step_laws.proofs.DueUnitProcedures.{done-is}

-- writing a node's own stage

pub outside-set : (xs ys : List Stage) (n m : ℕ) (v : Stage) → n < m → AgreeOutside (n + 1) m xs ys → AgreeOutside n m xs (slice_set ys n v)
outside-set xs ys n m v lt h k (inl a) = stage-set_other ys n k v (omega arith) ∙ h k (inl (omega arith))
outside-set xs ys n m v lt h k (inr a) = stage-set_other ys n k v (omega arith) ∙ h k (inr a)

pub outside-same : (xs : List Stage) (n m : ℕ) → AgreeOutside n m xs xs
outside-same xs n m k h = refl

pub outside-part : (xs ys : List Stage) (n m j : ℕ) → m ≤ j → AgreeOutside n m xs ys → AgreeOutside n j xs ys
outside-part xs ys n m j le h k (inl a) = h k (inl a)
outside-part xs ys n m j le h k (inr a) = h k (inr (omega arith))

pub outside-join : (xs ys zs : List Stage) (n i m : ℕ) → n ≤ i → i ≤ m → AgreeOutside n i xs ys → AgreeOutside i m ys zs → AgreeOutside n m xs zs
outside-join xs ys zs n i m a b f g k (inl p) = g k (inl (omega arith)) ∙ f k (inl p)
outside-join xs ys zs n i m a b f g k (inr p) = g k (inr p) ∙ f k (inr (omega arith))

-- nodes below n alone differ
pub outside-inner : (xs ys : List Stage) (n m : ℕ) → AgreeOutside (n + 1) m xs ys → AgreeOutside n m xs ys
outside-inner xs ys n m h k (inl a) = h k (inl (omega arith))
outside-inner xs ys n m h k (inr a) = h k (inr a)

pub within-set : (ys : List Stage) (n m : ℕ) (v : Stage) → AgreeWithin (n + 1) m ys (slice_set ys n v)
within-set ys n m v k a b = stage-set_other ys n k v (omega arith)

-- trees over subtrees that have been reached

pub finished-closed : (b : Bool) → is_finished (closed_as b) ≡ b
finished-closed true = refl
finished-closed false = refl

-- a node above branches, of which r remains where it runs
pub begun-closed : (b : Bool) (r t : Rest) → b ≡ is_done t → (b ≡ false → r ≡ t) → elim (is_begun (closed_as b)) as (λ _. Rest) [ true ↦ r | false ↦ done ] ≡ t
begun-closed true r t e h = sym (done-is t (sym e))
begun-closed false r t e h = h refl

pub joins : (rs : Rests) → is_done (joined rs) ≡ all_done rs
joins rs = go (all_done rs)
  where
    go : (b : Bool) → is_done (elim b as (λ _. Rest) [ true ↦ done | false ↦ in_par rs ]) ≡ b
    go true = refl
    go false = refl

pub joined-open : (rs : Rests) → all_done rs ≡ false → in_par rs ≡ joined rs
joined-open rs e = sym (chosen-false (all_done rs) done (in_par rs) e)

pub turning-done : (k : ℕ) (p : Condition) (body : Tree) (b : Rest) → is_done (turning k p body b) ≡ is_done b
turning-done k p body b = go (is_done b)
  where
    go : (t : Bool) → is_done (elim t as (λ _. Rest) [ true ↦ done | false ↦ in_loop k p body b ]) ≡ t
    go true = refl
    go false = refl

module _ (ns : List Entry) (doc : Recipe) (vs : ValueList) (xs : List Stage) (n : ℕ) (standing : HasTree ns doc xs n) where
  pub own-outside : (ys : List Stage) (v : Stage) → AgreeOutside (n + 1) (end_at ns n) xs ys → AgreeOutside n (end_at ns n) xs (slice_set ys n v)
  own-outside ys v h = outside-set xs ys n (end_at ns n) v (below-end ns doc xs n standing) h

  pub loop-outside : (ys : List Stage) (k i : ℕ) → kind_at ns n ≡ Loop k i → AgreeOutside (n + 1) (end_at ns (n + 1)) xs ys → AgreeOutside (n + 1) (end_at ns n) xs ys
  loop-outside ys k i e h = go standing.1.0 (loop-at ns doc n k i e standing.1.0 standing.1.1)
    where
      go : (c : Tree) → LoopAt ns doc n k i c → AgreeOutside (n + 1) (end_at ns n) xs ys
      go _ (loop_at p body q a b) = outside-part xs ys (n + 1) (end_at ns (n + 1)) (end_at ns n) (omega (arith, b, (stood ns doc (n + 1) body a).end)) h

  -- the node's own stage has been written last
  own-told : (ys zs : List Stage) (v : Stage) (b : Bool) → zs ≡ slice_set ys n v → ((c : Tree) → Stands ns doc n c → (meaning c n zs ≡ reach_by vs c) × (b ≡ is_done (reach_by vs c))) → is_finished (stage_at zs n) ≡ b
      → AreTold ns doc (n + 1) (end_at ns n) ys → AreTold ns doc n (end_at ns n) zs
  own-told ys zs v b e m own h =
      told-one ns doc n (end_at ns n) zs (λ c q. told-reached vs c n zs b (m c q) own)
      (told-same ns doc (n + 1) (end_at ns n) ys zs (nests-below ns doc n (n + 1) (end_at ns n) (omega arith) (nests ns doc n standing.1.0 standing.1.1))
      (subst (λ l. AgreeWithin (n + 1) (end_at ns n) ys l) (sym e) (within-set ys n (end_at ns n) v)) h)

  loop-told : (ys : List Stage) (k i : ℕ) → kind_at ns n ≡ Loop k i → (AreTold ns doc (n + 1 + 1) (end_at ns (n + 1)) xs → AreTold ns doc (n + 1) (end_at ns (n + 1)) ys)
      → AreTold ns doc (n + 1) (end_at ns n) xs → AreTold ns doc (n + 1) (end_at ns n) ys
  loop-told ys k i e f h = go standing.1.0 (loop-at ns doc n k i e standing.1.0 standing.1.1)
    where
      go : (c : Tree) → LoopAt ns doc n k i c → AreTold ns doc (n + 1) (end_at ns n) ys
      go _ (loop_at p body q a b) =
          let same : end_at ns (n + 1) ≡ end_at ns n = omega (arith, b, (stood ns doc (n + 1) body a).end) in
          told-part ns doc (n + 1) (end_at ns (n + 1)) (n + 1) (end_at ns n) ys (omega arith) (omega (arith, same))
          (f (told-part ns doc (n + 1) (end_at ns n) (n + 1 + 1) (end_at ns (n + 1)) xs (omega arith) (omega (arith, same)) h))

  -- an act is ready
  reached-ready : (lt : n < length xs) (s : Step) (w : Task) → (meaning (act s w) n (slice_set xs n (Ready 0)) ≡ reach_by vs (act s w)) × (false ≡ is_done (reach_by vs (act s w)))
  reached-ready lt s w = (ap (λ x. act_as s w (meaning_below w (n + 1) (slice_set xs n (Ready 0))) x) (stage-set_same xs n (Ready 0) lt), refl)

  reached-phase : (k i : ℕ) → kind_at ns n ≡ kind.Phase k i → n < length xs → IsReached ns doc vs n xs (slice_set xs n (Ready 0)) false
  reached-phase k i e lt =
      record {
        means = λ c h. go c (phase-at ns doc n k i e c h);
        own = ap is_finished (stage-set_same xs n (Ready 0) lt);
        outside = own-outside xs (Ready 0) (outside-same xs (n + 1) (end_at ns n));
        told = own-told xs (slice_set xs n (Ready 0)) (Ready 0) false refl (λ c h. go c (phase-at ns doc n k i e c h)) (ap is_finished (stage-set_same xs n (Ready 0) lt));
      }
    where
      go : (c : Tree) → PhaseAt ns doc n k i c → (meaning c n (slice_set xs n (Ready 0)) ≡ reach_by vs c) × (false ≡ is_done (reach_by vs c))
      go _ (phase_at s p q f count) = reached-ready lt s (runs p)

  reached-act : (k : ℕ) → kind_at ns n ≡ Act k → n < length xs → IsReached ns doc vs n xs (slice_set xs n (Ready 0)) false
  reached-act k e lt =
      record {
        means = λ c h. go c (act-at ns doc n k e c h);
        own = ap is_finished (stage-set_same xs n (Ready 0) lt);
        outside = own-outside xs (Ready 0) (outside-same xs (n + 1) (end_at ns n));
        told = own-told xs (slice_set xs n (Ready 0)) (Ready 0) false refl (λ c h. go c (act-at ns doc n k e c h)) (ap is_finished (stage-set_same xs n (Ready 0) lt));
      }
    where
      go : (c : Tree) → ActAt ns doc n k c → (meaning c n (slice_set xs n (Ready 0)) ≡ reach_by vs c) × (false ≡ is_done (reach_by vs c))
      go _ (act_at s name c a f count) = reached-ready lt s (follows name c)

  -- an act of either kind is ready
  pub reached-step : ((k : ℕ) × (i : ℕ) × (kind_at ns n ≡ kind.Phase k i)) ⊎ ((k : ℕ) × (kind_at ns n ≡ Act k)) → n < length xs → IsReached ns doc vs n xs (slice_set xs n (Ready 0)) false
  reached-step (inl h) lt = reached-phase h.0 h.1 h.2 lt
  reached-step (inr h) lt = reached-act h.0 h.1 lt

  pub reached-skip : kind_at ns n ≡ Skip → n < length xs → IsReached ns doc vs n xs (slice_set xs n Finished) true
  reached-skip e lt =
      record {
        means = λ c h. go c (skip-at ns doc n e c h);
        own = ap is_finished (stage-set_same xs n Finished lt);
        outside = own-outside xs Finished (outside-same xs (n + 1) (end_at ns n));
        told = own-told xs (slice_set xs n Finished) Finished true refl (λ c h. go c (skip-at ns doc n e c h)) (ap is_finished (stage-set_same xs n Finished lt));
      }
    where
      go : (c : Tree) → SkipAt ns doc n c → (meaning c n (slice_set xs n Finished) ≡ reach_by vs c) × (true ≡ is_done (reach_by vs c))
      go _ skip_at = (refl, refl)

  -- a node above branches has been closed
  module _ (ys zs : List Stage) (b r : Bool) (lt : n < length ys) (closes : (r ≡ b) × (zs ≡ slice_set ys n (closed_as b))) where
    closed-own : stage_at zs n ≡ closed_as b
    closed-own = ap (λ l. stage_at l n) closes.1 ∙ stage-set_same ys n (closed_as b) lt

    closed-within : (m : ℕ) → AgreeWithin (n + 1) m ys zs
    closed-within m = subst (λ l. AgreeWithin (n + 1) m ys l) (sym closes.1) (within-set ys n m (closed_as b))

    closed-outside : AgreeOutside (n + 1) (end_at ns n) xs ys → AgreeOutside n (end_at ns n) xs zs
    closed-outside h = subst (λ l. AgreeOutside n (end_at ns n) xs l) (sym closes.1) (own-outside ys (closed_as b) h)

    closed-finished : is_finished (stage_at zs n) ≡ r
    closed-finished = ap is_finished closed-own ∙ finished-closed b ∙ sym closes.0

    closed-means : (q t : Rest) → b ≡ is_done t → (b ≡ false → q ≡ t) → (elim (is_begun (stage_at zs n)) as (λ _. Rest) [ true ↦ q | false ↦ done ] ≡ t) × (r ≡ is_done t)
    closed-means q t e h = (
      ap (λ x. elim (is_begun x) as (λ _. Rest) [ true ↦ q | false ↦ done ]) closed-own ∙ begun-closed b q t e h,
      closes.0 ∙ e,
    )

    pub reached-seq : kind_at ns n ≡ Seq → IsFirstReached ns doc vs (n + 1) (end_at ns n) xs ys b → IsReached ns doc vs n xs zs r
    reached-seq e f =
        record {
          means = λ c h. go c (seq-at ns doc n e c h);
          own = closed-finished;
          outside = closed-outside f.outside;
          told = λ q. own-told ys zs (closed_as b) r closes.1 (λ c h. go c (seq-at ns doc n e c h)) closed-finished (f.told q);
        }
      where
        go : (c : Tree) → SeqAt ns doc n c → (meaning c n zs ≡ reach_by vs c) × (r ≡ is_done (reach_by vs c))
        go _ (seq_at ts a) =
            closed-means (meaning_of_branch ts (n + 1) zs) (reach_first_by vs ts) (f.means ts a).1
            (λ u. branch-agree ys zs ts (n + 1) (closed-within (n + 1 + count_of_each ts)) ∙ (f.means ts a).0)

    pub reached-par : kind_at ns n ≡ Par → IsEachReached ns doc vs (n + 1) (end_at ns n) true xs ys b → IsReached ns doc vs n xs zs r
    reached-par e f =
        record {
          means = λ c h. go c (par-at ns doc n e c h);
          own = closed-finished;
          outside = closed-outside f.outside;
          told = λ q. own-told ys zs (closed_as b) r closes.1 (λ c h. go c (par-at ns doc n e c h)) closed-finished (f.told q);
        }
      where
        go : (c : Tree) → ParAt ns doc n c → (meaning c n zs ≡ reach_by vs c) × (r ≡ is_done (reach_by vs c))
        go _ (par_at ts a) =
            closed-means (in_par (meaning_each ts (n + 1) zs)) (joined (reach_each_by vs ts)) ((f.means ts a).1 ∙ sym (joins (reach_each_by vs ts)))
            (λ u. ap in_par (meaning_each-agree ys zs ts (n + 1) (closed-within (n + 1 + count_of_each ts)) ∙ (f.means ts a).0)
            ∙ joined-open (reach_each_by vs ts) (sym (f.means ts a).1 ∙ u))

    pub reached-sel : (i : ℕ) → kind_at ns n ≡ Sel i → IsChoiceReached ns doc vs i (n + 1) (end_at ns n) xs ys b → IsReached ns doc vs n xs zs r
    reached-sel i e f =
        record {
          means = λ c h. go c (sel-at ns doc n i e c h);
          own = closed-finished;
          outside = closed-outside f.outside;
          told = λ q. own-told ys zs (closed_as b) r closes.1 (λ c h. go c (sel-at ns doc n i e c h)) closed-finished (f.told q);
        }
      where
        go : (c : Tree) → SelAt ns doc n i c → (meaning c n zs ≡ reach_by vs c) × (r ≡ is_done (reach_by vs c))
        go _ (sel_at ch a) =
            closed-means (chosen ch (n + 1) zs) (reach_chosen_by vs ch) (f.means ch a).1
            (λ u. chosen-agree ys zs ch (n + 1) (closed-within (n + 1 + count_of_choices ch)) ∙ (f.means ch a).0 u)

  reached-loop_turning : (ys : List Stage) (k i j : ℕ) → j ≡ k - 1 → kind_at ns n ≡ Loop k i → n < length ys → IsReached ns doc vs (n + 1) xs ys false → IsReached ns doc vs n xs (slice_set ys n (Turning j)) false
  reached-loop_turning ys k i j less e lt r =
      record {
        means = λ c h. go c (loop-at ns doc n k i e c h);
        own = ap is_finished (stage-set_same ys n (Turning j) lt);
        outside = own-outside ys (Turning j) (loop-outside ys k i e r.outside);
        told = λ q. own-told ys (slice_set ys n (Turning j)) (Turning j) false refl (λ c h. go c (loop-at ns doc n k i e c h)) (ap is_finished (stage-set_same ys n (Turning j) lt)) (loop-told ys k i e r.told q);
      }
    where
      go : (c : Tree) → LoopAt ns doc n k i c → (meaning c n (slice_set ys n (Turning j)) ≡ reach_by vs c) × (false ≡ is_done (reach_by vs c))
      go _ (loop_at p body q a b) =
          let m = r.means body a in (
            ap (λ x. loop_as (turns_of x) p body (meaning body (n + 1) (slice_set ys n (Turning j)))) (stage-set_same ys n (Turning j) lt)
                ∙ ap (in_loop j p body) (meaning-agree ys (slice_set ys n (Turning j)) body (n + 1) (within-set ys n (n + 1 + node_count body) (Turning j)) ∙ m.0)
                ∙ ap (λ z. in_loop z p body (reach_by vs body)) (less ∙ sub-one k)
                ∙ sym (chosen-false (is_done (reach_by vs body)) done (in_loop (pred k) p body (reach_by vs body)) (sym m.1)),
            m.1 ∙ sym (turning-done (pred k) p body (reach_by vs body)),
          )

  reached-loop_done : (ys : List Stage) (k i : ℕ) → kind_at ns n ≡ Loop k i → n < length ys → IsReached ns doc vs (n + 1) xs ys true → IsReached ns doc vs n xs (slice_set ys n Finished) true
  reached-loop_done ys k i e lt r =
      record {
        means = λ c h. go c (loop-at ns doc n k i e c h);
        own = ap is_finished (stage-set_same ys n Finished lt);
        outside = own-outside ys Finished (loop-outside ys k i e r.outside);
        told = λ q. own-told ys (slice_set ys n Finished) Finished true refl (λ c h. go c (loop-at ns doc n k i e c h)) (ap is_finished (stage-set_same ys n Finished lt)) (loop-told ys k i e r.told q);
      }
    where
      go : (c : Tree) → LoopAt ns doc n k i c → (meaning c n (slice_set ys n Finished) ≡ reach_by vs c) × (true ≡ is_done (reach_by vs c))
      go _ (loop_at p body q a b) =
          let m = r.means body a in (
            ap (λ x. loop_as (turns_of x) p body (meaning body (n + 1) (slice_set ys n Finished))) (stage-set_same ys n Finished lt)
                ∙ sym (chosen-true (is_done (reach_by vs body)) done (in_loop (pred k) p body (reach_by vs body)) (sym m.1)),
            m.1 ∙ sym (turning-done (pred k) p body (reach_by vs body)),
          )

  pub reached-loop : (ys zs : List Stage) (b r : Bool) (k i j : ℕ) → j ≡ k - 1 → kind_at ns n ≡ Loop k i → n < length ys → IsReached ns doc vs (n + 1) xs ys b
      → (r ≡ b) × (zs ≡ slice_set ys n (looped_as b j)) → IsReached ns doc vs n xs zs r
  reached-loop ys zs b r k i j less e lt f closes = rw (closes.0, closes.1) (go b f)
    where
      go : (b : Bool) → IsReached ns doc vs (n + 1) xs ys b → IsReached ns doc vs n xs (slice_set ys n (looped_as b j)) b
      go true f = reached-loop_done ys k i e lt f
      go false f = reached-loop_turning ys k i j less e lt f

-- the branches of a row

pub first-end_of_row : (ns : List Entry) (doc : Recipe) (vs : ValueList) (n m : ℕ) (xs : List Stage) → n ≡ m → IsFirstReached ns doc vs n m xs xs true
first-end_of_row ns doc vs n m xs e =
    record {
      means = λ ts h. rw (row-end ns doc n m e ts h) (refl, refl);
      outside = outside-same xs n m;
      told = λ q. q;
    }

pub each-end_of_row : (ns : List Entry) (doc : Recipe) (vs : ValueList) (n m : ℕ) (over : Bool) (xs : List Stage) → n ≡ m → IsEachReached ns doc vs n m over xs xs over
each-end_of_row ns doc vs n m over xs e =
    record {
      means = λ ts h. rw (row-end ns doc n m e ts h) (refl, sym (and-true over));
      outside = outside-same xs n m;
      told = λ q. q;
    }

module _ (ns : List Entry) (doc : Recipe) (vs : ValueList) (xs : List Stage) (n m : ℕ) (ne : n ≢ m) (h : HaveTrees ns doc xs n m) where
  standing : HasTree ns doc xs n
  standing = first-standing ns doc xs n m ne h

  row-told : (ys zs : List Stage) → AgreeOutside n (end_at ns n) xs ys → AgreeOutside (end_at ns n) m ys zs → (AreTold ns doc (n + 1) (end_at ns n) xs → AreTold ns doc n (end_at ns n) ys)
      → (AreTold ns doc (end_at ns n) m ys → AreTold ns doc (end_at ns n) m zs) → AreTold ns doc n m xs → AreTold ns doc n m zs
  row-told ys zs f g =
      told-row ns doc n (end_at ns n) m xs ys zs (below-end ns doc xs n standing) (first-end ns doc xs n m ne h) (nests ns doc n standing.1.0 standing.1.1)
      (nests-below ns doc n (end_at ns n) m (omega (arith, below-end ns doc xs n standing)) (nests-each ns doc n m h.1.0 h.1.1)) (λ k a b. f k (inr a)) (λ k a b. g k (inl b))

  pub first-later : (ys zs : List Stage) (b : Bool) → IsReached ns doc vs n xs ys true → IsFirstReached ns doc vs (end_at ns n) m ys zs b → IsFirstReached ns doc vs n m xs zs b
  first-later ys zs b r rs =
      record {
        means = λ ts a. go ts (row-at ns doc n m ne ts a);
        outside = outside-join xs ys zs n (end_at ns n) m (omega (arith, below-end ns doc xs n standing)) (first-end ns doc xs n m ne h) r.outside rs.outside;
        told = row-told ys zs r.outside rs.outside r.told rs.told;
      }
    where
      go : (ts : Trees) → RowAt ns doc n m ts → (meaning_of_branch ts n zs ≡ reach_first_by vs ts) × (b ≡ is_done (reach_first_by vs ts))
      go _ (row_at c ts p q e le) =
          let finished : is_done (reach_by vs c) ≡ true = sym (r.means c p).1 in
          let own : is_finished (stage_at zs n) ≡ true = ap is_finished (rs.outside n (inl (below-end ns doc xs n standing))) ∙ r.own in
          let later : meaning_of_branch ts (n + node_count c) zs ≡ reach_first_by vs ts = subst (λ i. meaning_of_branch ts i zs ≡ reach_first_by vs ts) e (rs.means ts q).0 in
          let next : reach_first_by vs (tree c ts) ≡ reach_first_by vs ts = chosen-true (is_done (reach_by vs c)) (reach_first_by vs ts) (in_seq (reach_by vs c) ts) finished in (
            chosen-true (is_finished (stage_at zs n)) (meaning_of_branch ts (n + node_count c) zs) (in_seq (meaning c n zs) ts) own ∙ later ∙ sym next,
            (rs.means ts q).1 ∙ sym (ap is_done next),
          )

  pub first-here : (ys : List Stage) → IsReached ns doc vs n xs ys false → IsFirstReached ns doc vs n m xs ys false
  first-here ys r =
      record {
        means = λ ts a. go ts (row-at ns doc n m ne ts a);
        outside = outside-part xs ys n (end_at ns n) m (first-end ns doc xs n m ne h) r.outside;
        told = row-told ys ys r.outside (outside-same ys (end_at ns n) m) r.told (λ q. q);
      }
    where
      go : (ts : Trees) → RowAt ns doc n m ts → (meaning_of_branch ts n ys ≡ reach_first_by vs ts) × (false ≡ is_done (reach_first_by vs ts))
      go _ (row_at c ts p q e le) =
          let unfinished : is_done (reach_by vs c) ≡ false = sym (r.means c p).1 in
          let first : reach_first_by vs (tree c ts) ≡ in_seq (reach_by vs c) ts = chosen-false (is_done (reach_by vs c)) (reach_first_by vs ts) (in_seq (reach_by vs c) ts) unfinished in (
            chosen-false (is_finished (stage_at ys n)) (meaning_of_branch ts (n + node_count c) ys) (in_seq (meaning c n ys) ts) r.own ∙ ap (λ x. in_seq x ts) (r.means c p).0 ∙ sym first,
            sym (ap is_done first),
          )

  pub each-more : (ys zs : List Stage) (over a b : Bool) → IsReached ns doc vs n xs ys a → IsEachReached ns doc vs (end_at ns n) m (over && a) ys zs b → IsEachReached ns doc vs n m over xs zs b
  each-more ys zs over a b r rs =
      record {
        means = λ ts p. go ts (row-at ns doc n m ne ts p);
        outside = outside-join xs ys zs n (end_at ns n) m (omega (arith, below-end ns doc xs n standing)) (first-end ns doc xs n m ne h) r.outside rs.outside;
        told = row-told ys zs r.outside rs.outside r.told rs.told;
      }
    where
      go : (ts : Trees) → RowAt ns doc n m ts → (meaning_each ts n zs ≡ reach_each_by vs ts) × (b ≡ (over && all_done (reach_each_by vs ts)))
      go _ (row_at c ts p q e le) =
          let later : meaning_each ts (n + node_count c) zs ≡ reach_each_by vs ts = subst (λ i. meaning_each ts i zs ≡ reach_each_by vs ts) e (rs.means ts q).0 in
          let kept : meaning c n zs ≡ meaning c n ys = meaning-agree ys zs c n (λ k i j. rs.outside k (inl (omega arith))) in (
            ap (λ x. rest x (meaning_each ts (n + node_count c) zs)) (kept ∙ (r.means c p).0) ∙ ap (λ x. rest (reach_by vs c) x) later,
            (rs.means ts q).1 ∙ and_assoc over a (all_done (reach_each_by vs ts)) ∙ ap (λ x. over && (x && all_done (reach_each_by vs ts))) (r.means c p).1,
          )

-- the branches of a selection

module _ (ns : List Entry) (doc : Recipe) (vs : ValueList) (xs : List Stage) (i n m : ℕ) (h : HaveChoices ns doc xs i n m) where
  chosen-standing : HasTree ns doc xs n
  chosen-standing = choice-standing ns doc xs i n m h

  choices-told : (ys zs : List Stage) → AgreeOutside n (end_at ns n) xs ys → AgreeOutside (end_at ns n) m ys zs → (AreTold ns doc (n + 1) (end_at ns n) xs → AreTold ns doc n (end_at ns n) ys)
      → (AreTold ns doc (end_at ns n) m ys → AreTold ns doc (end_at ns n) m zs) → AreTold ns doc n m xs → AreTold ns doc n m zs
  choices-told ys zs f g =
      told-row ns doc n (end_at ns n) m xs ys zs (below-end ns doc xs n chosen-standing) (choice-end ns doc xs i n m h) (nests ns doc n chosen-standing.1.0 chosen-standing.1.1)
      (nests-below ns doc n (end_at ns n) m (omega (arith, below-end ns doc xs n chosen-standing)) (nests-choices ns doc i n m h.1.0 h.1.1)) (λ k a b. f k (inr a)) (λ k a b. g k (inl b))

  pub choice-last : (ys : List Stage) (b : Bool) → end_at ns n ≡ m → IsReached ns doc vs n xs ys b → IsChoiceReached ns doc vs i n m xs ys b
  choice-last ys b e r =
      record {
        means = λ ch a. go ch (last-at ns doc i n m e ch a);
        outside = outside-part xs ys n (end_at ns n) m (choice-end ns doc xs i n m h) r.outside;
        told = choices-told ys ys r.outside (outside-same ys (end_at ns n) m) r.told (λ q. q);
      }
    where
      go : (ch : Choices) → LastAt ns doc n m ch → (b ≡ false → chosen ch n ys ≡ reach_chosen_by vs ch) × (b ≡ is_done (reach_chosen_by vs ch))
      go _ (last_at c a) = (λ u. (r.means c a).0, (r.means c a).1)

  pub choice-taken : (ys : List Stage) (b : Bool) → end_at ns n ≢ m → true ≡ condition_holds (condition_at doc i) vs → IsReached ns doc vs n xs ys b → IsChoiceReached ns doc vs i n m xs ys b
  choice-taken ys b ne t r =
      record {
        means = λ ch a. go ch (choice-at ns doc i n m ne ch a);
        outside = outside-part xs ys n (end_at ns n) m (choice-end ns doc xs i n m h) r.outside;
        told = choices-told ys ys r.outside (outside-same ys (end_at ns n) m) r.told (λ q. q);
      }
    where
      go : (ch : Choices) → ChoiceAt ns doc i n m ch → (b ≡ false → chosen ch n ys ≡ reach_chosen_by vs ch) × (b ≡ is_done (reach_chosen_by vs ch))
      go _ (choice_at p c ch q a later e lt) =
          let holding : holds vs p ≡ true = sym (t ∙ ap (λ d. condition_holds d vs) q) in
          let taken : reach_chosen_by vs (choice p c ch) ≡ reach_by vs c = chosen-true (holds vs p) (reach_by vs c) (reach_chosen_by vs ch) holding in (
            (λ u. chosen-false (is_finished (stage_at ys n)) (chosen ch (n + node_count c) ys) (meaning c n ys) (r.own ∙ u) ∙ (r.means c a).0 ∙ sym taken),
            (r.means c a).1 ∙ sym (ap is_done taken),
          )

  pub choice-passed : (zs : List Stage) (b : Bool) → n < length xs → end_at ns n ≢ m → false ≡ condition_holds (condition_at doc i) vs → IsChoiceReached ns doc vs (i + 1) (end_at ns n) m (slice_set xs n Finished) zs b → IsChoiceReached ns doc vs i n m xs zs b
  choice-passed zs b lt ne t r =
      record {
        means = λ ch a. go ch (choice-at ns doc i n m ne ch a);
        outside = outside-join xs (slice_set xs n Finished) zs n (end_at ns n) m (omega (arith, below)) (choice-end ns doc xs i n m h)
            (outside-set xs xs n (end_at ns n) Finished below (outside-same xs (n + 1) (end_at ns n))) r.outside;
        told = choices-told (slice_set xs n Finished) zs (outside-set xs xs n (end_at ns n) Finished below (outside-same xs (n + 1) (end_at ns n))) r.outside passed-told r.told;
      }
    where
      below : n < end_at ns n
      below = below-end ns doc xs n (choice-standing ns doc xs i n m h)

      own : is_finished (stage_at zs n) ≡ true
      own = ap is_finished (r.outside n (inl below) ∙ stage-set_same xs n Finished lt)

      passed-told : AreTold ns doc (n + 1) (end_at ns n) xs → AreTold ns doc n (end_at ns n) (slice_set xs n Finished)
      passed-told q =
          told-one ns doc n (end_at ns n) (slice_set xs n Finished) (λ c p. told-finished c n (slice_set xs n Finished) (stage-set_same xs n Finished lt))
          (told-same ns doc (n + 1) (end_at ns n) xs (slice_set xs n Finished) (nests-below ns doc n (n + 1) (end_at ns n) (omega arith) (nests ns doc n chosen-standing.1.0 chosen-standing.1.1)) (within-set xs n (end_at ns n) Finished) q)

      go : (ch : Choices) → ChoiceAt ns doc i n m ch → (b ≡ false → chosen ch n zs ≡ reach_chosen_by vs ch) × (b ≡ is_done (reach_chosen_by vs ch))
      go _ (choice_at p c ch q a later e k) =
          let failing : holds vs p ≡ false = sym (t ∙ ap (λ d. condition_holds d vs) q) in
          let passed : reach_chosen_by vs (choice p c ch) ≡ reach_chosen_by vs ch = chosen-false (holds vs p) (reach_by vs c) (reach_chosen_by vs ch) failing in
          let rest = r.means ch later in (
            (λ u. chosen-true (is_finished (stage_at zs n)) (chosen ch (n + node_count c) zs) (meaning c n zs) own
                ∙ ap (λ z. chosen ch z zs) (sym e) ∙ rest.0 u ∙ sym passed),
            rest.1 ∙ sym (ap is_done passed),
          )
