-- Going on with a tree: the conditions at each kind of node.
use Rattle.std.proofs.Common.{◌≡◌, ◌≢◌, ◌⊎◌, inl, inr, ◌<◌, ◌≤◌, ℕ, zero, suc, ◌+◌, ◌-◌, List, length, Bool, true, false, Some, arith, refl, sym, ◌∙◌, subst, ap, pred, sub-one}
use Rattle.std.specs.Prelude.{not, slice_set}
use Rattle.batch_recipe.specs.{Conditions.Name, Conditions.ValueList, Conditions.holds, Nodes.node_count, Nodes.count_of_each, Nodes.count_of_choices, Tree.Step, Tree.Phase, Tree.Task, Tree.runs, Tree.follows, Tree.Tree, Tree.loop, Tree.Trees, Tree.Choices, declared.condition.Condition.Condition, declared.entry.Entry.Entry, declared.recipe.Recipe.Recipe}
use Rattle.batch_model.specs.{Rest.Rest, Rest.in_seq, Rest.in_par, Rest.in_loop, Rest.done, Rest.is_done, Rest.joined, Rest.turning, Moves.freed}
use Rattle.batch_chart.{specs.declared.node.Kind.Kind, specs.declared.node.Kind.TheVariants.Act, specs.declared.node.Kind.TheVariants.Seq, specs.declared.node.Kind.TheVariants.Par, specs.declared.node.Kind.TheVariants.Sel, specs.declared.node.Kind.TheVariants.Loop, specs.declared.stage.Stage.Stage, specs.declared.stage.Stage.TheVariants.Finished, specs.declared.stage.Stage.TheVariants.Open, specs.declared.stage.Stage.TheVariants.Freeing, specs.declared.stage.Stage.TheVariants.Turning, specs.Stages.stage_at, specs.Stages.is_finished, specs.Stages.is_begun, specs.Stages.is_over, specs.Stages.is_over_at, specs.Stages.turns_of, specs.Stages.closed_as, specs.Stages.looped_as, specs.Meaning.meaning, specs.Meaning.meaning_each, specs.Meaning.act_as, specs.Meaning.loop_as, specs.Meaning.meaning_of_branch, specs.Meaning.chosen, specs.Meaning.AgreeWithin, specs.Meaning.AgreeOutside, specs.Outlined.end_at, specs.Outlined.kind_at, specs.Outlined.IsCondition, specs.Outlined.Stands, specs.Outlined.HasTree, specs.Outlined.HaveTrees, specs.Outlined.HaveBranches, specs.Outlined.condition_holds, specs.Outlined.condition_at, specs.Reaching.IsReached, specs.Reaching.IsFirstReached, specs.Advancing.HasAdvanced, specs.Advancing.HasFirstAdvanced, specs.Advancing.HasEachAdvanced, specs.Advancing.HasChoiceAdvanced, proofs.TreePositions.stood, proofs.TreePositions.ActAt, proofs.TreePositions.act_at, proofs.TreePositions.act-at, proofs.TreePositions.SeqAt, proofs.TreePositions.seq_at, proofs.TreePositions.seq-at, proofs.TreePositions.ParAt, proofs.TreePositions.par_at, proofs.TreePositions.par-at, proofs.TreePositions.SelAt, proofs.TreePositions.sel_at, proofs.TreePositions.sel-at, proofs.TreePositions.LoopAt, proofs.TreePositions.loop_at, proofs.TreePositions.loop-at, proofs.TreePositions.RowAt, proofs.TreePositions.row_at, proofs.TreePositions.row-at, proofs.TreePositions.LastAt, proofs.TreePositions.last_at, proofs.TreePositions.last-at, proofs.TreePositions.ChoiceAt, proofs.TreePositions.choice_at, proofs.TreePositions.choice-at, proofs.TreePositions.below-end, proofs.TreePositions.first-end, proofs.TreePositions.first-standing, proofs.TreePositions.choice-standing, proofs.TreePositions.choice-end, proofs.KnownTests.chosen-true, proofs.KnownTests.chosen-false, proofs.FinishedStages.finished-means, proofs.StageAgreement.stage-set_same, proofs.StageAgreement.meaning-agree, proofs.StageAgreement.meaning_each-agree, proofs.StageAgreement.branch-agree, proofs.StageAgreement.chosen-agree, proofs.ReachedTree.outside-same, proofs.ReachedTree.outside-part, proofs.ReachedTree.outside-join, proofs.ReachedTree.outside-inner, proofs.ReachedTree.within-set, proofs.ReachedTree.own-outside, proofs.ReachedTree.loop-outside, proofs.ReachedTree.finished-closed, proofs.ReachedTree.begun-closed, proofs.ReachedTree.joins, proofs.ReachedTree.joined-open, specs.ByValues.turned_by, specs.ByValues.reach_by, specs.ByValues.reach_first_by, specs.ByValues.advance_by, specs.ByValues.advance_each_by}

-- an act at its stage, after going on

advance-freed : (vs : ValueList) (s : Step) (k : ℕ) → advance_by vs (freed s k) ≡ freed s k
advance-freed vs s zero = refl
advance-freed vs s (suc k) = refl

pub advance-phase : (vs : ValueList) (s : Step) (p : Phase) (r : Rest) (x : Stage) → advance_by vs (act_as s (runs p) r x) ≡ act_as s (runs p) r x
advance-phase vs s p r (Freeing k) = advance-freed vs s k
advance-phase vs s p r x = refl

pub advance-act : (vs : ValueList) (s : Step) (name : Name) (c : Tree) (r : Rest) (x : Stage) → advance_by vs (act_as s (follows name c) r x) ≡ act_as s (follows name c) (advance_by vs r) x
advance-act vs s name c r (Freeing k) = advance-freed vs s k
advance-act vs s name c r x = refl

done-freed : (s : Step) (k : ℕ) → is_over (Freeing k) ≡ is_done (freed s k)
done-freed s zero = refl
done-freed s (suc k) = refl

pub done-act : (s : Step) (name : Name) (c : Tree) (r : Rest) (x : Stage) → is_over x ≡ is_done (act_as s (follows name c) r x)
done-act s name c r (Freeing k) = done-freed s k
done-act s name c r x = refl

pub unbegun-act : (s : Step) (w : Task) (r t : Rest) (x : Stage) → is_begun x ≡ false → act_as s w r x ≡ act_as s w t x
unbegun-act x1 x2 x3 x4 x5 x6 = grind arith

pub begun-open : (x : Stage) → is_begun x ≡ true → x ≡ Open
begun-open x1 x2 = grind arith

pub finished-stage : (x : Stage) → is_finished x ≡ true → x ≡ Finished
finished-stage x1 x2 = grind arith

pub unover-unfinished : (x : Stage) → is_over x ≡ false → is_finished x ≡ false
unover-unfinished x1 x2 = grind arith

-- a turn, after going on

turned-last : (vs : ValueList) (k : ℕ) (p : Condition) (body : Tree) (b : Rest) → is_done b ≡ true → k ≡ 0 → turned_by vs k p body b ≡ done
turned-last vs zero p body b e l = chosen-true (is_done b) done (in_loop 0 p body b) e
turned-last vs (suc k) p body b e l = absurd (omega arith)

turned-holds : (vs : ValueList) (k : ℕ) (p : Condition) (body : Tree) (b : Rest) → is_done b ≡ true → holds vs p ≡ true → turned_by vs k p body b ≡ done
turned-holds vs zero p body b e h = chosen-true (is_done b) done (in_loop 0 p body b) e
turned-holds vs (suc k) p body b e h =
    chosen-true (is_done b) (elim (holds vs p) as (λ _. Rest) [ true ↦ done | false ↦ turning k p body (reach_by vs body) ]) (in_loop (suc k) p body b) e
    ∙ chosen-true (holds vs p) done (turning k p body (reach_by vs body)) h

turned-more : (vs : ValueList) (k : ℕ) (p : Condition) (body : Tree) (b : Rest) → is_done b ≡ true → holds vs p ≡ false → k ≢ 0 → turned_by vs k p body b ≡ turning (pred k) p body (reach_by vs body)
turned-more vs zero p body b e h l = absurd (l refl)
turned-more vs (suc k) p body b e h l =
    chosen-true (is_done b) (elim (holds vs p) as (λ _. Rest) [ true ↦ done | false ↦ turning k p body (reach_by vs body) ]) (in_loop (suc k) p body b) e
    ∙ chosen-false (holds vs p) done (turning k p body (reach_by vs body)) h

-- something is left of a node of the kind
pub left-at : (ns : List Entry) (xs : List Stage) (n : ℕ) (k : Kind) → kind_at ns n ≡ k → false ≡ is_over_at (kind_at ns n) (stage_at xs n) → false ≡ is_over_at k (stage_at xs n)
left-at ns xs n k e u = u ∙ ap (λ k. is_over_at k (stage_at xs n)) e

pub not-false : (b : Bool) → false ≡ not b → true ≡ b
not-false true e = refl
not-false false e = absurd (cc)

module _ (ns : List Entry) (doc : Recipe) (vs : ValueList) (xs : List Stage) (n : ℕ) (standing : HasTree ns doc xs n) where
  -- nothing is left, and the node is finished
  pub advanced-finish : (ys : List Stage) → n < length ys → AgreeOutside (n + 1) (end_at ns n) xs ys → ((c : Tree) → Stands ns doc n c → advance_by vs (meaning c n xs) ≡ done)
      → HasAdvanced ns doc vs n xs (slice_set ys n Finished) true
  advanced-finish ys lt out over =
      record {
        means = λ c h. (
          finished-means c n (slice_set ys n Finished) (stage-set_same ys n Finished lt) ∙ sym (over c h),
          sym (ap is_done (over c h)),
        );
        own = ap is_finished (stage-set_same ys n Finished lt);
        outside = own-outside ns doc vs xs n standing ys Finished out;
      }

  act-inner : (ys : List Stage) (k : ℕ) → kind_at ns n ≡ Act k → AgreeOutside (n + 1) (end_at ns (n + 1)) xs ys → AgreeOutside n (end_at ns n) xs ys
  act-inner ys k e h = go standing.1.0 (act-at ns doc n k e standing.1.0 standing.1.1)
    where
      go : (c : Tree) → ActAt ns doc n k c → AgreeOutside n (end_at ns n) xs ys
      go _ (act_at s name c a f count) = outside-inner xs ys n (end_at ns n) (outside-part xs ys (n + 1) (end_at ns (n + 1)) (end_at ns n) (omega (arith, f, (stood ns doc (n + 1) c a).end)) h)

  pub advanced-act_chart : (ys : List Stage) (k : ℕ) (r : Bool) → kind_at ns n ≡ Act k → true ≡ is_begun (stage_at xs n) → HasAdvanced ns doc vs (n + 1) xs ys r → HasAdvanced ns doc vs n xs ys false
  advanced-act_chart ys k r e t a =
      record {
        means = λ c h. go c (act-at ns doc n k e c h);
        own = ap is_finished (same ∙ begun-open (stage_at xs n) (sym t));
        outside = act-inner ys k e a.outside;
      }
    where
      same : stage_at ys n ≡ stage_at xs n
      same = a.outside n (inl (omega arith))

      go : (c : Tree) → ActAt ns doc n k c → (meaning c n ys ≡ advance_by vs (meaning c n xs)) × (false ≡ is_done (advance_by vs (meaning c n xs)))
      go _ (act_at s name c q f count) =
          let w = follows name c in
          let x = stage_at xs n in
          let moved = advance-act vs s name c (meaning c (n + 1) xs) x in (
            ap (λ y. act_as s w (meaning c (n + 1) ys) y) same ∙ ap (λ z. act_as s w z x) (a.means c q).0 ∙ sym moved,
            sym (ap is_done (moved ∙ ap (λ y. act_as s w (advance_by vs (meaning c (n + 1) xs)) y) (begun-open x (sym t)))),
          )

  pub advanced-act_still : (k : ℕ) → kind_at ns n ≡ Act k → false ≡ is_begun (stage_at xs n) → false ≡ is_over (stage_at xs n) → HasAdvanced ns doc vs n xs xs false
  advanced-act_still k e t o =
      record {
        means = λ c h. go c (act-at ns doc n k e c h);
        own = unover-unfinished (stage_at xs n) (sym o);
        outside = outside-same xs n (end_at ns n);
      }
    where
      go : (c : Tree) → ActAt ns doc n k c → (meaning c n xs ≡ advance_by vs (meaning c n xs)) × (false ≡ is_done (advance_by vs (meaning c n xs)))
      go _ (act_at s name c q f count) =
          let w = follows name c in
          let x = stage_at xs n in
          let moved = advance-act vs s name c (meaning c (n + 1) xs) x ∙ unbegun-act s w (advance_by vs (meaning c (n + 1) xs)) (meaning c (n + 1) xs) x (sym t) in
          (sym moved, o ∙ done-act s name c (meaning c (n + 1) xs) x ∙ sym (ap is_done moved))

  -- a node above branches that runs has been closed anew
  module _ (ys zs : List Stage) (b r : Bool) (begun : true ≡ is_begun (stage_at xs n)) (lt : n < length ys) (closes : (r ≡ b) × (zs ≡ slice_set ys n (closed_as b))) where
    closed-own : stage_at zs n ≡ closed_as b
    closed-own = ap (λ l. stage_at l n) closes.1 ∙ stage-set_same ys n (closed_as b) lt

    closed-within : (m : ℕ) → AgreeWithin (n + 1) m ys zs
    closed-within m = subst (λ l. AgreeWithin (n + 1) m ys l) (sym closes.1) (within-set ys n m (closed_as b))

    closed-outside : AgreeOutside (n + 1) (end_at ns n) xs ys → AgreeOutside n (end_at ns n) xs zs
    closed-outside h = subst (λ l. AgreeOutside n (end_at ns n) xs l) (sym closes.1) (own-outside ns doc vs xs n standing ys (closed_as b) h)

    closed-finished : is_finished (stage_at zs n) ≡ r
    closed-finished = ap is_finished closed-own ∙ finished-closed b ∙ sym closes.0

    closed-means : (was q t : Rest) → advance_by vs was ≡ t → b ≡ is_done t → (b ≡ false → q ≡ t)
        → (elim (is_begun (stage_at zs n)) as (λ _. Rest) [ true ↦ q | false ↦ done ] ≡ advance_by vs (elim (is_begun (stage_at xs n)) as (λ _. Rest) [ true ↦ was | false ↦ done ]))
        × (r ≡ is_done (advance_by vs (elim (is_begun (stage_at xs n)) as (λ _. Rest) [ true ↦ was | false ↦ done ])))
    closed-means was q t f e h =
        let ran = ap (advance_by vs) (chosen-true (is_begun (stage_at xs n)) was done (sym begun)) ∙ f in (
          ap (λ x. elim (is_begun x) as (λ _. Rest) [ true ↦ q | false ↦ done ]) closed-own ∙ begun-closed b q t e h ∙ sym ran,
          closes.0 ∙ e ∙ sym (ap is_done ran),
        )

    pub advanced-seq : kind_at ns n ≡ Seq → HasFirstAdvanced ns doc vs (n + 1) (end_at ns n) xs ys b → HasAdvanced ns doc vs n xs zs r
    advanced-seq e f =
        record {
          means = λ c h. go c (seq-at ns doc n e c h);
          own = closed-finished;
          outside = closed-outside f.outside;
        }
      where
        go : (c : Tree) → SeqAt ns doc n c → (meaning c n zs ≡ advance_by vs (meaning c n xs)) × (r ≡ is_done (advance_by vs (meaning c n xs)))
        go _ (seq_at ts a) =
            closed-means (meaning_of_branch ts (n + 1) xs) (meaning_of_branch ts (n + 1) zs) (advance_by vs (meaning_of_branch ts (n + 1) xs)) refl (f.means ts a).1
            (λ u. branch-agree ys zs ts (n + 1) (closed-within (n + 1 + count_of_each ts)) ∙ (f.means ts a).0)

    pub advanced-par : kind_at ns n ≡ Par → HasEachAdvanced ns doc vs (n + 1) (end_at ns n) true xs ys b → HasAdvanced ns doc vs n xs zs r
    advanced-par e f =
        record {
          means = λ c h. go c (par-at ns doc n e c h);
          own = closed-finished;
          outside = closed-outside f.outside;
        }
      where
        go : (c : Tree) → ParAt ns doc n c → (meaning c n zs ≡ advance_by vs (meaning c n xs)) × (r ≡ is_done (advance_by vs (meaning c n xs)))
        go _ (par_at ts a) =
            let moved = advance_each_by vs (meaning_each ts (n + 1) xs) in
            closed-means (in_par (meaning_each ts (n + 1) xs)) (in_par (meaning_each ts (n + 1) zs)) (joined moved) refl ((f.means ts a).1 ∙ sym (joins moved))
            (λ u. ap in_par (meaning_each-agree ys zs ts (n + 1) (closed-within (n + 1 + count_of_each ts)) ∙ (f.means ts a).0)
            ∙ joined-open moved (sym (f.means ts a).1 ∙ u))

    pub advanced-sel : (i : ℕ) → kind_at ns n ≡ Sel i → HasChoiceAdvanced ns doc vs (n + 1) (end_at ns n) xs ys b → HasAdvanced ns doc vs n xs zs r
    advanced-sel i e f =
        record {
          means = λ c h. go c (sel-at ns doc n i e c h);
          own = closed-finished;
          outside = closed-outside f.outside;
        }
      where
        go : (c : Tree) → SelAt ns doc n i c → (meaning c n zs ≡ advance_by vs (meaning c n xs)) × (r ≡ is_done (advance_by vs (meaning c n xs)))
        go _ (sel_at ch a) =
            closed-means (chosen ch (n + 1) xs) (chosen ch (n + 1) zs) (advance_by vs (chosen ch (n + 1) xs)) refl (f.means i ch a).1
            (λ u. chosen-agree ys zs ch (n + 1) (closed-within (n + 1 + count_of_choices ch)) ∙ (f.means i ch a).0 u)

  -- a loop that runs
  module _ (ys : List Stage) (k i left : ℕ) (e : kind_at ns n ≡ Loop k i) (runs_on : Some left ≡ turns_of (stage_at xs n)) where
    is-loop : (p : Condition) (body : Tree) → advance_by vs (meaning (loop k p body) n xs) ≡ turned_by vs left p body (advance_by vs (meaning body (n + 1) xs))
    is-loop p body = ap (λ o. advance_by vs (loop_as o p body (meaning body (n + 1) xs))) (sym runs_on)

    -- the last turn is over: no turn may follow, or the condition holds
    pub advanced-loop_over : n < length ys → (left ≡ 0) ⊎ (true ≡ condition_holds (condition_at doc i) vs) → HasAdvanced ns doc vs (n + 1) xs ys true → HasAdvanced ns doc vs n xs (slice_set ys n Finished) true
    advanced-loop_over lt last a =
        advanced-finish ys lt (loop-outside ns doc vs xs n standing ys k i e a.outside) (λ c h. go last c (loop-at ns doc n k i e c h))
      where
        go : (left ≡ 0) ⊎ (true ≡ condition_holds (condition_at doc i) vs) → (c : Tree) → LoopAt ns doc n k i c → advance_by vs (meaning c n xs) ≡ done
        go (inl z) _ (loop_at p body w q b) = is-loop p body ∙ turned-last vs left p body (advance_by vs (meaning body (n + 1) xs)) (sym (a.means body q).1) z
        go (inr z) _ (loop_at p body w q b) =
            is-loop p body ∙ turned-holds vs left p body (advance_by vs (meaning body (n + 1) xs)) (sym (a.means body q).1) (sym (z ∙ ap (λ d. condition_holds d vs) w))

    module _ (zs : List Stage) (more : left ≢ 0) (goes_on : false ≡ condition_holds (condition_at doc i) vs) (a : HasAdvanced ns doc vs (n + 1) xs ys true) (kept : length ys ≡ length ns) (lt : n < length zs) where
      is-next : (p : Condition) (body : Tree) → IsCondition doc i p → Stands ns doc (n + 1) body → advance_by vs (meaning (loop k p body) n xs) ≡ turning (pred left) p body (reach_by vs body)
      is-next p body w q = is-loop p body ∙ turned-more vs left p body (advance_by vs (meaning body (n + 1) xs)) (sym (a.means body q).1) (sym (goes_on ∙ ap (λ d. condition_holds d vs) w)) more

      both-outside : (f : Bool) → IsReached ns doc vs (n + 1) ys zs f → AgreeOutside (n + 1) (end_at ns n) xs zs
      both-outside f r j h = loop-outside ns doc vs ys n (kept, standing.1) zs k i e r.outside j h ∙ loop-outside ns doc vs xs n standing ys k i e a.outside j h

      -- the body is reached anew, and nothing of it is left to run
      advanced-loop_idle : IsReached ns doc vs (n + 1) ys zs true → HasAdvanced ns doc vs n xs (slice_set zs n Finished) true
      advanced-loop_idle r = advanced-finish zs lt (both-outside true r) (λ c h. go c (loop-at ns doc n k i e c h))
        where
          go : (c : Tree) → LoopAt ns doc n k i c → advance_by vs (meaning c n xs) ≡ done
          go _ (loop_at p body w q b) = is-next p body w q ∙ chosen-true (is_done (reach_by vs body)) done (in_loop (pred left) p body (reach_by vs body)) (sym (r.means body q).1)

      advanced-loop_next : IsReached ns doc vs (n + 1) ys zs false → HasAdvanced ns doc vs n xs (slice_set zs n (Turning (left - 1))) false
      advanced-loop_next r =
          record {
            means = λ c h. go c (loop-at ns doc n k i e c h);
            own = ap is_finished (stage-set_same zs n (Turning (left - 1)) lt);
            outside = own-outside ns doc vs xs n standing zs (Turning (left - 1)) (both-outside false r);
          }
        where
          go : (c : Tree) → LoopAt ns doc n k i c → (meaning c n (slice_set zs n (Turning (left - 1))) ≡ advance_by vs (meaning c n xs)) × (false ≡ is_done (advance_by vs (meaning c n xs)))
          go _ (loop_at p body w q b) =
              let turn = is-next p body w q ∙ chosen-false (is_done (reach_by vs body)) done (in_loop (pred left) p body (reach_by vs body)) (sym (r.means body q).1) in (
                ap (λ x. loop_as (turns_of x) p body (meaning body (n + 1) (slice_set zs n (Turning (left - 1))))) (stage-set_same zs n (Turning (left - 1)) lt)
                    ∙ ap (in_loop (left - 1) p body) (meaning-agree zs (slice_set zs n (Turning (left - 1))) body (n + 1) (within-set zs n (n + 1 + node_count body) (Turning (left - 1))) ∙ (r.means body q).0)
                    ∙ ap (λ j. in_loop j p body (reach_by vs body)) (sub-one left)
                    ∙ sym turn,
                sym (ap is_done turn),
              )

      pub advanced-loop_anew : (ws : List Stage) (b r : Bool) → IsReached ns doc vs (n + 1) ys zs b → (r ≡ b) × (ws ≡ slice_set zs n (looped_as b (left - 1))) → HasAdvanced ns doc vs n xs ws r
      advanced-loop_anew ws b r f closes = rw (closes.0, closes.1) (go b f)
        where
          go : (b : Bool) → IsReached ns doc vs (n + 1) ys zs b → HasAdvanced ns doc vs n xs (slice_set zs n (looped_as b (left - 1))) b
          go true f = advanced-loop_idle f
          go false f = advanced-loop_next f

-- the branches of a row

module _ (ns : List Entry) (doc : Recipe) (vs : ValueList) (xs : List Stage) (n m : ℕ) (ne : n ≢ m) (h : HaveTrees ns doc xs n m) where
  standing : HasTree ns doc xs n
  standing = first-standing ns doc xs n m ne h

  within-row : n ≤ end_at ns n
  within-row = omega (arith, below-end ns doc xs n standing)

  -- the first branch is finished already
  pub moved-later : (ys : List Stage) (b : Bool) → true ≡ is_finished (stage_at xs n) → HasFirstAdvanced ns doc vs (end_at ns n) m xs ys b → HasFirstAdvanced ns doc vs n m xs ys b
  moved-later ys b u a =
      record {
        means = λ ts q. go ts (row-at ns doc n m ne ts q);
        outside = outside-join xs xs ys n (end_at ns n) m within-row (first-end ns doc xs n m ne h) (outside-same xs n (end_at ns n)) a.outside;
      }
    where
      go : (ts : Trees) → RowAt ns doc n m ts → (meaning_of_branch ts n ys ≡ advance_by vs (meaning_of_branch ts n xs)) × (b ≡ is_done (advance_by vs (meaning_of_branch ts n xs)))
      go _ (row_at c ts p q e le) =
          let rest : (meaning_of_branch ts (n + node_count c) ys ≡ advance_by vs (meaning_of_branch ts (n + node_count c) xs)) × (b ≡ is_done (advance_by vs (meaning_of_branch ts (n + node_count c) xs))) =
          subst (λ i. (meaning_of_branch ts i ys ≡ advance_by vs (meaning_of_branch ts i xs)) × (b ≡ is_done (advance_by vs (meaning_of_branch ts i xs)))) e (a.means ts q) in
          let own : is_finished (stage_at ys n) ≡ true = ap is_finished (a.outside n (inl (below-end ns doc xs n standing))) ∙ sym u in
          let was = ap (advance_by vs) (chosen-true (is_finished (stage_at xs n)) (meaning_of_branch ts (n + node_count c) xs) (in_seq (meaning c n xs) ts) (sym u)) in (
            chosen-true (is_finished (stage_at ys n)) (meaning_of_branch ts (n + node_count c) ys) (in_seq (meaning c n ys) ts) own ∙ rest.0 ∙ sym was,
            rest.1 ∙ sym (ap is_done was),
          )

  -- the first branch gives way to the next
  pub moved-on : (ys zs : List Stage) (b : Bool) → false ≡ is_finished (stage_at xs n) → HasAdvanced ns doc vs n xs ys true → IsFirstReached ns doc vs (end_at ns n) m ys zs b → HasFirstAdvanced ns doc vs n m xs zs b
  moved-on ys zs b u a r =
      record {
        means = λ ts q. go ts (row-at ns doc n m ne ts q);
        outside = outside-join xs ys zs n (end_at ns n) m within-row (first-end ns doc xs n m ne h) a.outside r.outside;
      }
    where
      go : (ts : Trees) → RowAt ns doc n m ts → (meaning_of_branch ts n zs ≡ advance_by vs (meaning_of_branch ts n xs)) × (b ≡ is_done (advance_by vs (meaning_of_branch ts n xs)))
      go _ (row_at c ts p q e le) =
          let rest : meaning_of_branch ts (n + node_count c) zs ≡ reach_first_by vs ts = subst (λ i. meaning_of_branch ts i zs ≡ reach_first_by vs ts) e (r.means ts q).0 in
          let own : is_finished (stage_at zs n) ≡ true = ap is_finished (r.outside n (inl (below-end ns doc xs n standing))) ∙ a.own in
          let was =
          ap (advance_by vs) (chosen-false (is_finished (stage_at xs n)) (meaning_of_branch ts (n + node_count c) xs) (in_seq (meaning c n xs) ts) (sym u))
          ∙ chosen-true (is_done (advance_by vs (meaning c n xs))) (reach_first_by vs ts) (in_seq (advance_by vs (meaning c n xs)) ts) (sym (a.means c p).1) in (
            chosen-true (is_finished (stage_at zs n)) (meaning_of_branch ts (n + node_count c) zs) (in_seq (meaning c n zs) ts) own ∙ rest ∙ sym was,
            (r.means ts q).1 ∙ sym (ap is_done was),
          )

-- the branches of a selection

module _ (ns : List Entry) (doc : Recipe) (vs : ValueList) (xs : List Stage) (n m : ℕ) (h : HaveBranches ns doc xs n m) where
  pub chosen-last : (ys : List Stage) (b : Bool) → end_at ns n ≡ m → HasAdvanced ns doc vs n xs ys b → HasChoiceAdvanced ns doc vs n m xs ys b
  chosen-last ys b e a =
      record {
        means = λ i ch q. go ch (last-at ns doc i n m e ch q);
        outside = outside-part xs ys n (end_at ns n) m (choice-end ns doc xs h.0 n m h.1) a.outside;
      }
    where
      go : (ch : Choices) → LastAt ns doc n m ch → (b ≡ false → chosen ch n ys ≡ advance_by vs (chosen ch n xs)) × (b ≡ is_done (advance_by vs (chosen ch n xs)))
      go _ (last_at c q) = (λ u. (a.means c q).0, (a.means c q).1)

  pub chosen-later : (ys : List Stage) (b : Bool) → end_at ns n ≢ m → true ≡ is_finished (stage_at xs n) → HasChoiceAdvanced ns doc vs (end_at ns n) m xs ys b → HasChoiceAdvanced ns doc vs n m xs ys b
  chosen-later ys b ne u a =
      record {
        means = λ i ch q. go i ch (choice-at ns doc i n m ne ch q);
        outside = outside-join xs xs ys n (end_at ns n) m (omega (arith, below)) (choice-end ns doc xs h.0 n m h.1) (outside-same xs n (end_at ns n)) a.outside;
      }
    where
      below : n < end_at ns n
      below = below-end ns doc xs n (choice-standing ns doc xs h.0 n m h.1)

      go : (i : ℕ) (ch : Choices) → ChoiceAt ns doc i n m ch → (b ≡ false → chosen ch n ys ≡ advance_by vs (chosen ch n xs)) × (b ≡ is_done (advance_by vs (chosen ch n xs)))
      go i _ (choice_at p c ch q z later e k) =
          let rest = a.means (i + 1) ch later in
          let own : is_finished (stage_at ys n) ≡ true = ap is_finished (a.outside n (inl below)) ∙ sym u in
          let was =
          ap (advance_by vs) (chosen-true (is_finished (stage_at xs n)) (chosen ch (n + node_count c) xs) (meaning c n xs) (sym u)
          ∙ ap (λ z. chosen ch z xs) (sym e)) in (
            (λ f. chosen-true (is_finished (stage_at ys n)) (chosen ch (n + node_count c) ys) (meaning c n ys) own ∙ ap (λ z. chosen ch z ys) (sym e) ∙ rest.0 f ∙ sym was),
            rest.1 ∙ sym (ap is_done was),
          )

  pub chosen-here : (ys : List Stage) (b : Bool) → end_at ns n ≢ m → false ≡ is_finished (stage_at xs n) → HasAdvanced ns doc vs n xs ys b → HasChoiceAdvanced ns doc vs n m xs ys b
  chosen-here ys b ne u a =
      record {
        means = λ i ch q. go i ch (choice-at ns doc i n m ne ch q);
        outside = outside-part xs ys n (end_at ns n) m (choice-end ns doc xs h.0 n m h.1) a.outside;
      }
    where
      go : (i : ℕ) (ch : Choices) → ChoiceAt ns doc i n m ch → (b ≡ false → chosen ch n ys ≡ advance_by vs (chosen ch n xs)) × (b ≡ is_done (advance_by vs (chosen ch n xs)))
      go i _ (choice_at p c ch q z later e k) =
          let was = ap (advance_by vs) (chosen-false (is_finished (stage_at xs n)) (chosen ch (n + node_count c) xs) (meaning c n xs) (sym u)) in (
            (λ f. chosen-false (is_finished (stage_at ys n)) (chosen ch (n + node_count c) ys) (meaning c n ys) (a.own ∙ f) ∙ (a.means c z).0 ∙ sym was),
            (a.means c z).1 ∙ sym (ap is_done was),
          )
