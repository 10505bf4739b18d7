-- Going on from a finished node upwards: the conditions at each kind of node.
use Rattle.std.proofs.Common.{◌≡◌, ◌≢◌, ◌⊎◌, inl, inr, ◌<◌, ◌≤◌, ℕ, ◌+◌, ◌-◌, List, length, Bool, true, false, ◌&&◌, Some, arith, refl, sym, ◌∙◌, subst, ap, ap₂}
use Rattle.std.{specs.Prelude.slice_set, specs.Prelude.is_none, specs.Prelude.not, proofs.lemmas.Bool.cases_lt, proofs.lemmas.Bool.Decides.eqb_tells}
use Rattle.batch_recipe.{specs.Conditions.Name, specs.Conditions.ValueList, specs.Nodes.node_count, specs.Tree.Step, specs.Tree.follows, specs.Tree.Tree, specs.Tree.act, specs.Tree.skip, specs.Tree.Trees, specs.Tree.no_trees, specs.Tree.tree, specs.Tree.Choices, specs.Tree.otherwise, specs.Tree.choice, specs.declared.entry.Entry.Entry, proofs.NodeSubtrees.some_count, specs.declared.recipe.Recipe.Recipe}
use Rattle.batch_model.specs.{Rest.rest, Rest.is_done, Rest.all_done, Settled.IsAdvanced}
use Rattle.batch_step_laws.proofs.AdvancedRests.{advance-advanced}
use Rattle.batch_chart.{specs.declared.node.Kind.Kind, specs.declared.node.Kind.TheVariants.Skip, specs.declared.node.Kind.TheVariants.Act, specs.declared.node.Kind.TheVariants.Seq, specs.declared.node.Kind.TheVariants.Par, specs.declared.node.Kind.TheVariants.Sel, specs.declared.node.Kind.TheVariants.Loop, specs.declared.stage.Stage.Stage, specs.declared.stage.Stage.TheVariants.Finished, specs.Stages.stage_at, specs.Stages.is_finished, specs.Stages.is_begun, specs.Stages.is_over, specs.Stages.is_over_at, specs.Stages.turns_of, specs.Stages.closed_as, specs.Stages.looped_as, specs.Meaning.meaning, specs.Meaning.meaning_each, specs.Meaning.act_as, specs.Meaning.chosen, specs.Meaning.AgreeOutside, specs.Meaning.AgreeWithin, specs.Outlined.end_at, specs.Outlined.kind_at, specs.Outlined.condition_holds, specs.Outlined.Stands, specs.Outlined.AreStanding, specs.Outlined.AreChoices, specs.Outlined.HasTree, specs.Outlined.HaveTrees, specs.Outlined.HaveBranches, specs.Outlined.condition_at, specs.Parents.IsAbove, specs.Told.TellsWhetherOver, specs.Told.AreTold, specs.Reaching.IsReached, specs.Reaching.IsFirstReached, specs.Advancing.HasAdvanced, specs.Advancing.HasFirstAdvanced, specs.Advancing.HasEachAdvanced, specs.Advancing.HasChoiceAdvanced, specs.Climbing.all_finished, specs.Climbing.AreFinished, specs.Climbing.IsRisen, specs.Climbing.HasStopped, specs.Climbing.HasPassed, proofs.TreePositions.stood, proofs.TreePositions.stood-each, proofs.TreePositions.some-stands, proofs.TreePositions.nested, proofs.TreePositions.SkipAt, proofs.TreePositions.skip_at, proofs.TreePositions.skip-at, proofs.TreePositions.PhaseAt, proofs.TreePositions.phase_at, proofs.TreePositions.phase-at, proofs.TreePositions.ActAt, proofs.TreePositions.act_at, proofs.TreePositions.act-at, proofs.TreePositions.LoopAt, proofs.TreePositions.loop_at, proofs.TreePositions.loop-at, proofs.TreePositions.ChoiceAt, proofs.TreePositions.choice_at, proofs.TreePositions.choice-at, proofs.TreePositions.seq-standing, proofs.TreePositions.sel-standing, proofs.TreePositions.rest-standing, proofs.TreePositions.choices-standing, proofs.StageAgreement.meaning-agree, proofs.CalmChanges.advanced-still, proofs.KnownTests.chosen-false, proofs.ReachedTree.within-set, proofs.FinishedStages.nests, proofs.FinishedStages.nests-below, proofs.FinishedStages.told-one, proofs.FinishedStages.told-part, proofs.FinishedStages.told-same, proofs.FinishedStages.told-agree, proofs.TreeAdvance.unbegun-act, proofs.TreeAdvance.advanced-act_chart, proofs.TreeAdvance.advanced-act_still, proofs.TreeAdvance.advanced-seq, proofs.TreeAdvance.advanced-par, proofs.TreeAdvance.advanced-sel, proofs.TreeAdvance.advanced-loop_over, proofs.TreeAdvance.advanced-loop_anew, proofs.TreeAdvance.not-false, proofs.TreeAdvance.moved-later, proofs.TreeAdvance.moved-on, proofs.TreeAdvance.chosen-last, proofs.TreeAdvance.chosen-later, proofs.TreeAdvance.chosen-here, specs.ByValues.bare, specs.ByValues.advance_by, specs.ByValues.advance_each_by}
use Rattle.batch_chart.specs.declared.node.Kind.TheVariants as kind

-- tests of rows

pub both-true : (b x : Bool) → elim b as (λ _. Bool) [ true ↦ x | false ↦ false ] ≡ true → (b ≡ true) × (x ≡ true)
both-true true x e = (refl, e)
both-true false x e = absurd (cc)

one-false : (b x : Bool) → elim b as (λ _. Bool) [ true ↦ x | false ↦ false ] ≡ false → ((b ≡ true) × (x ≡ false)) ⊎ (b ≡ false)
one-false true x e = inl (refl, e)
one-false false x e = inr refl

both-and : (b d x y : Bool) → b ≡ d → x ≡ y → elim b as (λ _. Bool) [ true ↦ x | false ↦ false ] ≡ (d && y)
both-and true true x y e f = f
both-and false false x y e f = refl
both-and x1 x2 x3 x4 x5 x6 = absurd (grind arith)

pub unover-left : (κ : Kind) (x : Stage) → is_over_at κ x ≡ false → is_finished x ≡ false
unover-left x1 x2 x3 = grind arith

-- the branches before n, and those from n on

module _ (ns : List Entry) (doc : Recipe) (n : ℕ) where
  abbrev EndsBy : ℕ → Type 0
  EndsBy i = (m : ℕ) → i ≤ m → m < n → end_at ns m ≤ n

  later-ends : (i j : ℕ) → i ≤ j → EndsBy i → EndsBy j
  later-ends i j le h m a b = h m (omega arith) b

  pub split-row : (ts : Trees) (i j : ℕ) → AreStanding ns doc i j ts → i ≤ n → n < j → EndsBy i → (us : Trees) × (os : Trees) × AreStanding ns doc i n us × AreStanding ns doc n j os
  split-row no_trees i j h a b ends = absurd (omega (arith, h))
  split-row (tree c ts) i j h a b ends = elim (eqb_tells i n) [
    | inl q ↦ (no_trees, tree c ts, q.1, subst (λ z. AreStanding ns doc z j (tree c ts)) q.1 h)
    | inr q ↦
        let d = q.1 in
        let e : i + node_count c ≤ n = omega (arith, ends i (omega arith) (omega arith), (stood ns doc i c h.0).end) in
        let more = split-row ts (i + node_count c) j h.1 e b (later-ends i (i + node_count c) (omega arith) ends) in
        (tree c more.0, more.1, (h.0, more.2), more.3)
  ]

  pub split-choices : (ch : Choices) (k i j : ℕ) → AreChoices ns doc k i j ch → i ≤ n → n < j → EndsBy i → (us : Trees) × (m : ℕ) × (os : Choices) × AreStanding ns doc i n us × AreChoices ns doc m n j os
  split-choices (otherwise c) k i j h a b ends = elim (eqb_tells i n) [
    | inl q ↦ (no_trees, k, otherwise c, q.1, subst (λ z. AreChoices ns doc k z j (otherwise c)) q.1 h)
    | inr q ↦ let d = q.1 in absurd (omega (arith, h.1, ends i (omega arith) (omega arith), (stood ns doc i c h.0).end))
  ]
  split-choices (choice p c ch) k i j h a b ends = elim (eqb_tells i n) [
    | inl q ↦ (no_trees, k, choice p c ch, q.1, subst (λ z. AreChoices ns doc k z j (choice p c ch)) q.1 h)
    | inr q ↦
        let d = q.1 in
        let e : i + node_count c ≤ n = omega (arith, ends i (omega arith) (omega arith), (stood ns doc i c h.1).end) in
        let more = split-choices ch (k + 1) (i + node_count c) j h.2 e b (later-ends i (i + node_count c) (omega arith) ends) in
        (tree c more.0, more.1, more.2, (h.1, more.3), more.4)
  ]

-- the node at p is above that at n

module _ (ns : List Entry) (doc : Recipe) (p n : ℕ) (ys : List Stage) (standing : HasTree ns doc ys p) (above : IsAbove ns p n) where
  p-end : end_at ns p ≡ p + node_count standing.1.0
  p-end = (stood ns doc p standing.1.0 standing.1.1).end

  p-fits : end_at ns p ≤ length ns
  p-fits = omega (arith, p-end, (stood ns doc p standing.1.0 standing.1.1).fits)

  n-stands : (c : Tree) × Stands ns doc n c
  n-stands = some-stands ns doc n standing.1.0 p standing.1.1 (omega (arith, above.before)) (omega (arith, above.past, p-end))

  n-end : end_at ns n ≤ end_at ns p
  n-end = let e : end_at ns n ≤ p + node_count standing.1.0 = nested ns doc n standing.1.0 p standing.1.1 (omega (arith, above.before)) (omega (arith, above.past, p-end)) in omega (arith, p-end)

  n-below : n < end_at ns n
  n-below = omega (arith, (stood ns doc n n-stands.0 n-stands.1).end, some_count n-stands.0)

  -- the only tree below a node is at the next one
  pub only-child : (d : Tree) → Stands ns doc (p + 1) d → end_at ns p ≡ p + (1 + node_count d) → n ≡ p + 1
  only-child d s e =
      elim (cases_lt (p + 1) n) [
        | inl lt ↦ absurd (omega (arith, above.between (p + 1) (omega arith) lt, (stood ns doc (p + 1) d s).end, above.past, e))
        | inr le ↦ omega (arith, above.before)
      ]

  pub no-skip : kind_at ns p ≡ Skip → ⊥
  no-skip e = go standing.1.0 (skip-at ns doc p e standing.1.0 standing.1.1) standing.1.1
    where
      go : (c : Tree) → SkipAt ns doc p c → Stands ns doc p c → ⊥
      go _ skip_at s = absurd (omega (arith, (stood ns doc p skip s).end, above.before, above.past))

  pub no-phase : (k i : ℕ) → kind_at ns p ≡ kind.Phase k i → ⊥
  no-phase k i e = go standing.1.0 (phase-at ns doc p k i e standing.1.0 standing.1.1)
    where
      go : (c : Tree) → PhaseAt ns doc p k i c → ⊥
      go _ (phase_at s q a f g) = absurd (omega (arith, f, above.before, above.past))

  pub n-standing : HasTree ns doc ys n
  n-standing = (standing.0, n-stands)

  pub loop-child : (k i : ℕ) → kind_at ns p ≡ Loop k i → (n ≡ p + 1) × (end_at ns n ≡ end_at ns p)
  loop-child k i e = go standing.1.0 (loop-at ns doc p k i e standing.1.0 standing.1.1)
    where
      go : (c : Tree) → LoopAt ns doc p k i c → (n ≡ p + 1) × (end_at ns n ≡ end_at ns p)
      go _ (loop_at q body w s f) =
          let at : n ≡ p + 1 = only-child body s f in
          (at, ap (end_at ns) at ∙ omega (arith, f, (stood ns doc (p + 1) body s).end))

  ends-by : (m : ℕ) → p + 1 ≤ m → m < n → end_at ns m ≤ n
  ends-by m a b = above.between m (omega arith) b

  seq-split : kind_at ns p ≡ Seq → (us : Trees) × (os : Trees) × AreStanding ns doc (p + 1) n us × AreStanding ns doc n (end_at ns p) os
  seq-split e = let k = seq-standing ns doc ys ys p standing e standing.0 in split-row ns doc n k.1.0 (p + 1) (end_at ns p) k.1.1 (omega (arith, above.before)) above.past ends-by

  sel-split : (i : ℕ) → kind_at ns p ≡ Sel i → (us : Trees) × (m : ℕ) × (os : Choices) × AreStanding ns doc (p + 1) n us × AreChoices ns doc m n (end_at ns p) os
  sel-split i e = let k = sel-standing ns doc ys ys p i standing e standing.0 in split-choices ns doc n k.1.0 i (p + 1) (end_at ns p) k.1.1 (omega (arith, above.before)) above.past ends-by

  pub seq-rest : kind_at ns p ≡ Seq → HaveTrees ns doc ys (end_at ns n) (end_at ns p)
  seq-rest e =
      let k = seq-split e in
      let ne : n ≢ end_at ns p = λ q. absurd (omega (arith, above.past)) in
      rest-standing ns doc ys ys n (end_at ns p) ne (standing.0, (k.1, k.3)) standing.0

  -- the subtrees from p on end at n's end
  nest-n : (j : ℕ) (c : Tree) → p < j → j < end_at ns n → Stands ns doc j c → j + node_count c ≤ end_at ns n
  nest-n j c a b s = go (cases_lt j n)
    where
      go : (j < n) ⊎ (n ≤ j) → j + node_count c ≤ end_at ns n
      go (inl u) = omega (arith, above.between j a u, (stood ns doc j c s).end, n-below)
      go (inr u) = nests ns doc n n-stands.0 n-stands.1 j c u b s

-- the tree at n, a branch of the node at p, has been finished

module _ (ns : List Entry) (doc : Recipe) (vs : ValueList) (p n : ℕ) (ys : List Stage) (standing : HasTree ns doc ys p) (above : IsAbove ns p n) (xs ws : List Stage) (r : IsRisen ns doc vs xs ws n ys) where
  fits-p : end_at ns p ≤ length ns
  fits-p = p-fits ns doc p n ys standing above

  end-n : end_at ns n ≤ end_at ns p
  end-n = n-end ns doc p n ys standing above

  below-n : n < end_at ns n
  below-n = n-below ns doc p n ys standing above

  then-standing : HasTree ns doc ws p
  then-standing = (r.after, standing.1)

  was-own : stage_at ws p ≡ stage_at xs p
  was-own = r.same p (inl above.before)

  is-own : stage_at ys p ≡ stage_at ws p
  is-own = r.advanced.outside p (inl above.before)

  wide : AgreeOutside p (end_at ns p) xs ws
  wide k (inl q) = r.same k (inl (omega (arith, above.before)))
  wide k (inr q) = r.same k (inr (omega (arith, end-n)))

  wide-now : AgreeOutside p (end_at ns p) ws ys
  wide-now k (inl q) = r.advanced.outside k (inl (omega (arith, above.before)))
  wide-now k (inr q) = r.advanced.outside k (inr (omega (arith, end-n)))

  -- all below p tell
  pub told-under : AreTold ns doc (p + 1) (end_at ns p) ys
  told-under j c a b s = go (cases_lt j n) (cases_lt j (end_at ns n))
    where
      was : TellsWhetherOver c j xs
      was = r.told j c (omega arith) (omega (arith, fits-p)) s

      go : (j < n) ⊎ (n ≤ j) → (j < end_at ns n) ⊎ (end_at ns n ≤ j) → TellsWhetherOver c j ys
      go (inl u) v =
          let e : j + node_count c ≤ n = omega (arith, above.between j (omega arith) u, (stood ns doc j c s).end) in
          told-agree ns doc c j xs ys (λ k f g. r.advanced.outside k (inl (omega arith)) ∙ r.same k (inl (omega arith))) was
      go (inr u) (inl v) = r.below j c u v s
      go (inr u) (inr v) = told-agree ns doc c j xs ys (λ k f g. r.advanced.outside k (inr (omega arith)) ∙ r.same k (inr (omega arith))) was

  -- p's own stage is written last
  set-under : (zs us : List Stage) (v : Stage) → us ≡ slice_set zs p v → AreTold ns doc (p + 1) (end_at ns p) zs → AreTold ns doc (p + 1) (end_at ns p) us
  set-under zs us v e h =
      told-same ns doc (p + 1) (end_at ns p) zs us (nests-below ns doc p (p + 1) (end_at ns p) (omega arith) (nests ns doc p standing.1.0 standing.1.1))
      (subst (λ l. AgreeWithin (p + 1) (end_at ns p) zs l) (sym e) (within-set zs p (end_at ns p) v)) h

  whole : (zs : List Stage) (b : Bool) → HasAdvanced ns doc vs p ws zs b → AreTold ns doc (p + 1) (end_at ns p) zs → AreTold ns doc p (end_at ns p) zs
  whole zs b a h =
      told-one ns doc p (end_at ns p) zs
      (λ c s. (let m = a.means c s in record { finished = a.own ∙ m.1 ∙ sym (ap is_done m.0); advanced = subst IsAdvanced (sym m.0) (advance-advanced (bare vs) (meaning c p ws)) }))
      h

  passed : (zs : List Stage) (b : Bool) → is_finished (stage_at ws p) ≡ false → HasAdvanced ns doc vs p ws zs b → AreTold ns doc (p + 1) (end_at ns p) zs → HasPassed ns doc vs xs ws p zs b
  passed zs true l a h = record { before = r.before; after = r.after; told = r.told; same = wide; left = l; advanced = a; below = whole zs true a h }
  passed zs false l a h = record { finished = false; told = r.told; same = wide; stage = was-own; kept = a.own ∙ sym l; advanced = a; below = whole zs false a h }

  -- p is left
  module _ (κ : Kind) (e : kind_at ns p ≡ κ) (o : false ≡ is_over_at κ (stage_at ys p)) where
    left-own : is_finished (stage_at ws p) ≡ false
    left-own = unover-left κ (stage_at ws p) (sym (o ∙ ap (is_over_at κ) is-own))

    pub passed-as : (zs : List Stage) (b : Bool) → HasAdvanced ns doc vs p ws zs b → AreTold ns doc (p + 1) (end_at ns p) zs → HasPassed ns doc vs xs ws p zs b
    passed-as zs b a h = passed zs b left-own a h

  -- an act with a chart waits until it is ended
  pub passed-act : (k : ℕ) → kind_at ns p ≡ Act k → false ≡ is_over (stage_at ys p) → HasStopped ns doc vs xs ws p ys
  passed-act k e o = go standing.1.0 (act-at ns doc p k e standing.1.0 standing.1.1) (is_begun (stage_at ws p)) refl
    where
      still : (s : Step) (m : Name) (d : Tree) → is_begun (stage_at ws p) ≡ false → meaning (act s (follows m d)) p ys ≡ meaning (act s (follows m d)) p ws
      still s m d q = ap (act_as s (follows m d) (meaning d (p + 1) ys)) is-own ∙ unbegun-act s (follows m d) (meaning d (p + 1) ys) (meaning d (p + 1) ws) (stage_at ws p) q

      alone : (c : Tree) → ActAt ns doc p k c → is_begun (stage_at ws p) ≡ false → meaning c p ys ≡ meaning c p ws
      alone _ (act_at s m d a f g) q = still s m d q

      unbegun : is_begun (stage_at ws p) ≡ false → HasAdvanced ns doc vs p ws ys false
      unbegun q =
          let a : HasAdvanced ns doc vs p ws ws false = advanced-act_still ns doc vs ws p then-standing k e (sym q) (o ∙ ap is_over is-own) in
          record {
            means = λ c s. (let m = a.means c s in (alone c (act-at ns doc p k e c s) q ∙ m.0, m.1));
            own = ap is_finished is-own ∙ a.own;
            outside = wide-now;
          }

      go : (c : Tree) → ActAt ns doc p k c → (b : Bool) → is_begun (stage_at ws p) ≡ b → HasStopped ns doc vs xs ws p ys
      go _ (act_at s m d a f g) true q =
          let at : n ≡ p + 1 = only-child ns doc p n ys standing above d a f in
          passed-as (Act k) e o ys false (advanced-act_chart ns doc vs ws p then-standing ys k true e (sym q) (subst (λ z. HasAdvanced ns doc vs z ws ys true) at r.advanced)) told-under
      go _ (act_at s m d a f g) false q = passed-as (Act k) e o ys false (unbegun q) told-under

  -- rows

  off-own : (i : ℕ) → (i < n) ⊎ (end_at ns n ≤ i) → stage_at ys i ≡ stage_at ws i
  off-own i q = r.advanced.outside i q

  off-was : (i : ℕ) → (i < n) ⊎ (end_at ns n ≤ i) → stage_at ws i ≡ stage_at xs i
  off-was i q = r.same i q

  -- a tree beside the one at n
  beside : (c : Tree) (i : ℕ) → Stands ns doc i c → (i + node_count c ≤ n) ⊎ (end_at ns n ≤ i) → (meaning c i ys ≡ meaning c i ws) × (meaning c i ws ≡ meaning c i xs) × (stage_at ws i ≡ stage_at xs i) × (stage_at ys i ≡ stage_at ws i)
  beside c i s (inl q) = (
    meaning-agree ws ys c i (λ k a b. off-own k (inl (omega arith))),
    meaning-agree xs ws c i (λ k a b. off-was k (inl (omega arith))),
    off-was i (inl (omega (arith, some_count c))),
    off-own i (inl (omega (arith, some_count c))),
  )
  beside c i s (inr q) = (
    meaning-agree ws ys c i (λ k a b. off-own k (inr (omega arith))),
    meaning-agree xs ws c i (λ k a b. off-was k (inr (omega arith))),
    off-was i (inr q),
    off-own i (inr q),
  )

  -- it tells, and stays
  stays : (c : Tree) (i : ℕ) → Stands ns doc i c → (i + node_count c ≤ n) ⊎ (end_at ns n ≤ i) → IsAdvanced (meaning c i ws) × (is_finished (stage_at ys i) ≡ is_done (meaning c i ws)) × (meaning c i ys ≡ meaning c i ws)
  stays c i s q =
      let b = beside c i s q in
      let was = r.told i c (omega arith) (stood ns doc i c s).within s in (
        subst IsAdvanced (sym b.1) was.advanced,
        ap is_finished (b.3 ∙ b.2) ∙ was.finished ∙ sym (ap is_done b.1),
        b.0,
      )

  outside-row : (i j : ℕ) → i ≤ n → end_at ns n ≤ j → AgreeOutside i j ws ys
  outside-row i j a b k (inl q) = r.advanced.outside k (inl (omega arith))
  outside-row i j a b k (inr q) = r.advanced.outside k (inr (omega arith))

  went-row : (us : Trees) (i j : ℕ) → AreStanding ns doc i n us → HaveTrees ns doc ws i j → end_at ns n ≤ j → all_finished us i ys ≡ true → (zs : List Stage) (b : Bool) → HasFirstAdvanced ns doc vs n j ws zs b → HasFirstAdvanced ns doc vs i j ws zs b
  went-row no_trees i j h k fits f zs b a = subst (λ z. HasFirstAdvanced ns doc vs z j ws zs b) (sym h) a
  went-row (tree c us) i j h k fits f zs b a =
      let e = (stood ns doc i c h.0).end in
      let lt : i < n = omega (arith, stood-each ns doc (i + node_count c) n us h.1, some_count c) in
      let ne : i ≢ j = λ q. absurd (omega (arith, below-n)) in
      let q = both-true (is_finished (stage_at ys i)) (all_finished us (i + node_count c) ys) f in
      moved-later ns doc vs ws i j ne k zs b (sym q.0 ∙ ap is_finished (off-own i (inl lt)))
      (subst (λ z. HasFirstAdvanced ns doc vs z j ws zs b) (sym e)
      (went-row us (i + node_count c) j h.1 (subst (λ z. HaveTrees ns doc ws z j) e (rest-standing ns doc ws ws i j ne k r.after)) fits q.1 zs b a))

  -- the same of a selection

  stuck-choice : (i j : ℕ) → end_at ns i ≢ j → end_at ns i ≤ n → i < n → end_at ns n ≤ j → is_finished (stage_at ys i) ≡ false → HasChoiceAdvanced ns doc vs i j ws ys false
  stuck-choice i j ne le lt fits u =
      record { means = λ m ch q. go m ch (choice-at ns doc m i j ne ch q); outside = outside-row i j (omega arith) fits }
    where
      go : (m : ℕ) (ch : Choices) → ChoiceAt ns doc m i j ch → (false ≡ false → chosen ch i ys ≡ advance_by vs (chosen ch i ws)) × (false ≡ is_done (advance_by vs (chosen ch i ws)))
      go m _ (choice_at w c ch q s later e f) =
          let k = stays c i s (inl (omega (arith, e))) in
          let unfinished : is_finished (stage_at ws i) ≡ false = ap is_finished (sym (off-own i (inl lt))) ∙ u in
          let was = chosen-false (is_finished (stage_at ws i)) (chosen ch (i + node_count c) ws) (meaning c i ws) unfinished in
          let on = ap (advance_by vs) was ∙ advanced-still (bare vs) (meaning c i ws) k.0 in (
            λ z. chosen-false (is_finished (stage_at ys i)) (chosen ch (i + node_count c) ys) (meaning c i ys) u ∙ k.2 ∙ sym on,
            sym (ap is_done on ∙ sym k.1 ∙ u),
          )

  not-chosen : (us : Trees) (i j : ℕ) → AreStanding ns doc i n us → HaveBranches ns doc ws i j → end_at ns n ≤ j → all_finished us i ys ≡ false → HasChoiceAdvanced ns doc vs i j ws ys false
  not-chosen no_trees i j h k fits f = absurd (cc)
  not-chosen (tree c us) i j h k fits f =
      let e = (stood ns doc i c h.0).end in
      let l : i + node_count c ≤ n = omega (arith, stood-each ns doc (i + node_count c) n us h.1) in
      let lt : i < n = omega (arith, some_count c) in
      let ne : end_at ns i ≢ j = λ q. absurd (omega (arith, below-n, e)) in
      let later : HaveBranches ns doc ws (end_at ns i) j = (k.0 + 1, choices-standing ns doc ws ws k.0 i j ne k.1 r.after) in
      elim (one-false (is_finished (stage_at ys i)) (all_finished us (i + node_count c) ys) f) [
        | inl q ↦
            chosen-later ns doc vs ws i j k ys false ne (sym q.0 ∙ ap is_finished (off-own i (inl lt)))
            (subst (λ z. HasChoiceAdvanced ns doc vs z j ws ys false) (sym e)
            (not-chosen us (i + node_count c) j h.1 (subst (λ z. HaveBranches ns doc ws z j) e later) fits q.1))
        | inr q ↦ stuck-choice i j ne (omega (arith, e)) lt fits q
      ]

  went-choices : (us : Trees) (i j : ℕ) → AreStanding ns doc i n us → HaveBranches ns doc ws i j → end_at ns n ≤ j → all_finished us i ys ≡ true → HasChoiceAdvanced ns doc vs n j ws ys true → HasChoiceAdvanced ns doc vs i j ws ys true
  went-choices no_trees i j h k fits f a = subst (λ z. HasChoiceAdvanced ns doc vs z j ws ys true) (sym h) a
  went-choices (tree c us) i j h k fits f a =
      let e = (stood ns doc i c h.0).end in
      let l : i + node_count c ≤ n = omega (arith, stood-each ns doc (i + node_count c) n us h.1) in
      let lt : i < n = omega (arith, some_count c) in
      let ne : end_at ns i ≢ j = λ q. absurd (omega (arith, below-n, e)) in
      let later : HaveBranches ns doc ws (end_at ns i) j = (k.0 + 1, choices-standing ns doc ws ws k.0 i j ne k.1 r.after) in
      let q = both-true (is_finished (stage_at ys i)) (all_finished us (i + node_count c) ys) f in
      chosen-later ns doc vs ws i j k ys true ne (sym q.0 ∙ ap is_finished (off-own i (inl lt)))
      (subst (λ z. HasChoiceAdvanced ns doc vs z j ws ys true) (sym e)
      (went-choices us (i + node_count c) j h.1 (subst (λ z. HaveBranches ns doc ws z j) e later) fits q.1 a))

  -- and of branches side by side

  each-went : (ts : Trees) (i j : ℕ) → AreStanding ns doc i j ts → p < i → (i ≤ n) ⊎ (end_at ns n ≤ i)
      → (meaning_each ts i ys ≡ advance_each_by vs (meaning_each ts i ws)) × (all_finished ts i ys ≡ all_done (advance_each_by vs (meaning_each ts i ws)))
  each-went no_trees i j h lt q = (refl, refl)
  each-went (tree c ts) i j h lt q =
      let e = (stood ns doc i c h.0).end in
      let one : (meaning c i ys ≡ advance_by vs (meaning c i ws)) × (is_finished (stage_at ys i) ≡ is_done (advance_by vs (meaning c i ws))) × ((i + node_count c ≤ n) ⊎ (end_at ns n ≤ i + node_count c)) =
      elim (eqb_tells i n) [
        | inl f ↦ at-n c i f.1 h.0
        | inr f ↦ off-n c i f.1 h.0 lt q
      ] in
      let more = each-went ts (i + node_count c) j h.1 (omega arith) one.2 in (
        ap₂ rest one.0 more.0,
        both-and (is_finished (stage_at ys i)) (is_done (advance_by vs (meaning c i ws))) (all_finished ts (i + node_count c) ys) (all_done (advance_each_by vs (meaning_each ts (i + node_count c) ws))) one.1 more.1,
      )
    where
      at-n : (c : Tree) (i : ℕ) → i ≡ n → Stands ns doc i c → (meaning c i ys ≡ advance_by vs (meaning c i ws)) × (is_finished (stage_at ys i) ≡ is_done (advance_by vs (meaning c i ws))) × ((i + node_count c ≤ n) ⊎ (end_at ns n ≤ i + node_count c))
      at-n c i f s =
          let here : Stands ns doc n c = subst (λ z. Stands ns doc z c) f s in
          let m = r.advanced.means c here in
          subst (λ z. (meaning c z ys ≡ advance_by vs (meaning c z ws)) × (is_finished (stage_at ys z) ≡ is_done (advance_by vs (meaning c z ws))) × ((z + node_count c ≤ n) ⊎ (end_at ns n ≤ z + node_count c))) (sym f)
          (m.0, r.advanced.own ∙ m.1, inr (omega (arith, (stood ns doc n c here).end)))

      off-n : (c : Tree) (i : ℕ) → i ≢ n → Stands ns doc i c → p < i → (i ≤ n) ⊎ (end_at ns n ≤ i) → (meaning c i ys ≡ advance_by vs (meaning c i ws)) × (is_finished (stage_at ys i) ≡ is_done (advance_by vs (meaning c i ws))) × ((i + node_count c ≤ n) ⊎ (end_at ns n ≤ i + node_count c))
      off-n c i ne s lt (inl le) =
          let by : i + node_count c ≤ n = omega (arith, above.between i lt (omega arith), (stood ns doc i c s).end) in
          let k = stays c i s (inl by) in
          let on = advanced-still (bare vs) (meaning c i ws) k.0 in
          (k.2 ∙ sym on, k.1 ∙ sym (ap is_done on), inl by)
      off-n c i ne s lt (inr le) =
          let k = stays c i s (inr le) in
          let on = advanced-still (bare vs) (meaning c i ws) k.0 in
          (k.2 ∙ sym on, k.1 ∙ sym (ap is_done on), inr (omega arith))

  each-advanced : (b : Bool) → AreFinished ns doc (p + 1) (end_at ns p) ys b → HasEachAdvanced ns doc vs (p + 1) (end_at ns p) true ws ys b
  each-advanced b f =
      record {
        means = λ ts h. (let w = each-went ts (p + 1) (end_at ns p) h (omega arith) (inl (omega (arith, above.before))) in (w.0, f.means ts h ∙ w.1));
        outside = outside-row (p + 1) (end_at ns p) (omega (arith, above.before)) end-n;
      }

  -- the node at p, closed anew

  then-begun : false ≡ not (is_begun (stage_at ys p)) → true ≡ is_begun (stage_at ws p)
  then-begun o = not-false (is_begun (stage_at ys p)) o ∙ ap is_begun is-own

  pub passed-par : (zs : List Stage) (b t : Bool) → p < length ys → (t ≡ b) × (zs ≡ slice_set ys p (closed_as b)) → kind_at ns p ≡ Par → false ≡ is_over_at Par (stage_at ys p) → AreFinished ns doc (p + 1) (end_at ns p) ys b
      → HasPassed ns doc vs xs ws p zs t
  passed-par zs b t lt closes e o f =
      passed-as Par e o zs t (advanced-par ns doc vs ws p then-standing ys zs b t (then-begun o) lt closes e (each-advanced b f)) (set-under ys zs (closed_as b) closes.1 told-under)

  sel-advanced : (i : ℕ) → kind_at ns p ≡ Sel i → (b : Bool) → AreFinished ns doc (p + 1) n ys b → HasChoiceAdvanced ns doc vs (p + 1) (end_at ns p) ws ys b
  sel-advanced i e b f = go b (f.means k.0 k.3)
    where
      k : (us : Trees) × (m : ℕ) × (os : Choices) × AreStanding ns doc (p + 1) n us × AreChoices ns doc m n (end_at ns p) os
      k = sel-split ns doc p n ys standing above i e

      all : HaveBranches ns doc ws (p + 1) (end_at ns p)
      all = (i, sel-standing ns doc ws ws p i then-standing e r.after)

      own : HaveBranches ns doc ws n (end_at ns p)
      own = (k.1, (r.after, (k.2, k.4)))

      base : HasChoiceAdvanced ns doc vs n (end_at ns p) ws ys true
      base = elim (eqb_tells (end_at ns n) (end_at ns p)) [
        | inl q ↦ chosen-last ns doc vs ws n (end_at ns p) own ys true q.1 r.advanced
        | inr q ↦ chosen-here ns doc vs ws n (end_at ns p) own ys true q.1 (sym r.left) r.advanced
      ]

      go : (b : Bool) → b ≡ all_finished k.0 (p + 1) ys → HasChoiceAdvanced ns doc vs (p + 1) (end_at ns p) ws ys b
      go true q = went-choices k.0 (p + 1) (end_at ns p) k.3 all end-n (sym q) base
      go false q = not-chosen k.0 (p + 1) (end_at ns p) k.3 all end-n (sym q)

  pub passed-sel : (i : ℕ) (zs : List Stage) (b t : Bool) → p < length ys → (t ≡ b) × (zs ≡ slice_set ys p (closed_as b)) → kind_at ns p ≡ Sel i → false ≡ is_over_at (Sel i) (stage_at ys p) → AreFinished ns doc (p + 1) n ys b
      → HasPassed ns doc vs xs ws p zs t
  passed-sel i zs b t lt closes e o f =
      passed-as (Sel i) e o zs t (advanced-sel ns doc vs ws p then-standing ys zs b t (then-begun o) lt closes i e (sel-advanced i e b f)) (set-under ys zs (closed_as b) closes.1 told-under)

  module _ (e : kind_at ns p ≡ Seq) (o : false ≡ is_over_at Seq (stage_at ys p)) where
    parts : (us : Trees) × (os : Trees) × AreStanding ns doc (p + 1) n us × AreStanding ns doc n (end_at ns p) os
    parts = seq-split ns doc p n ys standing above e

    row : HaveTrees ns doc ws (p + 1) (end_at ns p)
    row = seq-standing ns doc ws ws p then-standing e r.after

    -- the next one is reached
    pub passed-on : (f : Bool) → f ≡ true → AreFinished ns doc (p + 1) n ys f → (zs us : List Stage) (b t : Bool) → p < length zs → IsFirstReached ns doc vs (end_at ns n) (end_at ns p) ys zs b
        → (t ≡ b) × (us ≡ slice_set zs p (closed_as b)) → HasPassed ns doc vs xs ws p us t
    passed-on f over a zs us b t lt reached closes =
        let ne : n ≢ end_at ns p = λ q. absurd (omega (arith, above.past)) in
        let on = moved-on ns doc vs ws n (end_at ns p) ne (r.after, (parts.1, parts.3)) ys zs b (sym r.left) r.advanced reached in
        passed-as Seq e o us t
        (advanced-seq ns doc vs ws p then-standing zs us b t (then-begun o) lt closes e
        (went-row parts.0 (p + 1) (end_at ns p) parts.2 row end-n (sym (a.means parts.0 parts.2) ∙ over) zs b on))
        (set-under zs us (closed_as b) closes.1 later)
      where
        later : AreTold ns doc (p + 1) (end_at ns p) zs
        later j c u v s = elim (cases_lt j (end_at ns n)) [
          | inl w ↦ told-agree ns doc c j ys zs (λ k g h. reached.outside k (inl (let q = nest-n ns doc p n ys standing above j c (omega arith) w s in omega arith))) (told-under j c u v s)
          | inr w ↦ reached.told (told-part ns doc (p + 1) (end_at ns p) (end_at ns n) (end_at ns p) ys (omega (arith, below-n, above.before)) (omega arith) told-under) j c w v s
        ]

  module _ (k i left : ℕ) (e : kind_at ns p ≡ Loop k i) (runs_on : Some left ≡ turns_of (stage_at ys p)) where
    child : (n ≡ p + 1) × (end_at ns n ≡ end_at ns p)
    child = loop-child ns doc p n ys standing above k i e

    unover : false ≡ is_over_at (Loop k i) (stage_at ys p)
    unover = ap is_none runs_on

    body-over : HasAdvanced ns doc vs (p + 1) ws ys true
    body-over = subst (λ z. HasAdvanced ns doc vs z ws ys true) child.0 r.advanced

    then-runs : Some left ≡ turns_of (stage_at ws p)
    then-runs = runs_on ∙ ap turns_of is-own

    pub passed-last : p < length ys → (left ≡ 0) ⊎ (true ≡ condition_holds (condition_at doc i) vs) → IsRisen ns doc vs xs ws p (slice_set ys p Finished)
    passed-last lt last =
        passed-as (Loop k i) e unover (slice_set ys p Finished) true (advanced-loop_over ns doc vs ws p then-standing ys k i left e then-runs lt last body-over)
        (set-under ys (slice_set ys p Finished) Finished refl told-under)

    pub passed-round : left ≢ 0 → false ≡ condition_holds (condition_at doc i) vs → (zs us : List Stage) (b t : Bool) → p < length zs → IsReached ns doc vs n ys zs b → (t ≡ b) × (us ≡ slice_set zs p (looped_as b (left - 1)))
        → HasPassed ns doc vs xs ws p us t
    passed-round more goes_on zs us b t lt reached closes =
        passed-as (Loop k i) e unover us t
        (advanced-loop_anew ns doc vs ws p then-standing ys k i left e then-runs zs more goes_on body-over standing.0 lt us b t (subst (λ z. IsReached ns doc vs z ys zs b) child.0 reached) closes)
        (set-under zs us (looped_as b (left - 1)) closes.1
        (told-part ns doc n (end_at ns n) (p + 1) (end_at ns p) zs (omega (arith, child.0)) (omega (arith, child.1))
        (reached.told (told-part ns doc (p + 1) (end_at ns p) (n + 1) (end_at ns n) ys (omega (arith, child.0)) (omega (arith, child.1)) told-under))))
