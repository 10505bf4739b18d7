-- Going on from a finished node upwards, each node is neat.
use Rattle.std.proofs.Common.{◌≡◌, ◌⊎◌, inl, inr, None, ◌<◌, ◌≤◌, ℕ, ◌+◌, List, length, Bool, true, false, arith, refl, sym, ◌∙◌, subst, ap, length-set, get_or-set_same, get_or-set_other}
use Rattle.std.{specs.Prelude.slice_set, specs.Prelude.not, specs.Prelude.is_none, proofs.lemmas.Bool.cases_lt}
use Rattle.batch_recipe.{specs.Nodes.node_count, specs.Tree.runs, specs.Tree.follows, specs.Tree.Tree, specs.Tree.act, specs.Tree.skip, specs.Tree.seq, specs.Tree.par, specs.Tree.sel, specs.Tree.loop, specs.Tree.Trees, specs.Tree.no_trees, specs.Tree.tree, specs.declared.entry.Entry.Entry, proofs.NodeSubtrees.some_count, specs.declared.recipe.Recipe.Recipe}
use Rattle.batch_chart.{specs.declared.node.Kind.Kind, specs.declared.node.Kind.TheVariants.Act, specs.declared.node.Kind.TheVariants.Seq, specs.declared.node.Kind.TheVariants.Par, specs.declared.node.Kind.TheVariants.Sel, specs.declared.node.Kind.TheVariants.Loop, specs.declared.stage.Stage.Stage, specs.declared.stage.Stage.TheVariants.Finished, specs.declared.stage.Stage.TheVariants.Open, specs.Climbing.all_finished, specs.Climbing.AreFinished, specs.Climbing.IsNeatlyRisen, specs.Climbing.HasPassedNeatly, specs.Outlined.end_at, specs.Outlined.kind_at, specs.Outlined.Stands, specs.Outlined.AreStanding, specs.Outlined.HasTree, specs.Meaning.AgreeOutside, specs.Neat.runs_below, specs.Neat.is_single, specs.Neat.AllFinished, specs.Neat.act_shows, specs.Neat.shown_of, specs.Neat.IsNeat, specs.Neat.AreNeat, specs.Neat.AreBlank, specs.Neat.SignsOutside, specs.Neat.IsReachedNeatly, specs.Neat.IsRowNeat, specs.Noting.open_signs, specs.Parents.IsAbove, specs.Stages.stage_at, specs.Stages.is_finished, specs.Stages.is_begun, specs.Stages.is_over_at, specs.Stages.turns_of, specs.Stages.closed_as, specs.Stages.looped_as, proofs.StageAgreement.stage-set_same, proofs.TreeAdvance.begun-open, proofs.TreeAdvance.finished-stage, proofs.KnownTests.chosen-true, proofs.ClimbFromNode.only-child, proofs.ClimbFromNode.loop-child, proofs.NeatCharts.unfinished-not, proofs.NeatCharts.finished-shows, proofs.NeatCharts.finished-stops, proofs.NeatCharts.blank-neat, proofs.NeatCharts.blank-part, proofs.NeatCharts.neat-one, proofs.NeatCharts.neat-join, proofs.NeatCharts.neat-same, proofs.NeatCharts.neat-agree, proofs.NeatCharts.neat-finished, proofs.NeatCharts.neat-blank, proofs.NeatCharts.signs-wider, proofs.NeatCharts.signs-same, proofs.ReachedTree.within-set, proofs.ReachedTree.outside-set, proofs.ReachedTree.finished-closed, proofs.ReachedTreeSigns.over-own, proofs.ReachedTreeSigns.closed-own, proofs.ReachedTreeSigns.shut-by, proofs.TreePositions.stood, proofs.TreePositions.stood-each, proofs.TreePositions.some-stands, proofs.TreePositions.nested, proofs.TreePositions.ActAt, proofs.TreePositions.act_at, proofs.TreePositions.act-at, proofs.TreePositions.SeqAt, proofs.TreePositions.seq_at, proofs.TreePositions.seq-at, proofs.TreePositions.ParAt, proofs.TreePositions.par_at, proofs.TreePositions.par-at, proofs.TreePositions.SelAt, proofs.TreePositions.sel_at, proofs.TreePositions.sel-at, proofs.TreePositions.LoopAt, proofs.TreePositions.loop_at, proofs.TreePositions.loop-at, proofs.FinishedStages.AreNested, proofs.FinishedStages.nests, proofs.FinishedStages.nests-below}
use Rattle.batch_signs.specs.Signs.{sign_at}

pub runs-unfinished : (c : Tree) (x : Stage) → runs_below c x ≡ true → is_finished x ≡ false
runs-unfinished c Finished e = let f : ◌≡◌ {A = Bool} false true = sym (finished-stops c) ∙ e in absurd (cc)
runs-unfinished c x e = refl

-- a loop that isn't over has turns
pub loop-runs : (κ : Kind) (x : Stage) (i : ℕ) {k : ℕ} → κ ≡ Loop k i → is_over_at κ x ≡ false → None ≡ turns_of x → ⊥
loop-runs κ x i {k} e u t = let q : ◌≡◌ {A = Bool} true false = ap is_none t ∙ sym (ap (λ z. is_over_at z x) e) ∙ u in absurd (cc)

-- a row of which all is finished
pub finished-row : (ns : List Entry) (doc : Recipe) (n m : ℕ) (xs : List Stage) → AllFinished n m xs → AreFinished ns doc n m xs true
finished-row ns doc n m xs h = record { means = λ ts s. go ts n s h }
  where
    go : (ts : Trees) (i : ℕ) → AreStanding ns doc i m ts → AllFinished i m xs → true ≡ all_finished ts i xs
    go no_trees i s f = refl
    go (tree c ts) i s f =
        let lt : i < m = omega (arith, stood-each ns doc (i + node_count c) m ts s.1, some_count c) in
        go ts (i + node_count c) s.1 (λ k a b. f k (omega arith) b)
        ∙ sym (chosen-true (is_finished (stage_at xs i)) (all_finished ts (i + node_count c) xs) false (ap is_finished (f i (omega arith) lt)))

module _ (ns : List Entry) (doc : Recipe) (p n : ℕ) (ys : List Stage) (standing : HasTree ns doc ys p) (above : IsAbove ns p n) (xs : List Stage) (ms cur : List ℕ) (r : IsNeatlyRisen ns doc xs ms n ys cur) where
  p-end : end_at ns p ≡ p + node_count standing.1.0
  p-end = (stood ns doc p standing.1.0 standing.1.1).end

  p-within : p < length ns
  p-within = (stood ns doc p standing.1.0 standing.1.1).within

  p-fits : end_at ns p ≤ length ns
  p-fits = omega (arith, p-end, (stood ns doc p standing.1.0 standing.1.1).fits)

  sits : (k : ℕ) → p ≤ k → k < end_at ns p → (d : Tree) × Stands ns doc k d
  sits k a b = some-stands ns doc k standing.1.0 p standing.1.1 a (omega (arith, b, p-end))

  n-at : (c : Tree) × Stands ns doc n c
  n-at = sits n (omega (arith, above.before)) above.past

  n-below : n < end_at ns n
  n-below = omega (arith, (stood ns doc n n-at.0 n-at.1).end, some_count n-at.0)

  n-fits : end_at ns n ≤ end_at ns p
  n-fits = let e = nested ns doc n standing.1.0 p standing.1.1 (omega (arith, above.before)) (omega (arith, above.past, p-end)) in omega (arith, e, p-end)

  nest-n : AreNested ns doc n (end_at ns n)
  nest-n = nests ns doc n n-at.0 n-at.1

  nest-p : AreNested ns doc p (end_at ns p)
  nest-p = nests ns doc p standing.1.0 standing.1.1

  nest-under : AreNested ns doc (p + 1) (end_at ns p)
  nest-under = nests-below ns doc p (p + 1) (end_at ns p) (omega arith) nest-p

  old-at : (c : Tree) → Stands ns doc p c → IsNeat ns c p xs ms
  old-at c s = r.before p c (omega arith) p-within s

  own : stage_at ys p ≡ stage_at xs p
  own = r.same p (inl above.before)

  own-sign : sign_at cur p ≡ sign_at ms p
  own-sign = r.signs p (inl above.before)

  -- p runs, since a branch of it did
  then-runs : (c : Tree) → Stands ns doc p c → runs_below c (stage_at xs p) ≡ true
  then-runs c s = go (runs_below c (stage_at xs p)) refl
    where
      go : (b : Bool) → runs_below c (stage_at xs p) ≡ b → runs_below c (stage_at xs p) ≡ true
      go true e = e
      go false e = absurd (unfinished-not (stage_at xs n) ((old-at c s).shut e n (omega (arith, above.before)) (omega (arith, above.past, (stood ns doc p c s).end))) r.was)

  pub still-runs : (c : Tree) → Stands ns doc p c → runs_below c (stage_at ys p) ≡ true
  still-runs c s = ap (runs_below c) own ∙ then-runs c s

  then-left : is_finished (stage_at xs p) ≡ false
  then-left = runs-unfinished standing.1.0 (stage_at xs p) (then-runs standing.1.0 standing.1.1)

  -- the descendants of p beside n stay as they were
  beside : (j : ℕ) (c : Tree) → p < j → j < end_at ns p → Stands ns doc j c → (j < n) ⊎ (end_at ns n ≤ j) → IsNeat ns c j ys cur
  beside j c a b s (inl q) =
      let e : j + node_count c ≤ n = omega (arith, above.between j a q, (stood ns doc j c s).end) in
      neat-agree ns doc c j xs ys ms cur (λ k f g. r.same k (inl (omega arith))) (r.signs j (inl q)) (r.before j c (omega arith) (omega (arith, p-fits)) s)
  beside j c a b s (inr q) =
      neat-agree ns doc c j xs ys ms cur (λ k f g. r.same k (inr (omega arith))) (r.signs j (inr q)) (r.before j c (omega arith) (omega (arith, p-fits)) s)

  pub neat-under : AreNeat ns doc (p + 1) (end_at ns p) ys cur
  neat-under j c a b s = elim (cases_lt j n) [
    | inl q ↦ beside j c (omega arith) b s (inl q)
    | inr q ↦ elim (cases_lt j (end_at ns n)) [
      | inl f ↦ blank-neat ns doc n (end_at ns n) ys cur nest-n r.blank j c q f s
      | inr f ↦ beside j c (omega arith) b s (inr f)
    ]
  ]

  -- if only one branch of p can run, all below p is blank
  pub alone : (c : Tree) → Stands ns doc p c → is_single c ≡ true → AreBlank (p + 1) (end_at ns p) ys cur
  alone c s one k a b = elim (cases_lt k n) [
    | inl q ↦ gone (inl q)
    | inr q ↦ elim (cases_lt k (end_at ns n)) [
      | inl f ↦ r.blank k q f
      | inr f ↦ gone (inr f)
    ]
  ]
    where
      gone : (k < n) ⊎ (end_at ns n ≤ k) → (stage_at ys k ≡ Finished) × (sign_at cur k ≡ 0)
      gone out =
          let e = (stood ns doc p c s).end in
          let was : stage_at xs k ≡ Finished =
          (old-at c s).lone one n (omega (arith, above.before)) (omega (arith, above.past, e)) (λ q u v. above.between q (omega arith) v) r.was k a (omega (arith, b, e)) out in
          let d = sits k (omega arith) b in
          let h = r.before k d.0 (omega arith) (omega (arith, p-fits)) d.1 in (
            r.same k out ∙ was,
            r.signs k out ∙ h.shown ∙ ap (λ x. shown_of d.0 x (is_finished (stage_at xs (k + 1)))) was ∙ finished-shows d.0 (is_finished (stage_at xs (k + 1))),
          )

  -- p is passed neatly, once its subtree is neat
  pub passes : (us : List Stage) (new : List ℕ) (t : Bool) → length new ≡ length cur → AgreeOutside p (end_at ns p) ys us → SignsOutside p (end_at ns p) cur new → AreNeat ns doc p (end_at ns p) us new → is_finished (stage_at us p) ≡ t
      → HasPassedNeatly ns doc xs ms p us new t
  passes us new true count outside signs neat u = record {
    count = count ∙ r.count;
    before = r.before;
    was = then-left;
    same = λ k q. outside k q ∙ wide k q;
    signs = λ k q. signs k q ∙ wide-signs k q;
    blank = λ k a b. neat-blank ns doc p standing.1.0 us new standing.1.1 (λ j f g. sits j f (omega (arith, g, p-end))) (subst (λ z. AreNeat ns doc p z us new) p-end neat) (finished-stage (stage_at us p) u) k a (omega (arith, b, p-end));
  }
    where
      wide : AgreeOutside p (end_at ns p) xs ys
      wide k (inl q) = r.same k (inl (omega (arith, above.before)))
      wide k (inr q) = r.same k (inr (omega (arith, n-fits)))

      wide-signs : SignsOutside p (end_at ns p) ms cur
      wide-signs k (inl q) = r.signs k (inl (omega (arith, above.before)))
      wide-signs k (inr q) = r.signs k (inr (omega (arith, n-fits)))
  passes us new false count outside signs neat u = record {
    count = count ∙ r.count;
    before = r.before;
    was = then-left;
    now = u;
    same = λ k q. outside k q ∙ wide k q;
    signs = λ k q. signs k q ∙ wide-signs k q;
    neat = neat;
  }
    where
      wide : AgreeOutside p (end_at ns p) xs ys
      wide k (inl q) = r.same k (inl (omega (arith, above.before)))
      wide k (inr q) = r.same k (inr (omega (arith, n-fits)))

      wide-signs : SignsOutside p (end_at ns p) ms cur
      wide-signs k (inl q) = r.signs k (inl (omega (arith, above.before)))
      wide-signs k (inr q) = r.signs k (inr (omega (arith, n-fits)))

  no-sign : (c : Tree) → Stands ns doc p c → ((x : Stage) (d : Bool) → shown_of c x d ≡ 0) → sign_at cur p ≡ 0
  no-sign c s none = own-sign ∙ (old-at c s).shown ∙ none (stage_at xs p) (is_finished (stage_at xs (p + 1)))

  pub not-over : true ≡ is_over_at (kind_at ns p) (stage_at ys p) → ⊥
  not-over o = go standing.1.0 standing.1.1 (still-runs standing.1.0 standing.1.1)
    where
      closed-or-not : (b : Bool) → b ≡ true → true ≡ not b → ⊥
      closed-or-not x1 x2 x3 = absurd (grind arith)

      open-over : (x : Stage) → is_begun x ≡ true → true ≡ is_over_at (Act 0) x → ⊥
      open-over x e f = let q : ◌≡◌ {A = Bool} true false = f ∙ ap (is_over_at (Act 0)) (begun-open x e) in absurd (cc)

      none-or-not : (b : Bool) → not b ≡ true → true ≡ b → ⊥
      none-or-not x1 x2 x3 = absurd (grind arith)

      at-kind : (κ : Kind) → kind_at ns p ≡ κ → true ≡ is_over_at κ (stage_at ys p)
      at-kind κ e = o ∙ ap (λ z. is_over_at z (stage_at ys p)) e

      go : (c : Tree) → Stands ns doc p c → runs_below c (stage_at ys p) ≡ true → ⊥
      go (act s (runs q)) h e = absurd (omega (arith, h.1.2, above.before, above.past))
      go (act s (follows name d)) h e = open-over (stage_at ys p) e (at-kind (Act (length s.needs)) h.0.1)
      go skip h e = absurd (cc)
      go (seq ts) h e = closed-or-not (is_begun (stage_at ys p)) e (at-kind Seq h.0.1)
      go (par ts) h e = closed-or-not (is_begun (stage_at ys p)) e (at-kind Par h.0.1)
      go (sel ch) h e = closed-or-not (is_begun (stage_at ys p)) e (at-kind (Sel h.0) h.1.1)
      go (loop k q body) h e = none-or-not (is_none (turns_of (stage_at ys p))) e (at-kind (Loop k h.0) h.1.1)

  own-out : (v : Stage) → AgreeOutside p (end_at ns p) ys (slice_set ys p v)
  own-out v = outside-set ys ys p (end_at ns p) v (omega (arith, above.before, above.past)) (λ k q. refl)

  -- nothing is reached, and p's own stage alone is written
  written : (v : Stage) (us : List Stage) (t : Bool) → p < length ys → us ≡ slice_set ys p v → is_finished v ≡ t → ((c : Tree) → Stands ns doc p c → IsNeat ns c p (slice_set ys p v) cur) → HasPassedNeatly ns doc xs ms p us cur t
  written v us t lt is u own =
      subst (λ z. HasPassedNeatly ns doc xs ms p z cur t) (sym is)
      (passes (slice_set ys p v) cur t refl (own-out v) (signs-same p (end_at ns p) cur)
      (neat-one ns doc p (end_at ns p) (slice_set ys p v) cur own (neat-same ns doc (p + 1) (end_at ns p) ys (slice_set ys p v) cur cur nest-under (within-set ys p (end_at ns p) v) (λ k a b. refl) neat-under))
      (ap is_finished (stage-set_same ys p v lt) ∙ u))

  pub neatly-par : kind_at ns p ≡ Par → (us : List Stage) (b t : Bool) → p < length ys → (t ≡ b) × (us ≡ slice_set ys p (closed_as b)) → (b ≡ true → AllFinished (p + 1) (end_at ns p) ys) → HasPassedNeatly ns doc xs ms p us cur t
  neatly-par e us b t lt closes all =
      written (closed_as b) us t lt closes.1 (finished-closed b ∙ sym closes.0) (λ c s. go c (par-at ns doc p e c s) s)
    where
      go : (c : Tree) → ParAt ns doc p c → Stands ns doc p c → IsNeat ns c p (slice_set ys p (closed_as b)) cur
      go _ (par_at ts a) s =
          over-own ns doc ys p standing ys (closed_as b) cur cur lt (signs-same (p + 1) (end_at ns p) cur) (par ts) s (no-sign (par ts) s (λ x d. refl)) (λ x d. refl)
          (shut-by ns doc ys p standing ys us b t cur cur lt closes (par ts) refl all) (λ one. absurd (cc))

  pub neatly-sel : (i : ℕ) → kind_at ns p ≡ Sel i → (us : List Stage) (t : Bool) → p < length ys → (t ≡ true) × (us ≡ slice_set ys p Finished) → HasPassedNeatly ns doc xs ms p us cur t
  neatly-sel i e us t lt closes = written Finished us t lt closes.1 (sym closes.0) (λ c s. go c (sel-at ns doc p i e c s) s)
    where
      go : (c : Tree) → SelAt ns doc p i c → Stands ns doc p c → IsNeat ns c p (slice_set ys p Finished) cur
      go _ (sel_at ch a) s =
          let all = alone (sel ch) s refl in
          over-own ns doc ys p standing ys Finished cur cur lt (signs-same (p + 1) (end_at ns p) cur) (sel ch) s (no-sign (sel ch) s (λ x d. refl)) (λ x d. refl)
          (λ u k f g. (all k f g).0) (λ one j f g root u k v w out. (all k v w).0)

  -- the others of a selection are finished
  pub sel-others : (i : ℕ) → kind_at ns p ≡ Sel i → AllFinished (p + 1) n ys
  sel-others i e = go standing.1.0 (sel-at ns doc p i e standing.1.0 standing.1.1) standing.1.1
    where
      go : (c : Tree) → SelAt ns doc p i c → Stands ns doc p c → AllFinished (p + 1) n ys
      go _ (sel_at ch a) s k f g = (alone (sel ch) s refl k f (omega (arith, above.past))).0

  module _ (k i : ℕ) (e : kind_at ns p ≡ Loop k i) where
    child : (n ≡ p + 1) × (end_at ns n ≡ end_at ns p)
    child = loop-child ns doc p n ys standing above k i e

    pub neatly-last : p < length ys → IsNeatlyRisen ns doc xs ms p (slice_set ys p Finished) cur
    neatly-last lt = written Finished (slice_set ys p Finished) true lt refl refl (λ c s. go c (loop-at ns doc p k i e c s) s)
      where
        go : (c : Tree) → LoopAt ns doc p k i c → Stands ns doc p c → IsNeat ns c p (slice_set ys p Finished) cur
        go _ (loop_at q body w a f) s =
            over-own ns doc ys p standing ys Finished cur cur lt (signs-same (p + 1) (end_at ns p) cur) (loop k q body) s (no-sign (loop k q body) s (λ x d. refl)) (λ x d. refl)
            (λ u j f g. (r.blank j (omega (arith, child.0, f)) (omega (arith, child.1, g))).0) (λ one. absurd (cc))

    pub neatly-round : (zs us : List Stage) (new : List ℕ) (b t : Bool) (j : ℕ) → p < length zs → AgreeOutside n (end_at ns n) ys zs → is_finished (stage_at zs n) ≡ b → IsReachedNeatly ns doc n ys zs cur new
        → (t ≡ b) × (us ≡ slice_set zs p (looped_as b j)) → HasPassedNeatly ns doc xs ms p us new t
    neatly-round zs us new b t j lt outside own reached closes =
        subst (λ z. HasPassedNeatly ns doc xs ms p z new t) (sym closes.1)
        (passes (slice_set zs p (looped_as b j)) new t reached.count
        (outside-set ys zs p (end_at ns p) (looped_as b j) (omega (arith, above.before, above.past)) off)
        (signs-wider (p + 1) (end_at ns p) p (end_at ns p) cur new (omega arith) (omega arith) signs)
        (neat-one ns doc p (end_at ns p) (slice_set zs p (looped_as b j)) new (λ c s. go c (loop-at ns doc p k i e c s) s)
        (neat-same ns doc (p + 1) (end_at ns p) zs (slice_set zs p (looped_as b j)) new new nest-under (within-set zs p (end_at ns p) (looped_as b j)) (λ h f g. refl) neat))
        (ap is_finished (stage-set_same zs p (looped_as b j) lt) ∙ looped b ∙ sym closes.0))
      where
        off : AgreeOutside (p + 1) (end_at ns p) ys zs
        off h (inl q) = outside h (inl (omega (arith, q, child.0)))
        off h (inr q) = outside h (inr (omega (arith, q, child.1)))

        signs : SignsOutside (p + 1) (end_at ns p) cur new
        signs h (inl q) = reached.outside h (inl (omega (arith, q, child.0)))
        signs h (inr q) = reached.outside h (inr (omega (arith, q, child.1)))

        neat : AreNeat ns doc (p + 1) (end_at ns p) zs new
        neat h d f g s = reached.neat r.blank h d (omega (arith, f, child.0)) (omega (arith, g, child.1)) s

        looped : (d : Bool) → is_finished (looped_as d j) ≡ d
        looped true = refl
        looped false = refl

        ended : (d : Bool) → b ≡ d → not (is_none (turns_of (looped_as b j))) ≡ false → stage_at zs (p + 1) ≡ Finished
        ended true q u = ap (stage_at zs) (sym child.0) ∙ finished-stage (stage_at zs n) (own ∙ q)
        ended false q u = let f : ◌≡◌ {A = Bool} true false = ap (λ z. not (is_none (turns_of (looped_as z j)))) (sym q) ∙ u in absurd (cc)

        go : (c : Tree) → LoopAt ns doc p k i c → Stands ns doc p c → IsNeat ns c p (slice_set zs p (looped_as b j)) new
        go _ (loop_at q body w a f) s =
            over-own ns doc ys p standing zs (looped_as b j) cur new lt signs (loop k q body) s (no-sign (loop k q body) s (λ x d. refl)) (λ x d. refl)
            (λ u h v g. neat-finished ns doc (p + 1) body zs new a (neat (p + 1) body (omega arith) (omega (arith, f, some_count body)) a) (ended b refl u) h v (omega (arith, g, f)))
            (λ one. absurd (cc))

  -- an act of whose chart nothing is left shows that
  pub neatly-act : (k v : ℕ) → kind_at ns p ≡ Act k → p < length cur → v ≡ open_signs k true → HasPassedNeatly ns doc xs ms p ys (slice_set cur p v) false
  neatly-act k v e inside is =
      passes ys (slice_set cur p v) false (length-set cur p v) (λ j q. refl) out
      (neat-one ns doc p (end_at ns p) ys (slice_set cur p v) (λ c s. go c (act-at ns doc p k e c s) s)
      (neat-same ns doc (p + 1) (end_at ns p) ys ys cur (slice_set cur p v) nest-under (λ j f g. refl) (λ j f g. get_or-set_other cur p j v 0 (λ q. absurd (omega (arith, q)))) neat-under))
      (ap is_finished own ∙ then-left)
    where
      out : SignsOutside p (end_at ns p) cur (slice_set cur p v)
      out j (inl q) = get_or-set_other cur p j v 0 (λ z. absurd (omega (arith, q, z)))
      out j (inr q) = get_or-set_other cur p j v 0 (λ z. absurd (omega (arith, q, z, above.before, above.past)))

      go : (c : Tree) → ActAt ns doc p k c → Stands ns doc p c → IsNeat ns c p ys (slice_set cur p v)
      go _ (act_at s name d a f count) h =
          let begun = still-runs (act s (follows name d)) h in
          let opened : stage_at ys p ≡ Open = begun-open (stage_at ys p) begun in
          let at : n ≡ p + 1 = only-child ns doc p n ys standing above d a f in
          let over : is_finished (stage_at ys (p + 1)) ≡ true = ap (λ z. is_finished (stage_at ys z)) (sym at) ∙ ap is_finished (r.blank n (omega arith) n-below).0 in
          record {
            shut = λ u. let q : ◌≡◌ {A = Bool} true false = sym begun ∙ u in absurd (cc);
            lone = λ one. absurd (cc);
            shown = get_or-set_same cur p v 0 inside ∙ is ∙ ap (λ z. open_signs z true) (sym count)
                ∙ sym (ap (λ z. act_shows (length s.needs) z (is_finished (stage_at ys (p + 1)))) opened ∙ ap (open_signs (length s.needs)) over);
          }

  module _ (e : kind_at ns p ≡ Seq) where
    blank-seq : AreBlank (p + 1) (end_at ns p) ys cur
    blank-seq = go standing.1.0 (seq-at ns doc p e standing.1.0 standing.1.1) standing.1.1
      where
        go : (c : Tree) → SeqAt ns doc p c → Stands ns doc p c → AreBlank (p + 1) (end_at ns p) ys cur
        go _ (seq_at ts a) s = alone (seq ts) s refl

    pub seq-others : AllFinished (p + 1) n ys
    seq-others k f g = (blank-seq k f (omega (arith, above.past))).0

    pub neatly-on : (zs us : List Stage) (new : List ℕ) (b t : Bool) → p < length zs → AgreeOutside (end_at ns n) (end_at ns p) ys zs → IsRowNeat ns doc (end_at ns n) (end_at ns p) true true ys zs cur new b
        → (t ≡ b) × (us ≡ slice_set zs p (closed_as b)) → HasPassedNeatly ns doc xs ms p us new t
    neatly-on zs us new b t lt beyond rs closes =
        subst (λ z. HasPassedNeatly ns doc xs ms p z new t) (sym closes.1)
        (passes (slice_set zs p (closed_as b)) new t row.count
        (outside-set ys zs p (end_at ns p) (closed_as b) (omega (arith, above.before, above.past)) off)
        (signs-wider (p + 1) (end_at ns p) p (end_at ns p) cur new (omega arith) (omega arith) row.outside)
        (neat-one ns doc p (end_at ns p) (slice_set zs p (closed_as b)) new (λ c s. go c (seq-at ns doc p e c s) s)
        (neat-same ns doc (p + 1) (end_at ns p) zs (slice_set zs p (closed_as b)) new new nest-under (within-set zs p (end_at ns p) (closed_as b)) (λ h f g. refl) (row.neat blank-seq)))
        (ap is_finished (stage-set_same zs p (closed_as b) lt) ∙ finished-closed b ∙ sym closes.0))
      where
        later : AreBlank (end_at ns n) (end_at ns p) ys cur
        later = blank-part (p + 1) (end_at ns p) (end_at ns n) (end_at ns p) ys cur (omega (arith, n-below, above.before)) (omega arith) blank-seq

        front : AreBlank (p + 1) (end_at ns n) zs new
        front k f g = (let q = blank-seq k f (omega (arith, n-fits)) in (beyond k (inl g) ∙ q.0, rs.outside k (inl g) ∙ q.1))

        off : AgreeOutside (p + 1) (end_at ns p) ys zs
        off h (inl q) = beyond h (inl (omega (arith, q, n-below, above.before)))
        off h (inr q) = beyond h (inr q)

        nest-front : AreNested ns doc (p + 1) (end_at ns n)
        nest-front j c f g s = elim (cases_lt j n) [
          | inl q ↦ (let y = above.between j (omega arith) q in omega (arith, y, (stood ns doc j c s).end, n-below))
          | inr q ↦ nest-n j c q g s
        ]

        row : IsRowNeat ns doc (p + 1) (end_at ns p) true true ys zs cur new b
        row = record {
          count = rs.count;
          outside = signs-wider (end_at ns n) (end_at ns p) (p + 1) (end_at ns p) cur new (omega (arith, n-below, above.before)) (omega arith) rs.outside;
          neat = λ h. neat-join ns doc (p + 1) (end_at ns n) (end_at ns p) zs new (blank-neat ns doc (p + 1) (end_at ns n) zs new nest-front front) (rs.neat later);
          over = λ h o. (refl, λ k f g. elim (cases_lt k (end_at ns n)) [ inl q ↦ (front k f q).0 | inr q ↦ (rs.over later o).1 k q g ]);
          lone = λ one h i f g root u k v w out. elim (cases_lt i (end_at ns n)) [
            | inl q ↦ absurd (unfinished-not (stage_at zs i) (front i f q).0 u)
            | inr q ↦ elim (cases_lt k (end_at ns n)) [
              | inl y ↦ (front k v y).0
              | inr y ↦ rs.lone refl later i q g (λ z a c. root z (omega (arith, a, n-below, above.before)) c) u k y w out
            ]
          ];
        }

        go : (c : Tree) → SeqAt ns doc p c → Stands ns doc p c → IsNeat ns c p (slice_set zs p (closed_as b)) new
        go _ (seq_at ts a) s =
            closed-own ns doc ys p standing zs (slice_set zs p (closed_as b)) b b cur new lt (refl, refl) true row blank-seq (no-sign (seq ts) s (λ x d. refl)) (seq ts) s (refl, (λ x d. refl), (λ one. refl))
