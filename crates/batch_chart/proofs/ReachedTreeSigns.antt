-- A reached tree is neat, at each kind of node.
use Rattle.std.proofs.Common.{◌≡◌, ◌≢◌, ◌⊎◌, inl, inr, ◌<◌, ◌≤◌, ℕ, ◌+◌, List, length, Bool, true, false, ◌&&◌, arith, refl, sym, ◌∙◌, subst, ap, length-set, get_or-set_same, get_or-set_other}
use Rattle.std.{specs.Prelude.slice_set, specs.Prelude.not, specs.Prelude.is_none, proofs.lemmas.Bool.cases_lt, proofs.lemmas.Bool.Decides.eqb_tells}
use Rattle.batch_recipe.{specs.Nodes.node_count, specs.Tree.Step, specs.Tree.Task, specs.Tree.runs, specs.Tree.follows, specs.Tree.Tree, specs.Tree.act, specs.Tree.loop, specs.declared.entry.Entry.Entry, proofs.NodeSubtrees.some_count, specs.declared.recipe.Recipe.Recipe}
use Rattle.batch_chart.{specs.declared.node.Kind.TheVariants.Act, specs.declared.node.Kind.TheVariants.Seq, specs.declared.node.Kind.TheVariants.Par, specs.declared.node.Kind.TheVariants.Sel, specs.declared.node.Kind.TheVariants.Loop, specs.declared.stage.Stage.Stage, specs.declared.stage.Stage.TheVariants.Finished, specs.declared.stage.Stage.TheVariants.Ready, specs.declared.stage.Stage.TheVariants.Open, specs.Outlined.end_at, specs.Outlined.kind_at, specs.Outlined.Stands, specs.Outlined.HasTree, specs.Outlined.HaveTrees, specs.Outlined.HaveChoices, specs.Meaning.AgreeOutside, specs.Neat.runs_below, specs.Neat.is_single, specs.Neat.AllFinished, specs.Neat.IsLone, specs.Neat.shown_of, specs.Neat.IsNeat, specs.Neat.AreNeat, specs.Neat.AreBlank, specs.Neat.SignsOutside, specs.Neat.IsReachedNeatly, specs.Neat.IsRowNeat, specs.Needs.needs_of_kind, specs.Noting.stage_signs, specs.Stages.stage_at, specs.Stages.is_finished, specs.Stages.turns_of, specs.Stages.closed_as, specs.Stages.looped_as, proofs.TreeAdvance.finished-stage, proofs.StageAgreement.stage-set_same, proofs.StageAgreement.stage-set_other, proofs.NeatCharts.unfinished-not, proofs.NeatCharts.blank-neat, proofs.NeatCharts.blank-part, proofs.NeatCharts.blank-same, proofs.NeatCharts.neat-one, proofs.NeatCharts.neat-join, proofs.NeatCharts.neat-same, proofs.NeatCharts.neat-finished, proofs.NeatCharts.signs-join, proofs.NeatCharts.signs-wider, proofs.NeatCharts.signs-same, proofs.ReachedTree.within-set, proofs.ReachedTree.outside-set, proofs.ReachedTree.outside-same, proofs.TreePositions.stood, proofs.TreePositions.PhaseAt, proofs.TreePositions.phase_at, proofs.TreePositions.phase-at, proofs.TreePositions.ActAt, proofs.TreePositions.act_at, proofs.TreePositions.act-at, proofs.TreePositions.SeqAt, proofs.TreePositions.seq_at, proofs.TreePositions.seq-at, proofs.TreePositions.ParAt, proofs.TreePositions.par_at, proofs.TreePositions.par-at, proofs.TreePositions.SelAt, proofs.TreePositions.sel_at, proofs.TreePositions.sel-at, proofs.TreePositions.LoopAt, proofs.TreePositions.loop_at, proofs.TreePositions.loop-at, proofs.TreePositions.below-end, proofs.TreePositions.first-end, proofs.TreePositions.first-standing, proofs.TreePositions.choice-standing, proofs.TreePositions.choice-end, proofs.FinishedStages.AreNested, proofs.FinishedStages.nests, proofs.FinishedStages.nests-each, proofs.FinishedStages.nests-choices, proofs.FinishedStages.nests-below}
use Rattle.batch_chart.specs.declared.node.Kind.TheVariants as kind
use Rattle.batch_signs.specs.Signs.{sign_at}

module _ (ns : List Entry) (doc : Recipe) (xs : List Stage) (n : ℕ) (standing : HasTree ns doc xs n) where
  below : n < end_at ns n
  below = below-end ns doc xs n standing

  nest : AreNested ns doc n (end_at ns n)
  nest = nests ns doc n standing.1.0 standing.1.1

  under : AreNested ns doc (n + 1) (end_at ns n)
  under = nests-below ns doc n (n + 1) (end_at ns n) (omega arith) nest

  end-of : (c : Tree) → Stands ns doc n c → end_at ns n ≡ n + node_count c
  end-of c h = (stood ns doc n c h).end

  -- an act is ready, and shows it
  module _ (old : List ℕ) (v : ℕ) (lt : n < length xs) (inside : n < length old) (is : v ≡ stage_signs (needs_of_kind (kind_at ns n)) (Ready 0)) where
    shows-ready : (s : Step) (w : Task) → length s.needs ≡ needs_of_kind (kind_at ns n) → (b : Bool) → v ≡ shown_of (act s w) (Ready 0) b
    shows-ready s (runs p) e b = is ∙ ap (λ k. stage_signs k (Ready 0)) (sym e)
    shows-ready s (follows name c) e b = is ∙ ap (λ k. stage_signs k (Ready 0)) (sym e)

    ready-act : (s : Step) (w : Task) → length s.needs ≡ needs_of_kind (kind_at ns n) → end_at ns n ≡ n + node_count (act s w) → AreBlank n (end_at ns n) xs old → IsNeat ns (act s w) n (slice_set xs n (Ready 0)) (slice_set old n v)
    ready-act s w e f h = record {
      shut = λ u k a b. stage-set_other xs n k (Ready 0) (λ q. absurd (omega (arith, q))) ∙ (h k (omega arith) (omega arith)).0;
      lone = λ one. absurd (cc);
      shown = get_or-set_same old n v 0 inside ∙ shows-ready s w e (is_finished (stage_at (slice_set xs n (Ready 0)) (n + 1)))
          ∙ ap (λ x. shown_of (act s w) x (is_finished (stage_at (slice_set xs n (Ready 0)) (n + 1)))) (sym (stage-set_same xs n (Ready 0) lt));
    }

    ready-here : ((k : ℕ) × (i : ℕ) × (kind_at ns n ≡ kind.Phase k i)) ⊎ ((k : ℕ) × (kind_at ns n ≡ Act k)) → AreBlank n (end_at ns n) xs old → (c : Tree) → Stands ns doc n c → IsNeat ns c n (slice_set xs n (Ready 0)) (slice_set old n v)
    ready-here (inl q) h c s = go c (phase-at ns doc n q.0 q.1 q.2 c s) (end-of c s)
      where
        go : (c : Tree) → PhaseAt ns doc n q.0 q.1 c → end_at ns n ≡ n + node_count c → IsNeat ns c n (slice_set xs n (Ready 0)) (slice_set old n v)
        go _ (phase_at u p a f count) e = ready-act u (runs p) (count ∙ sym (ap needs_of_kind q.2)) e h
    ready-here (inr q) h c s = go c (act-at ns doc n q.0 q.1 c s) (end-of c s)
      where
        go : (c : Tree) → ActAt ns doc n q.0 c → end_at ns n ≡ n + node_count c → IsNeat ns c n (slice_set xs n (Ready 0)) (slice_set old n v)
        go _ (act_at u name d a f count) e = ready-act u (follows name d) (count ∙ sym (ap needs_of_kind q.1)) e h

    pub neatly-ready : ((k : ℕ) × (i : ℕ) × (kind_at ns n ≡ kind.Phase k i)) ⊎ ((k : ℕ) × (kind_at ns n ≡ Act k)) → IsReachedNeatly ns doc n xs (slice_set xs n (Ready 0)) old (slice_set old n v)
    neatly-ready q = record {
      count = length-set old n v;
      outside = λ k a. get_or-set_other old n k v 0 (off k a);
      neat = λ h. neat-one ns doc n (end_at ns n) (slice_set xs n (Ready 0)) (slice_set old n v) (ready-here q h)
          (blank-neat ns doc (n + 1) (end_at ns n) (slice_set xs n (Ready 0)) (slice_set old n v) under
          (blank-same (n + 1) (end_at ns n) xs (slice_set xs n (Ready 0)) old (slice_set old n v)
          (λ k a b. (stage-set_other xs n k (Ready 0) (λ q. absurd (omega (arith, q))), get_or-set_other old n k v 0 (λ q. absurd (omega (arith, q)))))
          (blank-part n (end_at ns n) (n + 1) (end_at ns n) xs old (omega arith) (omega arith) h)));
    }
      where
        off : (k : ℕ) → (k < n) ⊎ (end_at ns n ≤ k) → k ≢ n
        off k (inl a) = λ q. absurd (omega (arith, q))
        off k (inr a) = λ q. absurd (omega (arith, q, below))

  -- nothing is reached
  set-blank : (old : List ℕ) → n < length xs → AreBlank n (end_at ns n) xs old → AreBlank n (end_at ns n) (slice_set xs n Finished) old
  set-blank old lt h k a b = elim (eqb_tells k n) [
    | inl q ↦ (ap (stage_at (slice_set xs n Finished)) q.1 ∙ stage-set_same xs n Finished lt, (h k a b).1)
    | inr q ↦ (stage-set_other xs n k Finished q.1 ∙ (h k a b).0, (h k a b).1)
  ]

  pub neatly-none : (old : List ℕ) → n < length xs → IsReachedNeatly ns doc n xs (slice_set xs n Finished) old old
  neatly-none old lt = record {
    count = refl;
    outside = signs-same n (end_at ns n) old;
    neat = λ h. blank-neat ns doc n (end_at ns n) (slice_set xs n Finished) old nest (set-blank old lt h);
  }

  -- a node's own stage is written above its descendants
  module _ (ys : List Stage) (v : Stage) (old new : List ℕ) (lt : n < length ys) (signs : SignsOutside (n + 1) (end_at ns n) old new) where
    zs : List Stage
    zs = slice_set ys n v

    pub over-own : (c : Tree) → Stands ns doc n c → sign_at old n ≡ 0 → ((x : Stage) (b : Bool) → shown_of c x b ≡ 0) → (runs_below c v ≡ false → AllFinished (n + 1) (end_at ns n) ys) → (is_single c ≡ true → IsLone ns (n + 1) (end_at ns n) ys)
        → IsNeat ns c n (slice_set ys n v) new
    over-own c s zero none shut lone = record {
      shut = λ u k a b. within-set ys n (end_at ns n) v k a (omega (arith, b, end-of c s)) ∙ shut (ap (runs_below c) (sym (stage-set_same ys n v lt)) ∙ u) k a (omega (arith, b, end-of c s));
      lone = λ one i a b root u k p q out.
          within-set ys n (end_at ns n) v k p (omega (arith, q, end-of c s))
          ∙ lone one i a (omega (arith, b, end-of c s)) root (ap is_finished (sym (within-set ys n (end_at ns n) v i a (omega (arith, b, end-of c s)))) ∙ u) k p (omega (arith, q, end-of c s)) out;
      shown = signs n (inl (omega arith)) ∙ zero ∙ sym (none (stage_at (slice_set ys n v) n) (is_finished (stage_at (slice_set ys n v) (n + 1))));
    }

    pub over-neatly : length new ≡ length old → ((c : Tree) → Stands ns doc n c → AreBlank n (end_at ns n) xs old → IsNeat ns c n (slice_set ys n v) new) → (AreBlank n (end_at ns n) xs old → AreNeat ns doc (n + 1) (end_at ns n) ys new)
        → IsReachedNeatly ns doc n xs (slice_set ys n v) old new
    over-neatly count own rest = record {
      count = count;
      outside = signs-wider (n + 1) (end_at ns n) n (end_at ns n) old new (omega arith) (omega arith) signs;
      neat = λ h. neat-one ns doc n (end_at ns n) (slice_set ys n v) new (λ c s. own c s h)
          (neat-same ns doc (n + 1) (end_at ns n) ys (slice_set ys n v) new new under (within-set ys n (end_at ns n) v) (λ k a b. refl) (rest h));
    }

  -- a node above branches is closed
  module _ (ys us : List Stage) (b r : Bool) (old new : List ℕ) (lt : n < length ys) (closes : (r ≡ b) × (us ≡ slice_set ys n (closed_as b))) where
    row-blank : AreBlank n (end_at ns n) xs old → AreBlank (n + 1) (end_at ns n) xs old
    row-blank h = blank-part n (end_at ns n) (n + 1) (end_at ns n) xs old (omega arith) (omega arith) h

    pub shut-by : (c : Tree) → runs_below c Open ≡ true → (b ≡ true → AllFinished (n + 1) (end_at ns n) ys) → runs_below c (closed_as b) ≡ false → AllFinished (n + 1) (end_at ns n) ys
    shut-by c o f u = go b refl
      where
        go : (d : Bool) → b ≡ d → AllFinished (n + 1) (end_at ns n) ys
        go true e = f e
        go false e = let q : ◌≡◌ {A = Bool} true false = sym o ∙ ap (λ z. runs_below c (closed_as z)) (sym e) ∙ u in absurd (cc)

    pub closed-own : (single : Bool) → IsRowNeat ns doc (n + 1) (end_at ns n) single true xs ys old new b → AreBlank (n + 1) (end_at ns n) xs old → sign_at old n ≡ 0 → (c : Tree) → Stands ns doc n c
        → (runs_below c Open ≡ true) × ((x : Stage) (d : Bool) → shown_of c x d ≡ 0) × (is_single c ≡ true → single ≡ true) → IsNeat ns c n us new
    closed-own single row h zero c s is =
        subst (λ l. IsNeat ns c n l new) (sym closes.1)
        (over-own ys (closed_as b) old new lt row.outside c s zero is.1 (shut-by c is.0 (λ e. (row.over h e).1)) (λ one. row.lone (is.2 one) h))

    closes-neatly : (single : Bool) → IsRowNeat ns doc (n + 1) (end_at ns n) single true xs ys old new b
        → ((c : Tree) → Stands ns doc n c → (runs_below c Open ≡ true) × ((x : Stage) (d : Bool) → shown_of c x d ≡ 0) × (is_single c ≡ true → single ≡ true)) → IsReachedNeatly ns doc n xs us old new
    closes-neatly single row is =
        subst (λ l. IsReachedNeatly ns doc n xs l old new) (sym closes.1)
        (over-neatly ys (closed_as b) old new lt row.outside row.count
        (λ c s h. over-own ys (closed_as b) old new lt row.outside c s (h n (omega arith) below).1 (is c s).1 (shut-by c (is c s).0 (λ e. (row.over (row-blank h) e).1)) (λ one. row.lone ((is c s).2 one) (row-blank h)))
        (λ h. row.neat (row-blank h)))

    pub neatly-seq : kind_at ns n ≡ Seq → IsRowNeat ns doc (n + 1) (end_at ns n) true true xs ys old new b → IsReachedNeatly ns doc n xs us old new
    neatly-seq e row = closes-neatly true row (λ c s. go c (seq-at ns doc n e c s))
      where
        go : (c : Tree) → SeqAt ns doc n c → (runs_below c Open ≡ true) × ((x : Stage) (d : Bool) → shown_of c x d ≡ 0) × (is_single c ≡ true → true ≡ true)
        go _ (seq_at ts a) = (refl, λ x d. refl, λ one. refl)

    pub neatly-par : kind_at ns n ≡ Par → IsRowNeat ns doc (n + 1) (end_at ns n) false true xs ys old new b → IsReachedNeatly ns doc n xs us old new
    neatly-par e row = closes-neatly false row (λ c s. go c (par-at ns doc n e c s))
      where
        go : (c : Tree) → ParAt ns doc n c → (runs_below c Open ≡ true) × ((x : Stage) (d : Bool) → shown_of c x d ≡ 0) × (is_single c ≡ true → false ≡ true)
        go _ (par_at ts a) = (refl, λ x d. refl, λ one. one)

    pub neatly-sel : (i : ℕ) → kind_at ns n ≡ Sel i → IsRowNeat ns doc (n + 1) (end_at ns n) true true xs ys old new b → IsReachedNeatly ns doc n xs us old new
    neatly-sel i e row = closes-neatly true row (λ c s. go c (sel-at ns doc n i e c s))
      where
        go : (c : Tree) → SelAt ns doc n i c → (runs_below c Open ≡ true) × ((x : Stage) (d : Bool) → shown_of c x d ≡ 0) × (is_single c ≡ true → true ≡ true)
        go _ (sel_at ch a) = (refl, λ x d. refl, λ one. refl)

  pub neatly-loop : (k i : ℕ) → kind_at ns n ≡ Loop k i → (ys us : List Stage) (b r : Bool) (j : ℕ) (old new : List ℕ) → n < length ys → (r ≡ b) × (us ≡ slice_set ys n (looped_as b j)) → is_finished (stage_at ys (n + 1)) ≡ b
      → IsReachedNeatly ns doc (n + 1) xs ys old new → IsReachedNeatly ns doc n xs us old new
  neatly-loop k i e ys us b r j old new lt closes own body = go standing.1.0 (loop-at ns doc n k i e standing.1.0 standing.1.1)
    where
      go : (d : Tree) → LoopAt ns doc n k i d → IsReachedNeatly ns doc n xs us old new
      go _ (loop_at q inner w a f) =
          let same : end_at ns (n + 1) ≡ end_at ns n = omega (arith, f, (stood ns doc (n + 1) inner a).end) in
          let part : AreBlank n (end_at ns n) xs old → AreNeat ns doc (n + 1) (end_at ns n) ys new =
          λ h. subst (λ z. AreNeat ns doc (n + 1) z ys new) same (body.neat (blank-part n (end_at ns n) (n + 1) (end_at ns (n + 1)) xs old (omega arith) (omega (arith, same)) h)) in
          let off : SignsOutside (n + 1) (end_at ns n) old new = subst (λ z. SignsOutside (n + 1) z old new) same body.outside in
          subst (λ l. IsReachedNeatly ns doc n xs l old new) (sym closes.1)
          (over-neatly ys (looped_as b j) old new lt off body.count (λ c s h. here c (loop-at ns doc n k i e c s) s h (part h) off) part)
        where
          ended : (d : Bool) → b ≡ d → not (is_none (turns_of (looped_as b j))) ≡ false → stage_at ys (n + 1) ≡ Finished
          ended true e u = finished-stage (stage_at ys (n + 1)) (own ∙ e)
          ended false e u = let q : ◌≡◌ {A = Bool} true false = ap (λ z. not (is_none (turns_of (looped_as z j)))) (sym e) ∙ u in absurd (cc)

          here : (c : Tree) → LoopAt ns doc n k i c → Stands ns doc n c → AreBlank n (end_at ns n) xs old → AreNeat ns doc (n + 1) (end_at ns n) ys new → SignsOutside (n + 1) (end_at ns n) old new → IsNeat ns c n (slice_set ys n (looped_as b j)) new
          here _ (loop_at p turn v u g) s h inside off =
              over-own ys (looped_as b j) old new lt off (loop k p turn) s (h n (omega arith) below).1 (λ x d. refl)
              (λ z y o t. neat-finished ns doc (n + 1) turn ys new u (inside (n + 1) turn (omega arith) (omega (arith, g, some_count turn)) u) (ended b refl z) y o (omega (arith, t, g)))
              (λ one. absurd (cc))

-- branches

pub neatly-end : (ns : List Entry) (doc : Recipe) (n m : ℕ) (single over : Bool) (xs : List Stage) (old : List ℕ) → n ≡ m → IsRowNeat ns doc n m single over xs xs old old over
neatly-end ns doc n m single over xs old e = record {
  count = refl;
  outside = signs-same n m old;
  neat = λ h j c a b s. absurd (omega (arith, e));
  over = λ h o. (o, λ k a b. absurd (omega (arith, e)));
  lone = λ one h i a b. absurd (omega (arith, e));
}

both-true : (a b : Bool) → (a && b) ≡ true → (a ≡ true) × (b ≡ true)
both-true true true e = (refl, refl)
both-true x1 x2 x3 = absurd (grind arith)

module _ (ns : List Entry) (doc : Recipe) (n m : ℕ) (c : Tree) (s : Stands ns doc n c) (fits : end_at ns n ≤ m) (rest : AreNested ns doc (end_at ns n) m) where
  row-end : end_at ns n ≡ n + node_count c
  row-end = (stood ns doc n c s).end

  row-below : n < end_at ns n
  row-below = omega (arith, row-end, some_count c)

  row-nest : AreNested ns doc n (end_at ns n)
  row-nest = nests ns doc n c s

  all-first : (ys : List Stage) (new : List ℕ) → AreNeat ns doc n (end_at ns n) ys new → is_finished (stage_at ys n) ≡ true → AllFinished n (end_at ns n) ys
  all-first ys new h u k a b = neat-finished ns doc n c ys new s (h n c (omega arith) row-below s) (finished-stage (stage_at ys n) u) k a (omega (arith, b, row-end))

  -- the first branch is reached, and nothing after it
  pub row-here : (single over : Bool) (xs ys : List Stage) (old new : List ℕ) (b : Bool) → AgreeOutside n (end_at ns n) xs ys → is_finished (stage_at ys n) ≡ b → (b ≡ true → over ≡ true) → IsReachedNeatly ns doc n xs ys old new → IsRowNeat ns doc n m single over xs ys old new b
  row-here single over xs ys old new b outside own so r = record {
    count = r.count;
    outside = signs-wider n (end_at ns n) n m old new (omega arith) fits r.outside;
    neat = λ h. neat-join ns doc n (end_at ns n) m ys new (r.neat (first h)) (blank-neat ns doc (end_at ns n) m ys new rest (later h));
    over = λ h o. (
      so o,
      λ k p q. elim (cases_lt k (end_at ns n)) [
        | inl lt ↦ all-first ys new (r.neat (first h)) (own ∙ o) k p lt
        | inr le ↦ (later h k le q).0
      ],
    );
    lone = λ one h i p q root u k v w out. elim (cases_lt i (end_at ns n)) [
      | inl lt ↦ elim (eqb_tells i n) [
        | inl e ↦ (later h k (let z : end_at ns i ≡ end_at ns n = ap (end_at ns) e.1 in let y = e.1 in elim out [ inl f ↦ absurd (omega arith) | inr f ↦ omega (arith, f, z) ]) w).0
        | inr e ↦ (let d = e.1 in absurd (omega (arith, root n (omega arith) (omega arith))))
      ]
      | inr le ↦ absurd (unfinished-not (stage_at ys i) (later h i le q).0 u)
    ];
  }
    where
      first : AreBlank n m xs old → AreBlank n (end_at ns n) xs old
      first h = blank-part n m n (end_at ns n) xs old (omega arith) fits h

      later : AreBlank n m xs old → AreBlank (end_at ns n) m ys new
      later h = blank-same (end_at ns n) m xs ys old new (λ k a b. (outside k (inr a), r.outside k (inr a))) (blank-part n m (end_at ns n) m xs old (omega (arith, row-below)) (omega arith) h)

  -- the first branch is reached, and those after it
  pub row-more : (single over a : Bool) (xs ys zs : List Stage) (old mid new : List ℕ) (b : Bool) → AgreeOutside n (end_at ns n) xs ys → AgreeOutside (end_at ns n) m ys zs → is_finished (stage_at ys n) ≡ a → (single ≡ true → a ≡ true)
      → IsReachedNeatly ns doc n xs ys old mid → IsRowNeat ns doc (end_at ns n) m single (over && a) ys zs mid new b → IsRowNeat ns doc n m single over xs zs old new b
  row-more single over a xs ys zs old mid new b outside beyond own so r rs = record {
    count = rs.count ∙ r.count;
    outside = signs-join n (end_at ns n) m old mid new (omega (arith, row-below)) fits r.outside rs.outside;
    neat = λ h. neat-join ns doc n (end_at ns n) m zs new (front h) (rs.neat (later h));
    over = λ h o. (let q = rs.over (later h) o in let f = both-true over a q.0 in (
      f.0,
      λ k u v. elim (cases_lt k (end_at ns n)) [
        | inl lt ↦ all-first zs new (front h) (ap is_finished (beyond n (inl row-below)) ∙ own ∙ f.1) k u lt
        | inr le ↦ q.1 k le v
      ],
    ));
    lone = λ one h i p q root u k v w out. (
        let gone : is_finished (stage_at zs n) ≡ true = ap is_finished (beyond n (inl row-below)) ∙ own ∙ so one in
        elim (cases_lt i (end_at ns n)) [
          | inl lt ↦ absurd (unfinished-not (stage_at zs i) (all-first zs new (front h) gone i p lt) u)
          | inr le ↦ elim (cases_lt k (end_at ns n)) [
            | inl lt ↦ all-first zs new (front h) gone k v lt
            | inr ge ↦ rs.lone one (later h) i le q (λ j f g. root j (omega (arith, row-below, f)) g) u k ge w out
          ]
        ]);
  }
    where
      front : AreBlank n m xs old → AreNeat ns doc n (end_at ns n) zs new
      front h = neat-same ns doc n (end_at ns n) ys zs mid new row-nest (λ k a b. beyond k (inl b)) (λ k a b. rs.outside k (inl b)) (r.neat (blank-part n m n (end_at ns n) xs old (omega arith) fits h))

      later : AreBlank n m xs old → AreBlank (end_at ns n) m ys mid
      later h = blank-same (end_at ns n) m xs ys old mid (λ k a b. (outside k (inr a), r.outside k (inr a))) (blank-part n m (end_at ns n) m xs old (omega (arith, row-below)) (omega arith) h)

-- the requirements of calls on branches

module _ (ns : List Entry) (doc : Recipe) (xs : List Stage) (n m : ℕ) (ne : n ≢ m) (h : HaveTrees ns doc xs n m) where
  row-first : HasTree ns doc xs n
  row-first = first-standing ns doc xs n m ne h

  row-rest : AreNested ns doc (end_at ns n) m
  row-rest = nests-below ns doc n (end_at ns n) m (omega (arith, below-end ns doc xs n row-first)) (nests-each ns doc n m h.1.0 h.1.1)

  pub neatly-later : (single over a : Bool) (ys zs : List Stage) (old mid new : List ℕ) (b : Bool) → AgreeOutside n (end_at ns n) xs ys → AgreeOutside (end_at ns n) m ys zs → is_finished (stage_at ys n) ≡ a → (single ≡ true → a ≡ true)
      → IsReachedNeatly ns doc n xs ys old mid → IsRowNeat ns doc (end_at ns n) m single (over && a) ys zs mid new b → IsRowNeat ns doc n m single over xs zs old new b
  neatly-later single over a ys zs old mid new b = row-more ns doc n m row-first.1.0 row-first.1.1 (first-end ns doc xs n m ne h) row-rest single over a xs ys zs old mid new b

  pub neatly-here : (single over : Bool) (ys : List Stage) (old new : List ℕ) → AgreeOutside n (end_at ns n) xs ys → is_finished (stage_at ys n) ≡ false → IsReachedNeatly ns doc n xs ys old new → IsRowNeat ns doc n m single over xs ys old new false
  neatly-here single over ys old new outside own = row-here ns doc n m row-first.1.0 row-first.1.1 (first-end ns doc xs n m ne h) row-rest single over xs ys old new false outside own (λ e. absurd (cc))

module _ (ns : List Entry) (doc : Recipe) (xs : List Stage) (i n m : ℕ) (h : HaveChoices ns doc xs i n m) where
  choice-first : HasTree ns doc xs n
  choice-first = choice-standing ns doc xs i n m h

  choice-rest : AreNested ns doc (end_at ns n) m
  choice-rest = nests-below ns doc n (end_at ns n) m (omega (arith, below-end ns doc xs n choice-first)) (nests-choices ns doc i n m h.1.0 h.1.1)

  pub neatly-chosen : (ys : List Stage) (old new : List ℕ) (b : Bool) → AgreeOutside n (end_at ns n) xs ys → is_finished (stage_at ys n) ≡ b → IsReachedNeatly ns doc n xs ys old new → IsRowNeat ns doc n m true true xs ys old new b
  neatly-chosen ys old new b outside own = row-here ns doc n m choice-first.1.0 choice-first.1.1 (choice-end ns doc xs i n m h) choice-rest true true xs ys old new b outside own (λ e. refl)

  pub neatly-passed : (zs : List Stage) (old new : List ℕ) (b : Bool) → n < length xs → AgreeOutside (end_at ns n) m (slice_set xs n Finished) zs → IsRowNeat ns doc (end_at ns n) m true true (slice_set xs n Finished) zs old new b → IsRowNeat ns doc n m true true xs zs old new b
  neatly-passed zs old new b lt beyond =
      row-more ns doc n m choice-first.1.0 choice-first.1.1 (choice-end ns doc xs i n m h) choice-rest true true true xs (slice_set xs n Finished) zs old old new b
      (outside-set xs xs n (end_at ns n) Finished (below-end ns doc xs n choice-first) (outside-same xs (n + 1) (end_at ns n))) beyond
      (ap is_finished (stage-set_same xs n Finished lt)) (λ e. refl) (neatly-none ns doc xs n choice-first old lt)
