-- Ready acts take over the units held for them in advance.
use Rattle.std.proofs.Common.{◌≡◌, ◌≢◌, ◌⊎◌, inl, inr, ◌<◌, ◌≤◌, ℕ, zero, suc, ◌+◌, List, [], ◌∷◌, length, take, Bool, true, false, ◌||◌, nat_eq, nat_lt, arith, refl, sym, ◌∙◌, subst, ap, ap₂}
use Rattle.std.{proofs.lemmas.Bool.Decides.eqb_tells, proofs.lemmas.Bool.Decides.nat_tests, specs.Prelude.slice_set, specs.Prelude.slice_index_or, proofs.Math.Dec.eqb}
use Rattle.batch_recipe.specs.{Tree.Place, Tree.Step, Tree.Task, Tree.runs, Tree.follows, Tree.Tree, Tree.act, Tree.skip, Tree.seq, Tree.par, Tree.sel, Tree.loop, declared.entry.Entry.Entry, declared.recipe.Recipe.Recipe}
use Rattle.batch_model.{specs.Lists.Has, specs.Rest.same_place, specs.Rest.Rest, specs.Rest.ready, specs.Rest.asking, specs.Rest.open_act, specs.Rest.live, specs.Rest.freeing, specs.Rest.in_seq, specs.Rest.in_par, specs.Rest.in_loop, specs.Rest.done, specs.Rest.Rests, specs.Rest.no_rests, specs.Rest.rest, specs.Rest.acts, specs.Rest.acts_of_each, specs.Rest.changed_at, specs.Rest.changed_in_each, specs.Rest.is_done, specs.Rest.place_of, proofs.Members.Has-left, proofs.Members.Has-right}
use Rattle.batch_step_laws.proofs.WorkAfterChange.{to_same_place}
use Rattle.batch_chart.{specs.declared.node.Kind.Kind, specs.declared.stage.Stage.Stage, specs.declared.stage.Stage.TheVariants.Ready, specs.Early.is_early, specs.Early.is_ready, specs.Early.taking_first, specs.Early.taken_by, specs.Early.taken_by_each, specs.Early.is_of, specs.Early.to_at, specs.Early.first_held, specs.Early.IsTakenTo, specs.Early.IsTakenAt, specs.Early.IsTakenBy, specs.declared.passed.Passed.Passed, specs.Meaning.meaning, specs.Meaning.meaning_below, specs.Meaning.meaning_each, specs.Meaning.act_as, specs.Meaning.loop_as, specs.Meaning.meaning_of_branch, specs.Meaning.chosen, specs.Needs.needs_of_kind, specs.NodesOf.node_at, specs.NodesOf.place_at, specs.Noting.HasCome, specs.Outlined.kind_at, specs.Outlined.is_act_kind, specs.Outlined.Stands, specs.Running.IsLaid, specs.Running.IsAlive, specs.Running.IsChangedOnly, specs.Running.SomeLives, specs.Stages.stage_at, specs.Stages.is_finished, specs.Stages.is_begun, specs.Stages.turns_of, specs.Told.TellsWhetherOver, specs.Upkeep.IsKeptUp, proofs.StageAgreement.stage-set_same, proofs.StageAgreement.stage-set_other, proofs.KnownTests.chosen-false, proofs.NextMoves.known, proofs.ActAfterMove.calm-ready, proofs.NodesAtNumbers.node-stands, proofs.ChartChange.Fits, proofs.ChartChange.fits-count, proofs.ChartChange.IsGood, proofs.ChartChange.set-step, proofs.ChartChange.set-calm, proofs.ChartChange.set-told, proofs.ChartChange.stepped, proofs.ChartChange.calmed, proofs.ChartChange.number-at-place, proofs.ChartChange.all-told, proofs.SignUpkeep.same-kept, proofs.SignUpkeep.come-kept}

-- The acts after that

mutual
  pub taken-none : (q : Place → Bool) → ((p : Place) → q p ≡ false) → (r : Rest) → taken_by q r ≡ r
  taken-none q h (ready s w k) = chosen-false (q s.place) (ready s w (length (take 1 s.needs))) (ready s w k) (h s.place)
  taken-none q h (asking s w k) = refl
  taken-none q h (open_act s r) = ap (open_act s) (taken-none q h r)
  taken-none q h (live s x t) = refl
  taken-none q h (freeing s k) = refl
  taken-none q h (in_seq r cs) = ap (λ z. in_seq z cs) (taken-none q h r)
  taken-none q h (in_par rs) = ap in_par (taken-none_each q h rs)
  taken-none q h (in_loop n c body r) = ap (in_loop n c body) (taken-none q h r)
  taken-none q h done = refl

  taken-none_each : (q : Place → Bool) → ((p : Place) → q p ≡ false) → (rs : Rests) → taken_by_each q rs ≡ rs
  taken-none_each q h no_rests = refl
  taken-none_each q h (rest r rs) = ap₂ rest (taken-none q h r) (taken-none_each q h rs)

abbrev IsReadyAct : Rest → Type 0
IsReadyAct a = (s : Step) × (w : Task) × (k : ℕ) × (a ≡ ready s w k)

same-arms : (t : Bool) (a : Rest) → elim t as (λ _. Rest) [ true ↦ a | false ↦ a ] ≡ a
same-arms true a = refl
same-arms false a = refl

-- one more of them has been changed
module _ (h : Place) (q : Place → Bool) where
  ready-again : (s : Step) (w : Task) (k : ℕ) (u : Bool)
      → changed_at h taking_first (elim u as (λ _. Rest) [ true ↦ ready s w (length (take 1 s.needs)) | false ↦ ready s w k ])
      ≡ elim (same_place s.place h || u) as (λ _. Rest) [ true ↦ ready s w (length (take 1 s.needs)) | false ↦ ready s w k ]
  ready-again s w k true = arms (same_place s.place h)
    where
      arms : (t : Bool) → elim t as (λ _. Rest) [ true ↦ ready s w (length (take 1 s.needs)) | false ↦ ready s w (length (take 1 s.needs)) ]
          ≡ elim (t || true) as (λ _. Rest) [ true ↦ ready s w (length (take 1 s.needs)) | false ↦ ready s w k ]
      arms true = refl
      arms false = refl
  ready-again s w k false = arms (same_place s.place h)
    where
      arms : (t : Bool) → elim t as (λ _. Rest) [ true ↦ ready s w (length (take 1 s.needs)) | false ↦ ready s w k ]
          ≡ elim (t || false) as (λ _. Rest) [ true ↦ ready s w (length (take 1 s.needs)) | false ↦ ready s w k ]
      arms true = refl
      arms false = refl

  abbrev AllReady : List Rest → Type 0
  AllReady reached = (a : Rest) → Has reached a → place_of a ≡ h → IsReadyAct a

  abbrev more : Place → Bool
  more = λ p. same_place p h || q p

  mutual
    changed-taken : (r : Rest) → AllReady (acts (taken_by q r)) → changed_at h taking_first (taken_by q r) ≡ taken_by more r
    changed-taken (ready s w k) f = ready-again s w k (q s.place)
    changed-taken (asking s w k) f = same-arms (same_place s.place h) (asking s w k)
    changed-taken (open_act s r) f = go (same_place s.place h) refl (changed-taken r (λ a i. f a (inr i)))
      where
        go : (t : Bool) → same_place s.place h ≡ t → changed_at h taking_first (taken_by q r) ≡ taken_by more r
            → elim t as (λ _. Rest) [ true ↦ open_act s (taken_by q r) | false ↦ open_act s (changed_at h taking_first (taken_by q r)) ] ≡ open_act s (taken_by more r)
        go true e below =
            let g = f (open_act s (taken_by q r)) (inl refl) (to_same_place s.place h e) in
            let bad : open_act s (taken_by q r) ≡ ready g.0 g.1 g.2 = g.3 in absurd (cc)
        go false e below = ap (open_act s) below
    changed-taken (live s x t) f = same-arms (same_place s.place h) (live s x t)
    changed-taken (freeing s k) f = same-arms (same_place s.place h) (freeing s k)
    changed-taken (in_seq r cs) f = ap (λ z. in_seq z cs) (changed-taken r f)
    changed-taken (in_par rs) f = ap in_par (changed-taken_each rs f)
    changed-taken (in_loop n c body r) f = ap (in_loop n c body) (changed-taken r f)
    changed-taken done f = refl

    changed-taken_each : (rs : Rests) → AllReady (acts_of_each (taken_by_each q rs)) → changed_in_each h taking_first (taken_by_each q rs) ≡ taken_by_each more rs
    changed-taken_each no_rests f = refl
    changed-taken_each (rest r rs) f =
        ap₂ rest (changed-taken r (λ a i. f a (Has-left (acts (taken_by q r)) (acts_of_each (taken_by_each q rs)) a i)))
        (changed-taken_each rs (λ a i. f a (Has-right (acts (taken_by q r)) (acts_of_each (taken_by_each q rs)) a i)))

-- tests that agree on the ready acts
mutual
  pub taken-alike : (q u : Place → Bool) (r : Rest) → ((s : Step) (w : Task) (k : ℕ) → Has (acts r) (ready s w k) → q s.place ≡ u s.place) → taken_by q r ≡ taken_by u r
  taken-alike q u (ready s w k) f = ap (λ b. elim b as (λ _. Rest) [ true ↦ ready s w (length (take 1 s.needs)) | false ↦ ready s w k ]) (f s w k (inl refl))
  taken-alike q u (asking s w k) f = refl
  taken-alike q u (open_act s r) f = ap (open_act s) (taken-alike q u r (λ t w k i. f t w k (inr i)))
  taken-alike q u (live s x t) f = refl
  taken-alike q u (freeing s k) f = refl
  taken-alike q u (in_seq r cs) f = ap (λ z. in_seq z cs) (taken-alike q u r f)
  taken-alike q u (in_par rs) f = ap in_par (taken-alike_each q u rs f)
  taken-alike q u (in_loop n c body r) f = ap (in_loop n c body) (taken-alike q u r f)
  taken-alike q u done f = refl

  taken-alike_each : (q u : Place → Bool) (rs : Rests) → ((s : Step) (w : Task) (k : ℕ) → Has (acts_of_each rs) (ready s w k) → q s.place ≡ u s.place) → taken_by_each q rs ≡ taken_by_each u rs
  taken-alike_each q u no_rests f = refl
  taken-alike_each q u (rest r rs) f =
      ap₂ rest (taken-alike q u r (λ s w k i. f s w k (Has-left (acts r) (acts_of_each rs) (ready s w k) i)))
      (taken-alike_each q u rs (λ s w k i. f s w k (Has-right (acts r) (acts_of_each rs) (ready s w k) i)))

-- One act

first-is : {X : Type 0} (l : List X) → length (take 1 l) ≡ first_held (length l)
first-is [] = refl
first-is (x ∷ l) = go (nat_lt 0 (length (x ∷ l))) (grind (arith, nat_tests))
  where
    go : (t : Bool) → t ≡ true → 1 ≡ elim t as (λ _. ℕ) [ true ↦ 1 | false ↦ 0 ]
    go true e = refl
    go false e = absurd (cc)

take-short : {X : Type 0} (l : List X) → length (take 1 l) ≤ length l
take-short [] = omega arith
take-short (x ∷ l) = omega arith

good-taking : (κ : Kind) (h m : ℕ) → m ≡ first_held (needs_of_kind κ) → (s : Step) (w : Task) (r : Rest) → Fits κ s w → IsGood taking_first (Ready h) (Ready m) s w r
good-taking κ h m e s w r f = (refl, ap (ready s w) (first-is s.needs ∙ ap first_held (fits-count κ s w f) ∙ sym e), λ t v q. (q.0, q.1, take-short s.needs))

-- a ready node is an act
module _ (ns : List Entry) (doc : Recipe) (xs : List Stage) (n h : ℕ) (ready_here : stage_at xs n ≡ Ready h) where
  undone : (r : Rest) → r ≡ done → is_finished (stage_at xs n) ≡ is_done r → ⊥
  undone r e f = let q : ◌≡◌ {A = Bool} true false = sym (f ∙ ap is_done e) ∙ ap is_finished ready_here in cc

  ready-acts : (c : Tree) → Stands ns doc n c → TellsWhetherOver c n xs → is_act_kind (kind_at ns n) ≡ true
  ready-acts (act s (runs p)) st told = ap is_act_kind st.1.1
  ready-acts (act s (follows name c)) st told = ap is_act_kind st.0.1
  ready-acts skip st told = absurd (undone done refl told.finished)
  ready-acts (seq ts) st told = absurd (undone (meaning (seq ts) n xs) (chosen-false (is_begun (stage_at xs n)) (meaning_of_branch ts (n + 1) xs) done (ap is_begun ready_here)) told.finished)
  ready-acts (par ts) st told = absurd (undone (meaning (par ts) n xs) (chosen-false (is_begun (stage_at xs n)) (in_par (meaning_each ts (n + 1) xs)) done (ap is_begun ready_here)) told.finished)
  ready-acts (sel ch) st told = absurd (undone (meaning (sel ch) n xs) (chosen-false (is_begun (stage_at xs n)) (chosen ch (n + 1) xs) done (ap is_begun ready_here)) told.finished)
  ready-acts (loop k p body) st told = absurd (undone (meaning (loop k p body) n xs) (ap (λ x. loop_as (turns_of x) p body (meaning body (n + 1) xs)) ready_here) told.finished)

  pub ready-act_at : (t : Tree) → IsLaid ns doc t → IsAlive t xs → n < length ns → is_act_kind (kind_at ns n) ≡ true
  ready-act_at t laid alive lt =
      let here = node-stands ns doc t laid n lt in
      ready-acts (node_at t n).here here (all-told ns doc t laid xs alive n (node_at t n).here (omega arith) lt here)

taking-next : (ns : List Entry) (doc : Recipe) (xs : List Stage) (k h m : ℕ) → k < length ns → is_act_kind (kind_at ns k) ≡ true → stage_at xs k ≡ Ready h → m ≡ first_held (needs_of_kind (kind_at ns k))
    → IsChangedOnly ns doc k taking_first xs (slice_set xs k (Ready m))
taking-next ns doc xs k h m lt acting was e =
    record {
      means = λ t laid alive.
          (let step = set-step ns doc xs t laid alive k taking_first (Ready h) (Ready m) (kind_at ns k) lt refl acting was refl (good-taking (kind_at ns k) h m e) in
          let c = calmed ns doc t laid xs alive k taking_first (slice_set xs k (Ready m)) step
          (set-calm ns doc xs k (Ready h) (Ready m) (kind_at ns k) (omega (arith, laid.count, alive.fits, lt)) refl acting was (λ s w r f. calm-ready (Ready h) m s w r)) (set-told ns doc t laid xs k (Ready m) lt) in
          (c.0, stepped ns doc t laid xs alive k taking_first (slice_set xs k (Ready m)) step, c.1));
    }

-- Node by node

module _ (ns : List Entry) (doc : Recipe) (held : List Passed) (xs : List Stage) (old : List ℕ) where
  pub taken-first : IsTakenTo ns doc held 0 xs xs old old
  taken-first = record {
    taken = [];
    means = λ t laid alive. (alive, sym (taken-none (is_of t []) (λ p. refl) (meaning t 0 xs)));
    kept = same-kept ns doc xs old;
    were = λ k h. absurd h;
    all = λ j lt e. absurd (omega arith);
    ready = λ k. refl;
  }

  module _ (i : ℕ) (ys : List Stage) (new : List ℕ) (h : IsTakenTo ns doc held i xs ys old new) where
    weaker : (k : ℕ) → (j : ℕ) × (j < i) × (to_at held j ≡ k) → (j : ℕ) × (j < i + 1) × (to_at held j ≡ k)
    weaker k m = (m.0, omega (arith, m.1), m.2)

    -- nothing ready is at the node
    taken-not : is_ready (stage_at ys (to_at held i)) ≡ false → IsTakenTo ns doc held (i + 1) xs ys old new
    taken-not idle = record {
      taken = h.taken;
      means = h.means;
      kept = h.kept;
      were = λ k q. (let w = h.were k q in (weaker k w.0, w.1));
      all = λ j lt e. elim (eqb_tells j i) [
        | inl q ↦ absurd (let d : ◌≡◌ {A = Bool} true false = sym e ∙ ap (λ z. is_ready (stage_at xs (to_at held z))) q.1 ∙ sym (h.ready (to_at held i)) ∙ idle in cc)
        | inr q ↦ h.all j (omega (arith, lt, q.1)) e
      ];
      ready = h.ready;
    }

    -- the act there takes its unit over
    module _ (j m : ℕ) (zs : List Stage) (signs : List ℕ) (was : stage_at ys (to_at held i) ≡ Ready j) (inside : to_at held i < length ns) (first : m ≡ first_held (needs_of_kind (kind_at ns (to_at held i))))
        (come : HasCome ns (to_at held i) (Ready m) ys zs new signs) (lives : SomeLives ns doc xs) (count : length old ≡ length ns) where
      ys-alive : IsAlive lives.0 ys
      ys-alive = (h.means lives.0 lives.1 lives.2).0

      fits : length ys ≡ length ns
      fits = ys-alive.fits ∙ sym lives.1.count

      acting : is_act_kind (kind_at ns (to_at held i)) ≡ true
      acting = ready-act_at ns doc ys (to_at held i) j was lives.0 lives.1 ys-alive inside

      ready_before : is_ready (stage_at xs (to_at held i)) ≡ true
      ready_before = sym (h.ready (to_at held i)) ∙ ap is_ready was

      one-ready : (t : Tree) → IsLaid ns doc t → (a : Rest) → Has (acts (meaning t 0 ys)) a → place_of a ≡ place_at t (to_at held i) → IsReadyAct a
      one-ready t laid a l e =
          let g = known ns doc ys t laid (to_at held i, a) (number-at-place ns doc t laid ys (to_at held i) a inside l e) in
          (g.step, g.task, j, g.is ∙ ap (act_as g.step g.task (meaning_below g.task (to_at held i + 1) ys)) was)

      now-taken : (t : Tree) → IsLaid ns doc t → IsAlive t xs → IsAlive t zs × (meaning t 0 zs ≡ taken_by (is_of t (to_at held i ∷ h.taken)) (meaning t 0 xs))
      now-taken t laid alive =
          let a = h.means t laid alive in
          let c = (taking-next ns doc ys (to_at held i) j m inside acting was first).means t laid a.0 in (
            subst (IsAlive t) (sym come.stages) c.0,
            ap (meaning t 0) come.stages ∙ c.1 ∙ ap (changed_at (place_at t (to_at held i)) taking_first) a.1
                ∙ changed-taken (place_at t (to_at held i)) (is_of t h.taken) (meaning t 0 xs) (λ b l e. one-ready t laid b (subst (λ r. Has (acts r) b) (sym a.1) l) e),
          )

      now-kept : IsKeptUp ns doc xs zs old signs
      now-kept =
          let k = come-kept ns doc ys zs new signs (lives.0, lives.1, ys-alive) (h.kept.count ∙ count) (to_at held i) (Ready j) (Ready m) inside acting tt tt was come in
          record { count = k.count ∙ h.kept.count; keeps = λ z. k.keeps (h.kept.keeps z) }

      now-ready : (k : ℕ) → is_ready (stage_at zs k) ≡ is_ready (stage_at xs k)
      now-ready k = elim (eqb_tells k (to_at held i)) [
        | inl q ↦
            subst (λ z. is_ready (stage_at zs z) ≡ is_ready (stage_at xs z)) (sym q.1)
            (ap is_ready (ap (λ l. stage_at l (to_at held i)) come.stages ∙ stage-set_same ys (to_at held i) (Ready m) (omega (arith, inside, fits))) ∙ sym ready_before)
        | inr q ↦ ap is_ready (ap (λ l. stage_at l k) come.stages ∙ stage-set_other ys (to_at held i) k (Ready m) q.1) ∙ h.ready k
      ]

      taken-one : IsTakenTo ns doc held (i + 1) xs zs old signs
      taken-one = record {
        taken = to_at held i ∷ h.taken;
        means = now-taken;
        kept = now-kept;
        were = λ k q. elim q [
          | inl e ↦ ((i, omega arith, e), ap (λ z. is_ready (stage_at xs z)) (sym e) ∙ ready_before)
          | inr l ↦ (weaker k (h.were k l).0, (h.were k l).1)
        ];
        all = λ l lt e. elim (eqb_tells l i) [
          | inl q ↦ inl (ap (to_at held) (sym q.1))
          | inr q ↦ inr (h.all l (omega (arith, lt, q.1)) e)
        ];
        ready = now-ready;
      }

    pub taken-next : (zs : List Stage) (signs : List ℕ) → IsTakenAt ns (to_at held i) ys zs new signs → to_at held i < length ns → SomeLives ns doc xs → length old ≡ length ns → IsTakenTo ns doc held (i + 1) xs zs old signs
    taken-next zs signs at inside lives count = go at
      where
        go : IsTakenAt ns (to_at held i) ys zs new signs → IsTakenTo ns doc held (i + 1) xs zs old signs
        go (inl a) = taken-one a.0 (first_held (needs_of_kind (kind_at ns (to_at held i)))) zs signs a.1 inside refl a.2 lives count
        go (inr a) = subst (λ z. IsTakenTo ns doc held (i + 1) xs z old signs) (sym a.1) (subst (λ z. IsTakenTo ns doc held (i + 1) xs ys old z) (sym a.2) (taken-not a.0))

    pub as-many-stages : SomeLives ns doc xs → length ys ≡ length ns
    as-many-stages lives = (h.means lives.0 lives.1 lives.2).0.fits ∙ sym lives.1.count

-- those that hold in advance, by their numbers

early-at : (held : List Passed) (k : ℕ) → is_early held k ≡ true → (j : ℕ) × (j < length held) × (to_at held j ≡ k)
early-at [] k e = absurd (cc)
early-at (p ∷ held) k e = elim (eqb_tells p.to k) [
  | inl q ↦ (0, omega arith, q.1)
  | inr q ↦ (let m = early-at held k (ap (λ b. b || is_early held k) (sym q.0) ∙ e) in (suc m.0, omega (arith, m.1), m.2))
]

pub at-early : (held : List Passed) (k j : ℕ) → j < length held → to_at held j ≡ k → is_early held k ≡ true
at-early [] k j lt e = absurd (omega arith)
at-early (p ∷ held) k zero lt e = elim (eqb_tells p.to k) [
  | inl q ↦ ap (λ b. b || is_early held k) q.0
  | inr q ↦ absurd (q.1 e)
]
at-early (p ∷ held) k (suc j) lt e = later (nat_eq p.to k) (is_early held k) (at-early held k j (omega arith) e)
  where
    later : (t u : Bool) → u ≡ true → (t || u) ≡ true
    later true u e = refl
    later false u e = e

pub early-none : (held : List Passed) (k : ℕ) → ((j : ℕ) → j < length held → nat_eq (to_at held j) k ≡ false) → is_early held k ≡ false
early-none [] k h = refl
early-none (p ∷ held) k h = ap₂ (λ a b. a || b) (h 0 (omega arith)) (early-none held k (λ j lt. h (suc j) (omega arith)))

pub none-more : (held : List Passed) (k j : ℕ) → ((i : ℕ) → i < j → nat_eq (to_at held i) k ≡ false) → to_at held j ≢ k → (i : ℕ) → i < j + 1 → nat_eq (to_at held i) k ≡ false
none-more held k j h ne i lt = elim (eqb_tells i j) [
  | inl q ↦ ap (λ z. nat_eq (to_at held z) k) q.1 ∙ other (eqb_tells (to_at held j) k)
  | inr q ↦ h i (omega (arith, lt, q.1))
]
  where
    other : ((eqb (to_at held j) k ≡ true) × (to_at held j ≡ k)) ⊎ ((eqb (to_at held j) k ≡ false) × (to_at held j ≢ k)) → nat_eq (to_at held j) k ≡ false
    other (inl q) = absurd (ne q.1)
    other (inr q) = q.0

-- an entry that is read, whatever is read past the end
pub read-at : (held : List Passed) (j : ℕ) (p : Passed) → j < length held → p ≡ slice_index_or held j p → to_at held j ≡ p.to
read-at held j p lt e = ap (λ (q : Passed). q.to) (alike held j lt ∙ sym e)
  where
    alike : (held : List Passed) (j : ℕ) → j < length held → slice_index_or held j (record { to = 0; node = 0; need = 0 }) ≡ slice_index_or held j p
    alike [] j lt = absurd (omega arith)
    alike (x ∷ held) zero lt = refl
    alike (x ∷ held) (suc j) lt = alike held j (omega arith)

pub taken-end : (ns : List Entry) (doc : Recipe) (held : List Passed) (xs ys : List Stage) (old new : List ℕ) (end : ℕ) → end ≡ length held → IsTakenTo ns doc held end xs ys old new → IsTakenBy ns doc (is_early held) xs ys old new
taken-end ns doc held xs ys old new end last h = record {
  taken = h.taken;
  means = h.means;
  kept = h.kept;
  were = λ k q. (let w = h.were k q in (at-early held k w.0.0 (let l = w.0.1 in omega (arith, l, last)) w.0.2, w.1));
  all = λ k e f. (let m = early-at held k e in subst (Has h.taken) m.2 (h.all m.0 (let l = m.1 in omega (arith, l, last)) (ap (λ z. is_ready (stage_at xs z)) m.2 ∙ f)));
  ready = h.ready;
}

not-ready : (x : Stage) → ((h : ℕ) → x ≡ Ready h → ⊥) → is_ready x ≡ false
not-ready (Ready h) f = absurd (f h refl)
not-ready x f = refl

module _ (ns : List Entry) (n : ℕ) (xs : List Stage) (old : List ℕ) where
  -- a ready act gets its first need
  pub taken-at : (j m : ℕ) (ys : List Stage) (new : List ℕ) → stage_at xs n ≡ Ready j → m ≡ first_held (needs_of_kind (kind_at ns n)) → HasCome ns n (Ready m) xs ys old new → IsTakenAt ns n xs ys old new
  taken-at j m ys new was e come = inl (j, was, subst (λ z. HasCome ns n (Ready z) xs ys old new) e come)

  pub idle-at : ((h : ℕ) → stage_at xs n ≡ Ready h → ⊥) → IsTakenAt ns n xs xs old old
  idle-at f = inr (not-ready (stage_at xs n) f, refl, refl)
