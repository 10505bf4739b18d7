-- Charts whose root is ready, and those in which no act stands in line.
use Rattle.std.proofs.Common.{◌≡◌, ◌⊎◌, inl, inr, ◌<◌, ◌≤◌, [], ◌∷◌, length, arith, below_more, ℕ, zero, suc, ◌+◌, List, true, false, refl, sym, ◌∙◌, ap, subst, length-set, replicate, Bool, nat_eq}
use Rattle.std.{specs.Prelude.Option, specs.Prelude.Some, specs.Prelude.None, specs.Prelude.slice_set, proofs.lemmas.Bool.cases_lt, proofs.lemmas.Bool.Decides.eqb_tells, proofs.lemmas.List.get_or_past, proofs.lemmas.List.get_or-replicate, proofs.lemmas.List.length-replicate}
use Rattle.batch_recipe.{specs.Conditions.ValueList, specs.declared.condition.Condition.Condition, specs.Nodes.node_count, specs.Tree.Step, specs.Tree.Task, specs.Tree.runs, specs.Tree.follows, specs.Tree.Tree, specs.Tree.act, specs.Tree.skip, specs.Tree.seq, specs.Tree.par, specs.Tree.sel, specs.Tree.loop, specs.Tree.Trees, specs.Tree.no_trees, specs.Tree.tree, specs.Tree.Choices, specs.Tree.otherwise, specs.Tree.choice, specs.declared.entry.Entry.Entry, specs.declared.recipe.Recipe.Recipe, proofs.NodeSubtrees.some_count}
use Rattle.batch_model.specs.{Rest.Rest, Rest.ready, Rest.in_seq, Rest.in_par, Rest.done, Rest.rest, Rest.is_done, Rest.withdrawn, Rest.withdrawn_each, Moves.freed, Settled.IsAdvanced, Standing.IsRestOf}
use Rattle.batch_step_laws.proofs.{AdvancedRests.reach-advanced, AdvancedRests.withdrawn-advanced, AdvancedRests.withdrawn-done, RestsAfterChange.withdrawn-IsRestOf, NodesOfRests.reach-IsRestOf}
use Rattle.batch_chart.{specs.declared.stage.Stage.Stage, specs.declared.stage.Stage.TheVariants.Finished, specs.declared.stage.Stage.TheVariants.Ready, specs.declared.stage.Stage.TheVariants.Asking, specs.declared.stage.Stage.TheVariants.Open, specs.declared.stage.Stage.TheVariants.Live, specs.declared.stage.Stage.TheVariants.Freeing, specs.declared.stage.Stage.TheVariants.Turning, specs.Stages.stage_at, specs.Stages.is_finished, specs.Stages.is_begun, specs.Stages.turns_of, specs.Meaning.act_as, specs.Meaning.loop_as, specs.Meaning.meaning, specs.Meaning.meaning_below, specs.Meaning.meaning_each, specs.Meaning.meaning_of_branch, specs.Meaning.chosen, specs.Running.IsActTree, specs.Running.IsAlive, specs.Outlined.end_at, specs.Outlined.kind_at, specs.Outlined.Stands, specs.declared.node.Kind.TheVariants.Act, specs.Neat.AllFinished, specs.Neat.AreNeat, specs.Needs.needs_of_kind, specs.Noting.stage_signs, specs.Starting.HasStarted, specs.Starting.AreStarted, specs.Starting.again, specs.Starting.HasWithdrawn, proofs.ReachedTreeSigns.neatly-ready, proofs.TreePositions.stood, specs.NodesOf.node_at, specs.Told.TellsWhetherOver, proofs.FinishedStages.told-finished, proofs.KnownTests.choice-map, proofs.StageAgreement.stage-set_same, proofs.StageAgreement.stage-set_other, specs.ByValues.bare, specs.ByValues.reach_by}
use Rattle.batch_chart.specs.declared.node.Kind.TheVariants as kind
use Rattle.batch_signs.specs.Signs.{sign_at}

ready-root : (t : Tree) (vs : ValueList) (xs : List Stage) → IsActTree t → stage_at xs 0 ≡ Ready 0 → meaning t 0 xs ≡ reach_by vs t
ready-root (act s w) vs xs h e = ap (λ x. act_as s w (meaning_below w 1 xs) x) e
ready-root x1 x2 x3 x4 x5 = absurd (grind arith)

told-ready : (s : Step) (w : Task) (n : ℕ) (xs : List Stage) → stage_at xs n ≡ Ready 0 → TellsWhetherOver (act s w) n xs
told-ready s w n xs e =
    let m : meaning (act s w) n xs ≡ ready s w 0 = ap (λ x. act_as s w (meaning_below w (n + 1) xs) x) e in
    record { finished = ap is_finished e ∙ sym (ap is_done m); advanced = subst IsAdvanced (sym m) tt }

-- the root is ready, and the stages of the others tell
told-root : (t : Tree) (xs : List Stage) → IsActTree t → stage_at xs 0 ≡ Ready 0 → ((n : ℕ) → 0 < n → n < node_count t → TellsWhetherOver (node_at t n).here n xs) → (n : ℕ) → n < node_count t → TellsWhetherOver (node_at t n).here n xs
told-root (act s w) xs h e others zero lt = told-ready s w 0 xs e
told-root t xs h e others (suc n) lt = others (suc n) (omega arith) lt
told-root x1 x2 x3 x4 x5 x6 x7 = absurd (grind arith)

alive-root : (t : Tree) (vs : ValueList) (xs : List Stage) → IsActTree t → length xs ≡ node_count t → stage_at xs 0 ≡ Ready 0 → ((n : ℕ) → 0 < n → n < node_count t → TellsWhetherOver (node_at t n).here n xs) → IsAlive t xs × (meaning t 0 xs ≡ reach_by vs t)
alive-root t vs xs h l e others =
    let m = ready-root t vs xs h e in
    (record { fits = l; stands = subst (IsRestOf t) (sym m) (reach-IsRestOf (bare vs) t); advanced = subst IsAdvanced (sym m) (reach-advanced (bare vs) t); told = told-root t xs h e others }, m)

pub has-started : (n : ℕ) (xs : List Stage) → (0 < n → length xs ≡ n) → stage_at xs 0 ≡ Ready 0 → ((k : ℕ) → 0 < k → stage_at xs k ≡ Finished) → HasStarted n xs
has-started n xs l e f = record { means = λ t vs h c. alive-root t vs xs h (l (let s = some_count t in omega arith) ∙ c) e (λ k a b. told-finished (node_at t k).here k xs (f k a)) }

-- nothing starts where there is no node
pub none-started : (n : ℕ) (xs : List Stage) → n ≡ 0 → HasStarted n xs
none-started n xs e = record { means = λ t vs h c. absurd (let s = some_count t in omega (arith, e, c, s)) }

pub stage-past : (xs : List Stage) (k : ℕ) → length xs ≤ k → stage_at xs k ≡ Finished
stage-past [] k h = refl
stage-past (x ∷ xs) zero h = absurd (omega arith)
stage-past (x ∷ xs) (suc k) h = stage-past xs k (omega arith)

pub finished-more : (xs : List Stage) (n : ℕ) → n < length xs → AllFinished 0 n xs → AllFinished 0 (n + 1) (slice_set xs n Finished)
finished-more xs n lt h k a b = elim (eqb_tells k n) [
  | inl q ↦ ap (stage_at (slice_set xs n Finished)) q.1 ∙ stage-set_same xs n Finished lt
  | inr q ↦ let ne = q.1 in stage-set_other xs n k Finished q.1 ∙ h k a (omega arith)
]

all-stages : (xs : List Stage) → AllFinished 0 (length xs) xs → (k : ℕ) → stage_at xs k ≡ Finished
all-stages xs h k = elim (cases_lt k (length xs)) [ inl q ↦ h k (omega arith) q | inr q ↦ stage-past xs k q ]

no-signs : (n k : ℕ) → sign_at (replicate n 0) k ≡ 0
no-signs n k = elim (cases_lt k n) [
  | inl q ↦ get_or-replicate {A = ℕ} n k 0 0 q
  | inr q ↦ get_or_past {X = ℕ} (replicate {A = ℕ} n 0) k 0 (omega (arith, q, length-replicate {A = ℕ} n 0))
]

root-kind : (ns : List Entry) (doc : Recipe) (t : Tree) → IsActTree t → Stands ns doc 0 t → ((k : ℕ) × (i : ℕ) × (kind_at ns 0 ≡ kind.Phase k i)) ⊎ ((k : ℕ) × (kind_at ns 0 ≡ Act k))
root-kind ns doc (act s (runs p)) h a = inl (length s.needs, a.0, a.1.1)
root-kind ns doc (act s (follows name c)) h a = inr (length s.needs, a.0.1)
root-kind x1 x2 x3 x4 x5 = absurd (grind arith)

-- all is finished but the root, which is ready
module _ (ns : List Entry) (xs : List Stage) (m v : ℕ) (some : 0 < length ns) (l : length xs ≡ length ns) (k : m ≡ length ns) (gone : AllFinished 0 (length xs) xs) where
  pub starts : HasStarted (length ns) (slice_set xs 0 (Ready 0))
  starts =
      has-started (length ns) (slice_set xs 0 (Ready 0)) (λ lt. length-set xs 0 (Ready 0) ∙ l) (stage-set_same xs 0 (Ready 0) (omega (arith, some, l)))
      (λ j lt. stage-set_other xs 0 j (Ready 0) (λ e. absurd (omega (arith, lt, e))) ∙ all-stages xs gone j)

  pub starts-neatly : v ≡ stage_signs (needs_of_kind (kind_at ns 0)) (Ready 0) → AreStarted ns (slice_set xs 0 (Ready 0)) (slice_set (replicate m 0) 0 v)
  starts-neatly is = (
    length-set (replicate {A = ℕ} m 0) 0 v ∙ length-replicate {A = ℕ} m 0 ∙ k,
    λ doc t laid. (
        let end : end_at ns 0 ≡ length ns = omega (arith, (stood ns doc 0 t laid.stands).end, laid.count) in
        let r = neatly-ready ns doc xs 0 (l, (t, laid.stands)) (replicate m 0) v (omega (arith, some, l)) (omega (arith, some, k, length-replicate {A = ℕ} m 0)) is (root-kind ns doc t laid.root laid.stands) in
        subst (λ z. AreNeat ns doc 0 z (slice_set xs 0 (Ready 0)) (slice_set (replicate m 0) 0 v)) end (r.neat (λ j a b. (all-stages xs gone j, no-signs m j)))),
  )

pub empty-length : (n : ℕ) {b : Bool} → b ≡ true → b ≡ nat_eq n 0 → n ≡ 0
empty-length n e f = elim (eqb_tells n 0) [ inl q ↦ q.1 | inr q ↦ (let z : ◌≡◌ {A = Bool} true false = sym e ∙ f ∙ q.0 in absurd (cc)) ]

pub some-length : (n : ℕ) {b : Bool} → b ≡ false → b ≡ nat_eq n 0 → 0 < n
some-length n e f = elim (eqb_tells n 0) [ inl q ↦ (let z : ◌≡◌ {A = Bool} true false = sym q.0 ∙ sym f ∙ e in absurd (cc)) | inr q ↦ (let ne = q.1 in omega arith) ]

pub starts-none : (ns : List Entry) (xs : List Stage) (m : ℕ) → length ns ≡ 0 → m ≡ length ns → AreStarted ns xs (replicate m 0)
starts-none ns xs m none e = (length-replicate {A = ℕ} m 0 ∙ e, λ doc t laid j c a b s. absurd (omega (arith, none, b)))

-- Withdrawn asks

pub finished-again : (x : Stage) → is_finished (again x) ≡ is_finished x
finished-again x1 = grind arith

pub begun-again : (x : Stage) → is_begun (again x) ≡ is_begun x
begun-again x1 = grind arith

pub turns-again : (x : Stage) → turns_of (again x) ≡ turns_of x
turns-again x1 = grind arith

withdrawn-freed : (s : Step) (k : ℕ) → freed s k ≡ withdrawn (freed s k)
withdrawn-freed s zero = refl
withdrawn-freed s (suc k) = refl

act-again : (s : Step) (w : Task) (r : Rest) (x : Stage) → act_as s w (withdrawn r) (again x) ≡ withdrawn (act_as s w r x)
act-again s w r Finished = refl
act-again s w r (Ready k) = refl
act-again s w r (Asking k) = refl
act-again s (runs p) r Open = refl
act-again s (follows name c) r Open = refl
act-again s (runs p) r (Live x) = refl
act-again s (follows name c) r (Live x) = refl
act-again s w r (Freeing k) = withdrawn-freed s k
act-again s w r (Turning k) = refl

loop-again : (o : Option ℕ) (p : Condition) (body : Tree) (r : Rest) → loop_as o p body (withdrawn r) ≡ withdrawn (loop_as o p body r)
loop-again None p body r = refl
loop-again (Some k) p body r = refl

module _ (xs ys : List Stage) (h : (k : ℕ) → stage_at ys k ≡ again (stage_at xs k)) where
  status : (n : ℕ) → is_finished (stage_at ys n) ≡ is_finished (stage_at xs n)
  status n = ap is_finished (h n) ∙ finished-again (stage_at xs n)

  begun : (n : ℕ) → is_begun (stage_at ys n) ≡ is_begun (stage_at xs n)
  begun n = ap is_begun (h n) ∙ begun-again (stage_at xs n)

  mutual
    pub meaning-withdrawn : (c : Tree) (n : ℕ) → meaning c n ys ≡ withdrawn (meaning c n xs)
    meaning-withdrawn (act s w) n =
        ap (λ r. act_as s w r (stage_at ys n)) (meaning_below-withdrawn w (n + 1))
        ∙ ap (λ x. act_as s w (withdrawn (meaning_below w (n + 1) xs)) x) (h n)
        ∙ act-again s w (meaning_below w (n + 1) xs) (stage_at xs n)
    meaning-withdrawn skip n = refl
    meaning-withdrawn (seq ts) n =
        ap (λ r. elim (is_begun (stage_at ys n)) as (λ _. Rest) [ true ↦ r | false ↦ done ]) (branch-withdrawn ts (n + 1))
        ∙ ap (λ t. elim t as (λ _. Rest) [ true ↦ withdrawn (meaning_of_branch ts (n + 1) xs) | false ↦ done ]) (begun n)
        ∙ sym (choice-map withdrawn (is_begun (stage_at xs n)) (meaning_of_branch ts (n + 1) xs) done)
    meaning-withdrawn (par ts) n =
        ap (λ r. elim (is_begun (stage_at ys n)) as (λ _. Rest) [ true ↦ in_par r | false ↦ done ]) (meaning_each-withdrawn ts (n + 1))
        ∙ ap (λ t. elim t as (λ _. Rest) [ true ↦ in_par (withdrawn_each (meaning_each ts (n + 1) xs)) | false ↦ done ]) (begun n)
        ∙ sym (choice-map withdrawn (is_begun (stage_at xs n)) (in_par (meaning_each ts (n + 1) xs)) done)
    meaning-withdrawn (sel ch) n =
        ap (λ r. elim (is_begun (stage_at ys n)) as (λ _. Rest) [ true ↦ r | false ↦ done ]) (chosen-withdrawn ch (n + 1))
        ∙ ap (λ t. elim t as (λ _. Rest) [ true ↦ withdrawn (chosen ch (n + 1) xs) | false ↦ done ]) (begun n)
        ∙ sym (choice-map withdrawn (is_begun (stage_at xs n)) (chosen ch (n + 1) xs) done)
    meaning-withdrawn (loop i p body) n =
        ap (λ r. loop_as (turns_of (stage_at ys n)) p body r) (meaning-withdrawn body (n + 1))
        ∙ ap (λ o. loop_as o p body (withdrawn (meaning body (n + 1) xs))) (ap turns_of (h n) ∙ turns-again (stage_at xs n))
        ∙ loop-again (turns_of (stage_at xs n)) p body (meaning body (n + 1) xs)

    meaning_below-withdrawn : (w : Task) (n : ℕ) → meaning_below w n ys ≡ withdrawn (meaning_below w n xs)
    meaning_below-withdrawn (runs p) n = refl
    meaning_below-withdrawn (follows name c) n = meaning-withdrawn c n

    meaning_each-withdrawn : (ts : Trees) (n : ℕ) → meaning_each ts n ys ≡ withdrawn_each (meaning_each ts n xs)
    meaning_each-withdrawn no_trees n = refl
    meaning_each-withdrawn (tree c ts) n =
        ap (λ r. rest r (meaning_each ts (n + node_count c) ys)) (meaning-withdrawn c n)
        ∙ ap (λ r. rest (withdrawn (meaning c n xs)) r) (meaning_each-withdrawn ts (n + node_count c))

    branch-withdrawn : (ts : Trees) (n : ℕ) → meaning_of_branch ts n ys ≡ withdrawn (meaning_of_branch ts n xs)
    branch-withdrawn no_trees n = refl
    branch-withdrawn (tree c ts) n =
        ap (λ r. elim (is_finished (stage_at ys n)) as (λ _. Rest) [ true ↦ meaning_of_branch ts (n + node_count c) ys | false ↦ in_seq r ts ]) (meaning-withdrawn c n)
        ∙ ap (λ r. elim (is_finished (stage_at ys n)) as (λ _. Rest) [ true ↦ r | false ↦ in_seq (withdrawn (meaning c n xs)) ts ]) (branch-withdrawn ts (n + node_count c))
        ∙ ap (λ t. elim t as (λ _. Rest) [ true ↦ withdrawn (meaning_of_branch ts (n + node_count c) xs) | false ↦ in_seq (withdrawn (meaning c n xs)) ts ]) (status n)
        ∙ sym (choice-map withdrawn (is_finished (stage_at xs n)) (meaning_of_branch ts (n + node_count c) xs) (in_seq (meaning c n xs) ts))

    chosen-withdrawn : (ch : Choices) (n : ℕ) → chosen ch n ys ≡ withdrawn (chosen ch n xs)
    chosen-withdrawn (otherwise c) n = meaning-withdrawn c n
    chosen-withdrawn (choice p c ch) n =
        ap (λ r. elim (is_finished (stage_at ys n)) as (λ _. Rest) [ true ↦ chosen ch (n + node_count c) ys | false ↦ r ]) (meaning-withdrawn c n)
        ∙ ap (λ r. elim (is_finished (stage_at ys n)) as (λ _. Rest) [ true ↦ r | false ↦ withdrawn (meaning c n xs) ]) (chosen-withdrawn ch (n + node_count c))
        ∙ ap (λ t. elim t as (λ _. Rest) [ true ↦ withdrawn (chosen ch (n + node_count c) xs) | false ↦ withdrawn (meaning c n xs) ]) (status n)
        ∙ sym (choice-map withdrawn (is_finished (stage_at xs n)) (chosen ch (n + node_count c) xs) (meaning c n xs))

pub keeps : (x : Stage) → ((k : ℕ) → x ≡ Asking k → ⊥) → again x ≡ x
keeps (Asking k) h = absurd (h k refl)
keeps x h = refl

abbrev pub IsSoFar : List Stage → List Stage → ℕ → Type 0
IsSoFar xs zs n = ((k : ℕ) → k < n → stage_at zs k ≡ again (stage_at xs k)) × ((k : ℕ) → n ≤ k → stage_at zs k ≡ stage_at xs k)

pub so-far_asking : (xs zs : List Stage) (n held : ℕ) → IsSoFar xs zs n → n < length zs → stage_at zs n ≡ Asking held → IsSoFar xs (slice_set zs n (Ready held)) (n + 1)
so-far_asking xs zs n held h lt e = (
  below_more _ _ (λ k l. stage-set_other zs n k (Ready held) (omega arith) ∙ h.0 k l) (stage-set_same zs n (Ready held) lt ∙ sym (ap again (sym (h.1 n (omega arith)) ∙ e))),
  λ k l. stage-set_other zs n k (Ready held) (omega arith) ∙ h.1 k (omega arith),
)

pub so-far_other : (xs zs : List Stage) (n : ℕ) → IsSoFar xs zs n → ((k : ℕ) → stage_at zs n ≡ Asking k → ⊥) → IsSoFar xs zs (n + 1)
so-far_other xs zs n h e = (
  below_more _ _ h.0 (sym (keeps (stage_at zs n) e) ∙ ap again (h.1 n (omega arith))),
  λ k l. h.1 k (omega arith),
)

pub has-withdrawn : (xs zs : List Stage) (n : ℕ) → length zs ≡ length xs → n ≡ length xs → IsSoFar xs zs n → HasWithdrawn xs zs
has-withdrawn xs zs n l e h = record {
  means = λ t alive.
      (let m = meaning-withdrawn xs zs (λ k. go k (cases_lt k n)) t 0 in (
        record {
          fits = l ∙ alive.fits;
          stands = subst (IsRestOf t) (sym m) (withdrawn-IsRestOf t (meaning t 0 xs) alive.stands);
          advanced = subst IsAdvanced (sym m) (withdrawn-advanced (meaning t 0 xs) alive.advanced);
          told = λ k b. told-withdrawn (node_at t k).here k (alive.told k b);
        },
        m,
      ));
}
  where
    go : (k : ℕ) → (k < n) ⊎ (n ≤ k) → stage_at zs k ≡ again (stage_at xs k)
    go k (inl p) = h.0 k p
    go k (inr p) = stage-past zs k (omega arith) ∙ sym (ap again (stage-past xs k (omega arith)))

    told-withdrawn : (c : Tree) (k : ℕ) → TellsWhetherOver c k xs → TellsWhetherOver c k zs
    told-withdrawn c k told =
        let m = meaning-withdrawn xs zs (λ k. go k (cases_lt k n)) c k in
        record {
          finished = ap is_finished (go k (cases_lt k n)) ∙ finished-again (stage_at xs k) ∙ told.finished ∙ sym (ap is_done m ∙ withdrawn-done (meaning c k xs));
          advanced = subst IsAdvanced (sym m) (withdrawn-advanced (meaning c k xs) told.advanced);
        }
