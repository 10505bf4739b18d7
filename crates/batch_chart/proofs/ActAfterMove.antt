-- The change of an act by each move.
use Rattle.std.proofs.Common.{◌≡◌, ◌≢◌, ◌⊎◌, inl, inr, ◌<◌, ◌≤◌, ℕ, suc, pred, ◌+◌, List, length, Bool, true, false, arith, refl, sym, ◌∙◌, subst, ap, add-one, length-set}
use Rattle.std.specs.Prelude.{slice_set}
use Rattle.batch_matrix.specs.{declared.state.State.State, declared.state.State.TheVariants.Running, declared.command.Command.Command, Matrix.target}
use Rattle.batch_recipe.{specs.Conditions.ValueList, specs.Tree.Step, specs.Tree.Task, specs.Tree.runs, specs.Tree.follows, specs.Tree.Tree, specs.Tree.act, specs.declared.entry.Entry.Entry, proofs.NodeSubtrees.some_count, specs.declared.recipe.Recipe.Recipe}
use Rattle.batch_model.specs.{Plant.Batch, Moves.freed, Moves.sent, Moves.released, Moves.ended, Moves.asked, Moves.granted, Events.phase_after, Rest.Rest, Rest.ready, Rest.open_act, Rest.live, Rest.freeing, Rest.changed_at, Rest.is_done, Settled.IsAdvanced}
use Rattle.batch_matrix.specs.declared.report.ReportOutcome.TheVariants as phase
use Rattle.batch_step_laws.proofs.{RestsAfterChange.RemainsAs, RestsAfterChange.sent-remains, RestsAfterChange.released-remains, RestsAfterChange.ended-remains, RestsAfterChange.begun-remains, RestsAfterChange.now-remains, AdvancedRests.reach-advanced}
use Rattle.batch_chart.{specs.declared.node.Kind.Kind, specs.declared.node.Kind.TheVariants.Act, specs.declared.stage.Stage.Stage, specs.declared.stage.Stage.TheVariants.Ready, specs.declared.stage.Stage.TheVariants.Asking, specs.declared.stage.Stage.TheVariants.Open, specs.declared.stage.Stage.TheVariants.Live, specs.declared.stage.Stage.TheVariants.Freeing, specs.declared.chart_move.Move.Move, specs.Stages.stage_at, specs.Stages.is_finished, specs.Meaning.meaning, specs.Meaning.act_as, specs.Meaning.AgreeOutside, specs.Outlined.end_at, specs.Outlined.kind_at, specs.Outlined.is_act_kind, specs.Outlined.Stands, specs.Reaching.IsReached, specs.Freeing.IsFreed, specs.Freeing.HasFinished, specs.NodesOf.place_at, specs.Seen.machine_move, specs.Running.IsLaid, specs.Running.IsAlive, specs.Running.SomeLives, specs.Running.CanRelease, specs.Running.HasMore, specs.Running.Allows, specs.Running.HasMade, specs.Running.rest_after, specs.Running.IsChanged, specs.Running.IsChangedOnly, specs.Running.IsNodeLive, specs.Running.IsNodeAsking, proofs.TreePositions.stood, proofs.TreePositions.ActAt, proofs.TreePositions.act_at, proofs.TreePositions.act-at, proofs.TreePositions.some-stands, proofs.StageAgreement.stage-set_same, proofs.StageAgreement.stage-set_other, proofs.PathToRoot.as-many, proofs.PathToRoot.set-out, proofs.ChartChange.Fits, proofs.ChartChange.more-act, proofs.ChartChange.IsStep, proofs.ChartChange.IsCalm, proofs.ChartChange.IsGood, proofs.ChartChange.freed-step, proofs.ChartChange.freed-calm, proofs.ChartChange.set-step, proofs.ChartChange.set-calm, proofs.ChartChange.set-told, proofs.ChartChange.stepped, proofs.ChartChange.calmed, proofs.ChartChange.went, proofs.FinishedStages.told-finished, proofs.FinishedStages.told-part, specs.Told.AreTold, specs.ByValues.bare, specs.ByValues.begun_by, specs.ByValues.advance_by}
use Rattle.batch_chart.specs.declared.node.Kind.TheVariants as kind
use Rattle.batch_chart.specs.declared.chart_move.Move.TheVariants as move

same-remains : (a : Rest) → RemainsAs a a
same-remains a s w h = h

pub suc-of : (h i : ℕ) → h ≡ i + 1 → h ≡ suc i
suc-of h i e = e ∙ add-one i

-- The act is, changes and stays as it may, by its kind and stage

pub good-sent : (c : Command) (j i : ℕ) (y : State) (s : Step) (w : Task) (r : Rest) → Fits (kind.Phase j i) s w → IsGood (sent c) (Live y) (Live (target c)) s w r
good-sent c j i y s (runs p) r h = (refl, refl, sent-remains c (live s p y))
good-sent c j i y s (follows name t) r h = absurd h

calm-live : (j i : ℕ) (x : Stage) (y : State) (s : Step) (w : Task) (r : Rest) → Fits (kind.Phase j i) s w → (is_done (act_as s w r (Live y)) ≡ false) × (IsAdvanced (act_as s w r x) → IsAdvanced (act_as s w r (Live y)))
calm-live j i x y s (runs p) r h = (refl, λ _. tt)
calm-live j i x y s (follows name t) r h = absurd h

pub good-started : (vs : ValueList) (j i k : ℕ) (s : Step) (w : Task) (r : Rest) → Fits (kind.Phase j i) s w → IsGood (begun_by vs) (Ready k) (Live Running) s w r
good-started vs j i k s (runs p) r h = (refl, refl, begun-remains (bare vs) s (runs p) k)
good-started vs j i k s (follows name t) r h = absurd h

pub fits-count : (κ : Kind) (i : ℕ) (s : Step) (w : Task) → HasMore κ i → Fits κ s w → i < length s.needs
fits-count (kind.Phase j d) i s (runs p) m h = omega (arith, h)
fits-count (Act j) i s (follows name c) m h = omega (arith, h)
fits-count x1 x2 x3 x4 x5 x6 = absurd (grind arith)

pub good-asked : (κ : Kind) (i : ℕ) → HasMore κ i → (s : Step) (w : Task) (r : Rest) → Fits κ s w → IsGood asked (Ready i) (Asking i) s w r
good-asked κ i m s w r h = (refl, refl, λ t v q. (q.0, q.1, fits-count κ i s w m h))

pub good-granted : (κ : Kind) (i : ℕ) (s : Step) (w : Task) (r : Rest) → Fits κ s w → IsGood granted (Asking i) (Ready (i + 1)) s w r
good-granted κ i s w r h = (refl, ap (ready s w) (sym (add-one i)), λ t v q. (q.0, q.1, omega (arith, q.2)))

pub good-released_ready : (κ : Kind) (h i : ℕ) → h ≡ i + 1 → (s : Step) (w : Task) (r : Rest) → Fits κ s w → IsGood released (Ready h) (Ready i) s w r
good-released_ready κ h i e s w r f = (refl, ap (λ z. ready s w (pred z)) (suc-of h i e), released-remains (ready s w h))

pub good-released_freeing : (κ : Kind) (h i : ℕ) → h ≡ i + 1 → (s : Step) (w : Task) (r : Rest) → Fits κ s w → IsGood released (Freeing h) (Freeing i) s w r
good-released_freeing κ h i e s w r f =
    let d : freed s h ≡ freeing s (suc i) = ap (freed s) (suc-of h i e) in
    (ap is_done d, ap released d, released-remains (freed s h))

pub good-released_open : (i : ℕ) (s : Step) (w : Task) (r : Rest) → Fits (Act (i + 1)) s w → IsGood released Open (Freeing i) s w r
good-released_open i s (runs p) r h = absurd h
good-released_open i s (follows name c) r h = (refl, ap (λ z. freed s (pred z)) (suc-of (length s.needs) i h), released-remains (open_act s r))

pub good-ended : (j : ℕ) (s : Step) (w : Task) (r : Rest) → Fits (Act j) s w → IsGood ended Open (Freeing j) s w r
good-ended j s (runs p) r h = absurd h
good-ended j s (follows name c) r h = (refl, ap (freed s) h, ended-remains (open_act s r))

pub good-reported : (j i : ℕ) (y : State) (s : Step) (w : Task) (r : Rest) → Fits (kind.Phase j i) s w → IsGood ended (Live y) (Freeing j) s w r
good-reported j i y s (runs p) r h = (refl, ap (freed s) h, ended-remains (live s p y))
good-reported j i y s (follows name c) r h = absurd h

pub calm-ready : (x : Stage) (k : ℕ) (s : Step) (w : Task) (r : Rest) → (is_done (act_as s w r (Ready k)) ≡ false) × (IsAdvanced (act_as s w r x) → IsAdvanced (act_as s w r (Ready k)))
calm-ready x k s w r = (refl, λ _. tt)

calm-asking : (x : Stage) (k : ℕ) (s : Step) (w : Task) (r : Rest) → (is_done (act_as s w r (Asking k)) ≡ false) × (IsAdvanced (act_as s w r x) → IsAdvanced (act_as s w r (Asking k)))
calm-asking x k s w r = (refl, λ _. tt)

-- The whole chart

module _ (ns : List Entry) (doc : Recipe) (vs : ValueList) (xs : List Stage) where
  pub set-changed : (k : ℕ) (f : Rest → Rest) (x v : Stage) (κ : Kind) → k < length ns → kind_at ns k ≡ κ → is_act_kind κ ≡ true → stage_at xs k ≡ x → is_finished v ≡ false
      → ((s : Step) (w : Task) (r : Rest) → Fits κ s w → IsGood f x v s w r)
      → ((s : Step) (w : Task) (r : Rest) → Fits κ s w → (is_done (act_as s w r v) ≡ false) × (IsAdvanced (act_as s w r x) → IsAdvanced (act_as s w r v)))
      → IsChanged ns doc vs k f xs (slice_set xs k v)
  set-changed k f x v κ lt e a was now good calm =
      record {
        means = λ t laid alive. (
            let step = set-step ns doc xs t laid alive k f x v κ lt e a was now good in
            let c = calmed ns doc t laid xs alive k f (slice_set xs k v) step (set-calm ns doc xs k x v κ (omega (arith, laid.count, alive.fits)) e a was calm) (set-told ns doc t laid xs k v lt) in
            (c.0, c.1 (bare vs)));
      }

  module _ (ys : List Stage) (k : ℕ) (f : Rest → Rest) (x : Stage) (held : ℕ) (κ : Kind) (lt : k < length ns) (e : kind_at ns k ≡ κ) (a : is_act_kind κ ≡ true) (was : stage_at xs k ≡ x)
      (good : (s : Step) (w : Task) (r : Rest) → Fits κ s w → IsGood f x (Freeing held) s w r) (q : IsFreed ns doc vs k held xs ys) (t : Tree) (laid : IsLaid ns doc t) (alive : IsAlive t xs) where
    freed-own : (v : Stage) → stage_at (slice_set q.mid k v) k ≡ v
    freed-own v = stage-set_same q.mid k v (omega (arith, lt, q.fits, as-many ns doc vs xs q.mid (t, laid, alive) k lt q.fits q.outside q.below))

    freed-out : (v : Stage) → AgreeOutside k (end_at ns k) xs (slice_set q.mid k v)
    freed-out v = set-out ns doc vs xs q.mid (t, laid, alive) k lt q.fits q.outside q.below v

    freed-to : (v : Stage) → v ≡ Freeing held → IsStep ns doc k f xs (slice_set q.mid k v)
    freed-to v is = freed-step ns doc xs (slice_set q.mid k v) t laid alive k f x held κ lt e a was (length-set q.mid k v ∙ q.fits) (freed-out v) (freed-own v ∙ is) good

    freed-told : (v : Stage) → AreTold ns doc (k + 1) (end_at ns k) (slice_set q.mid k v)
    freed-told v j c u w s = told-finished c j (slice_set q.mid k v) (stage-set_other q.mid k j v (λ z. absurd (omega (arith, u, z))) ∙ q.below j u w)

    freed-means : ((held ≢ 0) × (ys ≡ slice_set q.mid k (Freeing held))) ⊎ ((held ≡ 0) × HasFinished ns doc vs k q.mid ys) → IsAlive t ys × (meaning t 0 ys ≡ advance_by vs (changed_at (place_at t k) f (meaning t 0 xs)))
    freed-means (inl h) =
        subst (λ z. IsAlive t z × (meaning t 0 z ≡ advance_by vs (changed_at (place_at t k) f (meaning t 0 xs)))) (sym h.1)
        (let c = calmed ns doc t laid xs alive k f (slice_set q.mid k (Freeing held)) (freed-to (Freeing held) refl)
        (freed-calm ns doc xs (slice_set q.mid k (Freeing held)) t laid alive k f x held κ lt e a was (length-set q.mid k (Freeing held) ∙ q.fits) (freed-out (Freeing held)) (freed-own (Freeing held)) good h.0) (λ z. freed-told (Freeing held)) in
        (c.0, c.1 (bare vs)))
    freed-means (inr h) =
        went ns doc t laid xs alive k f (slice_set q.mid k (Freeing 0)) (freed-to (Freeing 0) (ap Freeing (sym h.0))) vs ys h.1.finished h.1.advanced (h.1.fits ∙ sym (length-set q.mid k (Freeing 0))) h.1.told

  pub free-changed : (ys : List Stage) (k : ℕ) (f : Rest → Rest) (x : Stage) (held : ℕ) (κ : Kind) → k < length ns → kind_at ns k ≡ κ → is_act_kind κ ≡ true → stage_at xs k ≡ x
      → ((s : Step) (w : Task) (r : Rest) → Fits κ s w → IsGood f x (Freeing held) s w r)
      → IsFreed ns doc vs k held xs ys → IsChanged ns doc vs k f xs ys
  free-changed ys k f x held κ lt e a was good q = record { means = λ t laid alive. freed-means ys k f x held κ lt e a was good q t laid alive q.held_or_not }

-- an act with a chart begins: the chart below it is reached

module _ (ns : List Entry) (doc : Recipe) (vs : ValueList) (xs zs : List Stage) (k j h : ℕ) (b : Bool) (lt : k < length ns) (e : kind_at ns k ≡ Act j) (was : stage_at xs k ≡ Ready h)
    (l : length zs ≡ length (slice_set xs k Open)) (reached : IsReached ns doc vs (k + 1) (slice_set xs k Open) zs b) (inside : k < length xs) where
  own : stage_at zs k ≡ Open
  own = reached.outside k (inl (omega arith)) ∙ stage-set_same xs k Open inside

  below : (c : Tree) → ActAt ns doc k j c → (is_done (meaning c k xs) ≡ false) × (begun_by vs (meaning c k xs) ≡ meaning c k zs) × RemainsAs (meaning c k xs) (begun_by vs (meaning c k xs)) × IsAdvanced (meaning c k zs) × (is_done (meaning c k zs) ≡ false)
  below _ (act_at s name c a f count) =
      let old : meaning (act s (follows name c)) k xs ≡ ready s (follows name c) h = ap (act_as s (follows name c) (meaning c (k + 1) xs)) was in
      let new : meaning (act s (follows name c)) k zs ≡ open_act s (meaning c (k + 1) zs) = ap (act_as s (follows name c) (meaning c (k + 1) zs)) own in
      let r = (reached.means c a).0 in (
        ap is_done old,
        ap (begun_by vs) old ∙ ap (open_act s) (sym r) ∙ sym new,
        subst (λ z. RemainsAs z (begun_by vs z)) (sym old) (begun-remains (bare vs) s (follows name c) h),
        subst IsAdvanced (sym new) (subst IsAdvanced (sym r) (reach-advanced (bare vs) c)),
        ap is_done new,
      )

  begin-calm : IsCalm ns doc k xs zs
  begin-calm c q = let g = below c (act-at ns doc k j e c q) in (g.4, λ _. g.3)

  -- the chart below it, which has been reached, is all of its subtree
  begin-told : (t : Tree) → IsLaid ns doc t → AreTold ns doc (k + 1) (end_at ns k) xs → AreTold ns doc (k + 1) (end_at ns k) zs
  begin-told t laid q =
      let some = some-stands ns doc k t 0 laid.stands (omega arith) (omega (arith, laid.count)) in go some.0 (act-at ns doc k j e some.0 some.1)
    where
      go : (c : Tree) → ActAt ns doc k j c → AreTold ns doc (k + 1) (end_at ns k) zs
      go _ (act_at s name c a f count) =
          let same : end_at ns (k + 1) ≡ end_at ns k = omega (arith, f, (stood ns doc (k + 1) c a).end) in
          told-part ns doc (k + 1) (end_at ns (k + 1)) (k + 1) (end_at ns k) zs (omega arith) (omega (arith, same))
          (reached.told (told-part ns doc (k + 1) (end_at ns k) (k + 1 + 1) (end_at ns (k + 1)) (slice_set xs k Open) (omega arith) (omega (arith, same)) (set-told ns doc t laid xs k Open lt q)))

  inner : (c : Tree) → ActAt ns doc k j c → end_at ns (k + 1) ≤ end_at ns k
  inner _ (act_at s name c a f count) = omega (arith, f, (stood ns doc (k + 1) c a).end)

  out : k < end_at ns k → end_at ns (k + 1) ≤ end_at ns k → AgreeOutside k (end_at ns k) xs zs
  out lt nest i (inl q) = reached.outside i (inl (omega arith)) ∙ stage-set_other xs k i Open (omega arith)
  out lt nest i (inr q) = reached.outside i (inr (omega arith)) ∙ stage-set_other xs k i Open (omega arith)

  begin-step : (t : Tree) → IsLaid ns doc t → IsStep ns doc k (begun_by vs) xs zs
  begin-step t laid =
      let some = some-stands ns doc k t 0 laid.stands (omega arith) (omega (arith, laid.count)) in
      let end = (stood ns doc k some.0 some.1).end in
      let nest = inner some.0 (act-at ns doc k j e some.0 some.1) in
      record {
        within = lt;
        is_act = ap is_act_kind e;
        fits = l ∙ length-set xs k Open;
        outside = out (omega (arith, end, some_count some.0)) nest;
        now = ap is_finished own;
        was = λ c q. (below c (act-at ns doc k j e c q)).0;
        change = λ c q. (below c (act-at ns doc k j e c q)).1;
        keeps = λ c q. (let g = below c (act-at ns doc k j e c q) in subst (λ z. RemainsAs (meaning c k xs) z) g.1 g.2);
      }

pub begin-changed : (ns : List Entry) (doc : Recipe) (vs : ValueList) (xs zs : List Stage) (k j h : ℕ) (b : Bool) → k < length ns → kind_at ns k ≡ Act j → stage_at xs k ≡ Ready h → length zs ≡ length (slice_set xs k Open)
    → IsReached ns doc vs (k + 1) (slice_set xs k Open) zs b → IsChanged ns doc vs k (begun_by vs) xs zs
begin-changed ns doc vs xs zs k j h b lt e was l reached =
    record {
      means = λ t laid alive.
          (let inside : k < length xs = omega (arith, laid.count, alive.fits) in
          let c = calmed ns doc t laid xs alive k (begun_by vs) zs (begin-step ns doc vs xs zs k j h b lt e was l reached inside t laid) (begin-calm ns doc vs xs zs k j h b lt e was l reached inside) (begin-told ns doc vs xs zs k j h b lt e was l reached inside t laid) in
          (c.0, c.1 (bare vs)));
    }

-- the change is that of the move
pub made : (ns : List Entry) (doc : Recipe) (vs : ValueList) (xs ys : List Stage) (k : ℕ) (f : Rest → Rest) (m : Move)
    → ((t : Tree) (b : Batch) → rest_after vs (machine_move t b m) b.rest ≡ advance_by vs (changed_at (place_at t k) f b.rest))
    → IsChanged ns doc vs k f xs ys → HasMade ns doc vs m xs ys
made ns doc vs xs ys k f m is c =
    record {
      means = λ t laid alive.
          (let d = c.means t laid alive in
          (d.0, λ b e v. d.1 ∙ sym (is t b ∙ ap (λ z. advance_by vs (changed_at (place_at t k) f z)) e)));
    }

-- Each move, as the code makes it

module _ (ns : List Entry) (doc : Recipe) (vs : ValueList) (xs : List Stage) (m : Move) (allowed : Allows ns xs m) where
  pub makes-state : (x : State) → m ≡ move.State x → HasMade ns doc vs m xs xs
  makes-state x e = rw e record { means = λ t laid alive. (alive, λ b r v. sym r) }

  pub makes-send : (k n : ℕ) (c : Command) (y : State) → m ≡ move.Send k c → n ≡ k → y ≡ target c → HasMade ns doc vs m xs (slice_set xs n (Live y))
  makes-send k n c y e f g =
      let a = subst (Allows ns xs) e allowed in
      rw (e, f, g) (made ns doc vs xs (slice_set xs k (Live (target c))) k (sent c) (move.Send k c) (λ t b. refl)
      (set-changed ns doc vs xs k (sent c) (Live a.2) (Live (target c)) (kind.Phase a.0 a.1) a.3 a.4 refl a.5 refl (good-sent c a.0 a.1 a.2) (calm-live a.0 a.1 (Live a.2) (target c))))

  pub makes-start : (k n : ℕ) → m ≡ move.Start k → n ≡ k → HasMade ns doc vs m xs (slice_set xs n (Live Running))
  makes-start k n e f =
      let a = subst (Allows ns xs) e allowed in
      rw (e, f) (made ns doc vs xs (slice_set xs k (Live Running)) k (begun_by vs) (move.Start k)
      (λ t b. refl)
      (set-changed ns doc vs xs k (begun_by vs) (Ready a.2) (Live Running) (kind.Phase a.0 a.1) a.3 a.4 refl a.5 refl (good-started vs a.0 a.1 a.2) (calm-live a.0 a.1 (Ready a.2) Running)))

  pub makes-ask : (k n i : ℕ) → m ≡ move.Ask k i → n ≡ k → HasMade ns doc vs m xs (slice_set xs n (Asking i))
  makes-ask k n i e f =
      let a = subst (Allows ns xs) e allowed in
      rw (e, f) (made ns doc vs xs (slice_set xs k (Asking i)) k asked (move.Ask k i) (λ t b. refl)
      (set-changed ns doc vs xs k asked (Ready i) (Asking i) (kind_at ns k) a.0 refl (more-act (kind_at ns k) i a.1) a.2 refl
      (good-asked (kind_at ns k) i a.1) (λ s w r h. calm-asking (Ready i) i s w r)))

  pub makes-begin : (k n : ℕ) (zs : List Stage) (b : Bool) → m ≡ move.Begin k → n ≡ k → length zs ≡ length (slice_set xs n Open) → IsReached ns doc vs (n + 1) (slice_set xs n Open) zs b → HasMade ns doc vs m xs zs
  makes-begin k n zs b e f l r =
      let a = subst (Allows ns xs) e allowed in
      rw e (made ns doc vs xs zs k (begun_by vs) (move.Begin k)
      (λ t b. refl)
      (begin-changed ns doc vs xs zs k a.0 a.1 b a.2 a.3 a.4 (rw f at l) (rw f at r)))

  pub makes-end : (k n j : ℕ) (ys : List Stage) → m ≡ move.End k → n ≡ k → kind_at ns n ≡ Act j → IsFreed ns doc vs n j xs ys → HasMade ns doc vs m xs ys
  makes-end k n j ys e f g r =
      let a = subst (Allows ns xs) e allowed in
      rw e (made ns doc vs xs ys k ended (move.End k) (λ t b. refl)
      (free-changed ns doc vs xs ys k ended Open j (Act j) a.1 (rw f at g) refl a.3 (good-ended j) (rw f at r)))

  pub makes-release_ready : (k n i h : ℕ) → m ≡ move.Release k i → n ≡ k → stage_at xs n ≡ Ready h → HasMade ns doc vs m xs (slice_set xs n (Ready i))
  makes-release_ready k n i h e f s =
      let a = subst (Allows ns xs) e allowed in
      let was : stage_at xs k ≡ Ready h = rw f at s in
      let can : CanRelease (kind_at ns k) (Ready h) i = subst (λ z. CanRelease (kind_at ns k) z i) was a.1 in
      rw (e, f) (made ns doc vs xs (slice_set xs k (Ready i)) k released (move.Release k i) (λ t b. refl)
      (set-changed ns doc vs xs k released (Ready h) (Ready i) (kind_at ns k) a.0 refl can.0 was refl (good-released_ready (kind_at ns k) h i can.1) (λ s w r q. calm-ready (Ready h) i s w r)))

  pub makes-release : (k n i : ℕ) (ys : List Stage) → m ≡ move.Release k i → n ≡ k → ((h : ℕ) → stage_at xs n ≡ Ready h → ⊥) → IsFreed ns doc vs n i xs ys → HasMade ns doc vs m xs ys
  makes-release k n i ys e f never r =
      let a = subst (Allows ns xs) e allowed in
      let at_k : IsFreed ns doc vs k i xs ys = subst (λ z. IsFreed ns doc vs z i xs ys) f r in
      rw e (made ns doc vs xs ys k released (move.Release k i) (λ t b. refl) (go (stage_at xs k) refl a.0 a.1 at_k (λ h was. never h (ap (stage_at xs) f ∙ was))))
    where
      go : (x : Stage) → stage_at xs k ≡ x → k < length ns → CanRelease (kind_at ns k) x i → IsFreed ns doc vs k i xs ys → ((h : ℕ) → stage_at xs k ≡ Ready h → ⊥) → IsChanged ns doc vs k released xs ys
      go (Ready h) was lt can q never = absurd (never h was)
      go (Freeing h) was lt can q never = free-changed ns doc vs xs ys k released (Freeing h) i (kind_at ns k) lt refl can.0 was (good-released_freeing (kind_at ns k) h i can.1) q
      go Open was lt can q never = free-changed ns doc vs xs ys k released Open i (Act (i + 1)) lt can refl was (good-released_open i) q
      go x was lt can q never = absurd can

  pub makes-pass : (k n to i : ℕ) (ys : List Stage) → m ≡ move.Pass k to i → n ≡ k → IsFreed ns doc vs n i xs ys → HasMade ns doc vs m xs ys
  makes-pass k n to i ys e f r =
      let a = subst (Allows ns xs) e allowed in
      let at_k : IsFreed ns doc vs k i xs ys = subst (λ z. IsFreed ns doc vs z i xs ys) f r in
      rw e (made ns doc vs xs ys k released (move.Pass k to i) (λ t b. refl)
      (free-changed ns doc vs xs ys k released (Freeing (i + 1)) i (kind_at ns k) a.0 refl a.2 a.3 (good-released_freeing (kind_at ns k) (i + 1) i refl) at_k))

pub laid-lengths : (ns : List Entry) (doc : Recipe) (xs : List Stage) → SomeLives ns doc xs → length xs ≡ length ns
laid-lengths ns doc xs h = h.2.fits ∙ sym h.1.count

pub begin-stands : (ns : List Entry) (doc : Recipe) (xs : List Stage) (m : Move) (k n : ℕ) → SomeLives ns doc xs → Allows ns xs m → m ≡ move.Begin k → n ≡ k → (c : Tree) × Stands ns doc (n + 1) c
begin-stands ns doc xs m k n h allowed e f =
    let a = subst (Allows ns xs) e allowed in
    let some = some-stands ns doc k h.0 0 h.1.stands (omega arith) (omega (arith, h.1.count, a.2)) in
    subst (λ z. (c : Tree) × Stands ns doc (z + 1) c) (sym f) (go a some.0 (act-at ns doc k a.0 a.3 some.0 some.1))
  where
    go : (a : Allows ns xs (move.Begin k)) (c : Tree) → ActAt ns doc k a.0 c → (d : Tree) × Stands ns doc (k + 1) d
    go a _ (act_at s name c q g count) = (c, q)

-- Reports and grants

good-now : (z : State) (j i : ℕ) (y : State) (s : Step) (w : Task) (r : Rest) → Fits (kind.Phase j i) s w → IsGood (phase_after (phase.Now z)) (Live y) (Live z) s w r
good-now z j i y s (runs p) r h = (refl, refl, now-remains z (live s p y))
good-now z j i y s (follows name c) r h = absurd h

good-same : (j i : ℕ) (y : State) (s : Step) (w : Task) (r : Rest) → Fits (kind.Phase j i) s w → IsGood (phase_after phase.Same) (Live y) (Live y) s w r
good-same j i y s (runs p) r h = (refl, refl, same-remains (live s p y))
good-same j i y s (follows name c) r h = absurd h

module _ (ns : List Entry) (doc : Recipe) (vs : ValueList) (xs : List Stage) (k n : ℕ) (same : n ≡ k) (at : IsNodeLive ns xs k) where
  pub reports-now : (z : State) → IsChanged ns doc vs k (phase_after (phase.Now z)) xs (slice_set xs n (Live z))
  reports-now z = rw same (set-changed ns doc vs xs k (phase_after (phase.Now z)) (Live at.2) (Live z) (kind.Phase at.0 at.1) at.3 at.4 refl at.5 refl (good-now z at.0 at.1 at.2) (calm-live at.0 at.1 (Live at.2) z))

  pub reports-same : IsChanged ns doc vs k (phase_after phase.Same) xs xs
  reports-same = record {
    means = λ t laid alive.
        (let set = set-step ns doc xs t laid alive k (phase_after phase.Same) (Live at.2) (Live at.2) (kind.Phase at.0 at.1) at.3 at.4 refl at.5 refl (good-same at.0 at.1 at.2) in
        let step : IsStep ns doc k (phase_after phase.Same) xs xs = record {
          within = at.3;
          is_act = ap is_act_kind at.4;
          fits = refl;
          outside = λ j h. refl;
          now = ap is_finished at.5;
          was = set.was;
          change = λ c h. refl;
          keeps = λ c h. same-remains (meaning c k xs);
        } in
        let c = calmed ns doc t laid xs alive k (phase_after phase.Same) xs step (λ c h. (set.was c h, λ q. q)) (λ q. q) in
        (c.0, c.1 (bare vs)));
  }

  pub reports-ended : (j : ℕ) (d : ℕ) (ys : List Stage) → kind_at ns n ≡ kind.Phase j d → IsFreed ns doc vs n j xs ys → IsChanged ns doc vs k (phase_after phase.Ended) xs ys
  reports-ended j d ys g r =
      let e : kind_at ns k ≡ kind.Phase j d = subst (λ z. kind_at ns z ≡ kind.Phase j d) same g in
      free-changed ns doc vs xs ys k (phase_after phase.Ended) (Live at.2) j (kind.Phase j d) at.3 e refl at.5 (good-reported j d at.2) (subst (λ z. IsFreed ns doc vs z j xs ys) same r)

pub grants-next : (ns : List Entry) (doc : Recipe) (xs : List Stage) (k n i : ℕ) → n ≡ k → IsNodeAsking ns xs k → stage_at xs n ≡ Asking i → IsChangedOnly ns doc k granted xs (slice_set xs n (Ready (i + 1)))
grants-next ns doc xs k n i same at was =
    rw same (record {
      means = λ t laid alive.
          (let now : stage_at xs k ≡ Asking i = subst (λ z. stage_at xs z ≡ Asking i) same was in
          let step = set-step ns doc xs t laid alive k granted (Asking i) (Ready (i + 1)) (kind_at ns k) at.1 refl at.2 now refl (good-granted (kind_at ns k) i) in
          let c = calmed ns doc t laid xs alive k granted (slice_set xs k (Ready (i + 1))) step
          (set-calm ns doc xs k (Asking i) (Ready (i + 1)) (kind_at ns k) (omega (arith, laid.count, alive.fits, at.1)) refl at.2 now (λ s w r h. calm-ready (Asking i) (i + 1) s w r)) (set-told ns doc t laid xs k (Ready (i + 1)) at.1) in
          (c.0, stepped ns doc t laid xs alive k granted (slice_set xs k (Ready (i + 1))) step, c.1));
    })
