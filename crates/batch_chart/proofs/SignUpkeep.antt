-- The signs go with the stage of an act that goes on by itself.
use Rattle.std.proofs.Common.{◌≡◌, ◌≢◌, ◌⊎◌, inl, inr, ◌<◌, ◌≤◌, ℕ, ◌+◌, List, length, Bool, true, false, arith, refl, sym, ◌∙◌, subst, ap, length-set, get_or-set_same, get_or-set_other}
use Rattle.std.specs.Prelude.{slice_set, ⊤}
use Rattle.batch_matrix.specs.declared.{state.State.State, command.Command.Command}
use Rattle.batch_recipe.{specs.Nodes.node_count, specs.Tree.Task, specs.Tree.follows, specs.Tree.Tree, specs.Tree.act, specs.declared.entry.Entry.Entry, proofs.NodeSubtrees.some_count, specs.declared.recipe.Recipe.Recipe}
use Rattle.batch_chart.{specs.declared.node.Kind.Kind, specs.declared.node.Kind.TheVariants.Act, specs.declared.stage.Stage.Stage, specs.declared.stage.Stage.TheVariants.Ready, specs.declared.stage.Stage.TheVariants.Asking, specs.declared.stage.Stage.TheVariants.Open, specs.declared.stage.Stage.TheVariants.Live, specs.declared.stage.Stage.TheVariants.Freeing, specs.declared.chart_move.Move.Move, specs.Stages.stage_at, specs.Stages.is_finished, specs.Stages.is_begun, specs.Outlined.end_at, specs.Outlined.kind_at, specs.Outlined.is_act_kind, specs.Outlined.Stands, specs.Meaning.AgreeOutside, specs.Neat.AllFinished, specs.Neat.act_shows, specs.Neat.shown_of, specs.Neat.step_shows, specs.Neat.IsNeat, specs.Neat.AreNeat, specs.Neat.SignsOutside, specs.Neat.IsReachedNeatly, specs.Neat.AreBlank, specs.Needs.needs_of_kind, specs.Noting.stage_signs, specs.Noting.open_signs, specs.Noting.HasCome, specs.Running.Allows, specs.Running.CanRelease, specs.Running.IsLaid, specs.Running.IsNodeLive, specs.Running.IsNodeAsking, specs.Running.SomeLives, specs.Upkeep.IsKeptUp, proofs.StageAgreement.stage-set_same, proofs.StageAgreement.stage-set_other, proofs.NeatCharts.finished-shows, proofs.NeatCharts.neat-after, proofs.NeatCharts.neat-one, proofs.NeatCharts.neat-part, proofs.NeatCharts.neat-same, proofs.TreePositions.stood, proofs.TreePositions.some-stands, proofs.TreePositions.ActAt, proofs.TreePositions.act_at, proofs.TreePositions.act-at, proofs.ChartChange.fits-count, proofs.ChartChange.more-act, proofs.ChartChange.act-here, proofs.FinishedStages.nests, proofs.FinishedStages.nests-below}
use Rattle.batch_chart.specs.declared.chart_move.Move.TheVariants as move
use Rattle.batch_signs.specs.Signs.{sign_at}

-- something is left of an act at this stage, and nothing runs below it
abbrev pub IsPlain : Stage → Type 0
IsPlain (Ready i) = ⊤
IsPlain (Asking i) = ⊤
IsPlain (Live y) = ⊤
IsPlain (Freeing i) = ⊤
IsPlain x = ⊥

plain-left : (x : Stage) → IsPlain x → is_finished x ≡ false
plain-left x1 x2 = grind arith

plain-begun : (x : Stage) → IsPlain x → is_begun x ≡ false
plain-begun x1 x2 = grind arith

plain-shows : (needs : ℕ) (w : Task) (x : Stage) (b : Bool) → IsPlain x → stage_signs needs x ≡ step_shows needs w x b
plain-shows x1 x2 x3 x4 x5 = grind arith

pub same-kept : (ns : List Entry) (doc : Recipe) (xs : List Stage) (ms : List ℕ) → IsKeptUp ns doc xs xs ms ms
same-kept ns doc xs ms = record { count = refl; keeps = λ h. h }

-- an act comes to a stage at which nothing runs below it, and where nothing stands
module _ (ns : List Entry) (doc : Recipe) (t : Tree) (laid : IsLaid ns doc t) (k : ℕ) (lt : k < length ns) (acting : is_act_kind (kind_at ns k) ≡ true) where
  at-k : (c : Tree) × Stands ns doc k c
  at-k = some-stands ns doc k t 0 laid.stands (omega arith) (omega (arith, laid.count))

  k-end : end_at ns k ≡ k + node_count at-k.0
  k-end = (stood ns doc k at-k.0 at-k.1).end

  k-below : k < end_at ns k
  k-below = omega (arith, k-end, some_count at-k.0)

  apart : (j : ℕ) → (j < k) ⊎ (end_at ns k ≤ j) → j ≢ k
  apart j (inl q) = λ e. absurd (omega (arith, q, e))
  apart j (inr q) = λ e. absurd (omega (arith, q, e, k-below))

  -- the act itself, if all is finished below it
  pub plain-neat : (ys : List Stage) (new : List ℕ) (v : Stage) → IsPlain v → stage_at ys k ≡ v → sign_at new k ≡ stage_signs (needs_of_kind (kind_at ns k)) v → AllFinished (k + 1) (end_at ns k) ys → (c : Tree) → Stands ns doc k c → IsNeat ns c k ys new
  plain-neat ys new v plain own sign below c s =
      let here = act-here ns doc k c acting s in
      subst (λ z. IsNeat ns z k ys new) (sym here.is)
      (record {
        shut = λ u j a b. below j a (omega (arith, b, (stood ns doc k c s).end, ap node_count here.is));
        lone = λ one. absurd (cc);
        shown = sign ∙ ap (λ z. stage_signs z v) (sym (fits-count (kind_at ns k) here.step here.task here.fits))
            ∙ plain-shows (length here.step.needs) here.task v (is_finished (stage_at ys (k + 1))) plain
            ∙ ap (λ x. step_shows (length here.step.needs) here.task x (is_finished (stage_at ys (k + 1)))) (sym own);
      })

  module _ (xs ys : List Stage) (old new : List ℕ) (x v : Stage) (fits : length xs ≡ length ns) (count : length old ≡ length ns) (from : IsPlain x) (to : IsPlain v) (was : stage_at xs k ≡ x) (h : HasCome ns k v xs ys old new) where
    own : stage_at ys k ≡ v
    own = ap (λ l. stage_at l k) h.stages ∙ stage-set_same xs k v (omega (arith, fits))

    other : (j : ℕ) → j ≢ k → stage_at ys j ≡ stage_at xs j
    other j ne = ap (λ l. stage_at l j) h.stages ∙ stage-set_other xs k j v ne

    sign-own : sign_at new k ≡ stage_signs (needs_of_kind (kind_at ns k)) v
    sign-own = ap (λ l. sign_at l k) h.signs ∙ get_or-set_same old k (stage_signs (needs_of_kind (kind_at ns k)) v) 0 (omega (arith, count))

    sign-other : (j : ℕ) → j ≢ k → sign_at new j ≡ sign_at old j
    sign-other j ne = ap (λ l. sign_at l j) h.signs ∙ get_or-set_other old k j (stage_signs (needs_of_kind (kind_at ns k)) v) 0 ne

    pub come-neat : AreNeat ns doc 0 (length ns) xs old → AreNeat ns doc 0 (length ns) ys new
    come-neat neat =
        neat-after ns doc t laid k lt xs ys old new (λ j q. other j (apart j q)) (λ j q. sign-other j (apart j q)) (ap is_finished was ∙ plain-left x from) (ap is_finished own ∙ plain-left v to) neat
        (neat-one ns doc k (end_at ns k) ys new
        (plain-neat ys new v to own sign-own (λ j a b. other j (λ e. absurd (omega (arith, a, e))) ∙ shut j a (omega (arith, b, k-end))))
        (neat-same ns doc (k + 1) (end_at ns k) xs ys old new (nests-below ns doc k (k + 1) (end_at ns k) (omega arith) (nests ns doc k at-k.0 at-k.1)) (λ j a b. other j (λ e. absurd (omega (arith, a, e)))) (λ j a b. sign-other j (λ e. absurd (omega (arith, a, e))))
        (neat-part ns doc 0 (length ns) (k + 1) (end_at ns k) xs old (omega arith) (omega (arith, k-end, (stood ns doc k at-k.0 at-k.1).fits)) neat)))
      where
        shut : AllFinished (k + 1) (k + node_count at-k.0) xs
        shut = (let here = act-here ns doc k at-k.0 acting at-k.1 in
            let q = subst (λ z. IsNeat ns z k xs old) here.is (neat k at-k.0 (omega arith) lt at-k.1) in
            λ j a b. q.shut (ap is_begun was ∙ plain-begun x from) j a (omega (arith, b, ap node_count here.is)))

module _ (ns : List Entry) (doc : Recipe) (xs ys : List Stage) (old new : List ℕ) (lives : SomeLives ns doc xs) (count : length old ≡ length ns) where
  pub come-kept : (k : ℕ) (x v : Stage) → k < length ns → is_act_kind (kind_at ns k) ≡ true → IsPlain x → IsPlain v → stage_at xs k ≡ x → HasCome ns k v xs ys old new → IsKeptUp ns doc xs ys old new
  come-kept k x v lt acting from to was h = record {
    count = ap length h.signs ∙ length-set old k (stage_signs (needs_of_kind (kind_at ns k)) v);
    keeps = come-neat ns doc lives.0 lives.1 k lt acting xs ys old new x v (lives.2.fits ∙ sym lives.1.count) count from to was h;
  }

  at-node : (n k : ℕ) (v : Stage) → n ≡ k → HasCome ns n v xs ys old new → HasCome ns k v xs ys old new
  at-node n k v e h = subst (λ z. HasCome ns z v xs ys old new) e h

  module _ (m : Move) (allowed : Allows ns xs m) where
    pub keeps-send : (k n : ℕ) (c : Command) (y : State) → m ≡ move.Send k c → n ≡ k → HasCome ns n (Live y) xs ys old new → IsKeptUp ns doc xs ys old new
    keeps-send k n c y e f h =
        let a = subst (Allows ns xs) e allowed in
        come-kept k (Live a.2) (Live y) a.3 (ap is_act_kind a.4) tt tt a.5 (at-node n k (Live y) f h)

    pub keeps-start : (k n : ℕ) (y : State) → m ≡ move.Start k → n ≡ k → HasCome ns n (Live y) xs ys old new → IsKeptUp ns doc xs ys old new
    keeps-start k n y e f h =
        let a = subst (Allows ns xs) e allowed in
        come-kept k (Ready a.2) (Live y) a.3 (ap is_act_kind a.4) tt tt a.5 (at-node n k (Live y) f h)

    pub keeps-ask : (k n i : ℕ) → m ≡ move.Ask k i → n ≡ k → HasCome ns n (Asking i) xs ys old new → IsKeptUp ns doc xs ys old new
    keeps-ask k n i e f h =
        let a = subst (Allows ns xs) e allowed in
        come-kept k (Ready i) (Asking i) a.0 (more-act (kind_at ns k) i a.1) tt tt a.2 (at-node n k (Asking i) f h)

    pub keeps-release : (k n i r : ℕ) → m ≡ move.Release k i → n ≡ k → stage_at xs n ≡ Ready r → HasCome ns n (Ready i) xs ys old new → IsKeptUp ns doc xs ys old new
    keeps-release k n i r e f s h =
        let a = subst (Allows ns xs) e allowed in
        let was : stage_at xs k ≡ Ready r = subst (λ z. stage_at xs z ≡ Ready r) f s in
        let can : CanRelease (kind_at ns k) (Ready r) i = subst (λ z. CanRelease (kind_at ns k) z i) was a.1 in
        come-kept k (Ready r) (Ready i) a.0 can.0 tt tt was (at-node n k (Ready i) f h)

  pub keeps-now : (k n : ℕ) (y : State) → n ≡ k → IsNodeLive ns xs k → HasCome ns n (Live y) xs ys old new → IsKeptUp ns doc xs ys old new
  keeps-now k n y f at h = come-kept k (Live at.2) (Live y) at.3 (ap is_act_kind at.4) tt tt at.5 (at-node n k (Live y) f h)

  pub keeps-grant : (k n i : ℕ) → n ≡ k → IsNodeAsking ns xs k → HasCome ns n (Ready i) xs ys old new → IsKeptUp ns doc xs ys old new
  keeps-grant k n i f at h = come-kept k (Asking at.0) (Ready i) at.1 at.2 tt tt at.4 (at-node n k (Ready i) f h)

-- An act begins: the tree reached below it is neat

module _ (ns : List Entry) (doc : Recipe) (t : Tree) (laid : IsLaid ns doc t) (k j : ℕ) (lt : k < length ns) (e : kind_at ns k ≡ Act j) (xs ys : List Stage) (old sg : List ℕ) (x : Stage) (r : Bool) (v : ℕ)
    (fits : length xs ≡ length ns) (count : length old ≡ length ns) (was : stage_at xs k ≡ x) (plain : IsPlain x) (own : is_finished (stage_at ys (k + 1)) ≡ r) (outside : AgreeOutside (k + 1) (end_at ns (k + 1)) (slice_set xs k Open) ys)
    (reached : IsReachedNeatly ns doc (k + 1) (slice_set xs k Open) ys old sg) (is : v ≡ open_signs (needs_of_kind (kind_at ns k)) r) where
  here : (c : Tree) × Stands ns doc k c
  here = some-stands ns doc k t 0 laid.stands (omega arith) (omega (arith, laid.count))

  inner : end_at ns (k + 1) ≡ end_at ns k
  inner = go here.0 (act-at ns doc k j e here.0 here.1)
    where
      go : (c : Tree) → ActAt ns doc k j c → end_at ns (k + 1) ≡ end_at ns k
      go _ (act_at s name d a f g) = omega (arith, f, (stood ns doc (k + 1) d a).end)

  here-below : k < end_at ns k
  here-below = omega (arith, (stood ns doc k here.0 here.1).end, some_count here.0)

  opened : stage_at ys k ≡ Open
  opened = outside k (inl (omega arith)) ∙ stage-set_same xs k Open (omega (arith, lt, fits))

  off : (i : ℕ) → (i < k) ⊎ (end_at ns k ≤ i) → i ≢ k
  off i (inl q) = λ f. absurd (omega (arith, q, f))
  off i (inr q) = λ f. absurd (omega (arith, q, f, here-below))

  past : (i : ℕ) → (i < k) ⊎ (end_at ns k ≤ i) → (i < k + 1) ⊎ (end_at ns (k + 1) ≤ i)
  past i (inl q) = inl (omega arith)
  past i (inr q) = inr (omega (arith, q, inner))

  out : AgreeOutside k (end_at ns k) xs ys
  out i q = outside i (past i q) ∙ stage-set_other xs k i Open (off i q)

  out-signs : SignsOutside k (end_at ns k) old (slice_set sg k v)
  out-signs i q = get_or-set_other sg k i v 0 (off i q) ∙ reached.outside i (past i q)

  pub begins-neatly : AreNeat ns doc 0 (length ns) xs old → AreNeat ns doc 0 (length ns) ys (slice_set sg k v)
  begins-neatly neat =
      neat-after ns doc t laid k lt xs ys old (slice_set sg k v) out out-signs (ap is_finished was ∙ plain-left x plain) (ap is_finished opened) neat
      (neat-one ns doc k (end_at ns k) ys (slice_set sg k v) (λ c s. show c (act-at ns doc k j e c s))
      (neat-same ns doc (k + 1) (end_at ns k) ys ys sg (slice_set sg k v) (nests-below ns doc k (k + 1) (end_at ns k) (omega arith) (nests ns doc k here.0 here.1)) (λ i a b. refl)
      (λ i a b. get_or-set_other sg k i v 0 (λ f. absurd (omega (arith, a, f)))) (subst (λ z. AreNeat ns doc (k + 1) z ys sg) inner (reached.neat blank))))
    where
      shut : AllFinished (k + 1) (end_at ns k) xs
      shut = go here.0 (act-at ns doc k j e here.0 here.1) here.1
        where
          go : (c : Tree) → ActAt ns doc k j c → Stands ns doc k c → AllFinished (k + 1) (end_at ns k) xs
          go _ (act_at s name d a f g) h i b q = (neat k (act s (follows name d)) (omega arith) lt h).shut (ap is_begun was ∙ plain-begun x plain) i b (omega (arith, q, (stood ns doc k (act s (follows name d)) h).end))

      blank : AreBlank (k + 1) (end_at ns (k + 1)) (slice_set xs k Open) old
      blank i a b = (
          let q : i < end_at ns k = omega (arith, b, inner) in
          let at = some-stands ns doc i here.0 k here.1 (omega arith) (omega (arith, q, (stood ns doc k here.0 here.1).end)) in
          let fin = shut i a q in (
            stage-set_other xs k i Open (λ f. absurd (omega (arith, a, f))) ∙ fin,
            (neat i at.0 (omega arith) (omega (arith, q, (stood ns doc k here.0 here.1).end, (stood ns doc k here.0 here.1).fits)) at.1).shown
                ∙ ap (λ z. shown_of at.0 z (is_finished (stage_at xs (i + 1)))) fin ∙ finished-shows at.0 (is_finished (stage_at xs (i + 1))),
          ))

      show : (c : Tree) → ActAt ns doc k j c → IsNeat ns c k ys (slice_set sg k v)
      show _ (act_at s name d a f g) = record {
        shut = λ u. let q : ◌≡◌ {A = Bool} true false = sym (ap is_begun opened) ∙ u in absurd (cc);
        lone = λ one. absurd (cc);
        shown = get_or-set_same sg k v 0 (omega (arith, lt, count, reached.count)) ∙ is ∙ ap (λ z. open_signs z r) (ap needs_of_kind e ∙ sym g)
            ∙ sym (ap (λ z. act_shows (length s.needs) z (is_finished (stage_at ys (k + 1)))) opened ∙ ap (open_signs (length s.needs)) own);
      }

pub keeps-begin : (ns : List Entry) (doc : Recipe) (xs ys : List Stage) (old sg : List ℕ) → SomeLives ns doc xs → length old ≡ length ns → (k n : ℕ) → Allows ns xs (move.Begin k) → n ≡ k → (r : Bool) (v : ℕ) → is_finished (stage_at ys (n + 1)) ≡ r
    → AgreeOutside (n + 1) (end_at ns (n + 1)) (slice_set xs n Open) ys → IsReachedNeatly ns doc (n + 1) (slice_set xs n Open) ys old sg → v ≡ open_signs (needs_of_kind (kind_at ns n)) r → IsKeptUp ns doc xs ys old (slice_set sg n v)
keeps-begin ns doc xs ys old sg lives count k n a f r v own outside reached is = record {
  count = length-set sg n v ∙ reached.count;
  keeps = begins-neatly ns doc lives.0 lives.1 n a.0 (omega (arith, f, a.2)) (ap (kind_at ns) f ∙ a.3) xs ys old sg (Ready a.1) r v (lives.2.fits ∙ sym lives.1.count) count (ap (stage_at xs) f ∙ a.4) tt own outside reached is;
}

-- A freed node is an act of which something is left

pub live-acts : (ns : List Entry) (xs : List Stage) (k n : ℕ) → n ≡ k → IsNodeLive ns xs k → (n < length ns) × (is_act_kind (kind_at ns n) ≡ true) × (is_finished (stage_at xs n) ≡ false)
live-acts ns xs k n f at = (omega (arith, f, at.3), ap (λ z. is_act_kind (kind_at ns z)) f ∙ ap is_act_kind at.4, ap (λ z. is_finished (stage_at xs z)) f ∙ ap is_finished at.5)

pub end-acts : (ns : List Entry) (xs : List Stage) (k n : ℕ) → n ≡ k → Allows ns xs (move.End k) → (n < length ns) × (is_act_kind (kind_at ns n) ≡ true) × (is_finished (stage_at xs n) ≡ false)
end-acts ns xs k n f a = (omega (arith, f, a.1), ap (λ z. is_act_kind (kind_at ns z)) f ∙ ap is_act_kind a.2, ap (λ z. is_finished (stage_at xs z)) f ∙ ap is_finished a.3)

pub release-acts : (ns : List Entry) (xs : List Stage) (k n i : ℕ) → n ≡ k → Allows ns xs (move.Release k i) → (n < length ns) × (is_act_kind (kind_at ns n) ≡ true) × (is_finished (stage_at xs n) ≡ false)
release-acts ns xs k n i f a =
    let q = go (kind_at ns k) (stage_at xs k) a.1 in
    (omega (arith, f, a.0), ap (λ z. is_act_kind (kind_at ns z)) f ∙ q.0, ap (λ z. is_finished (stage_at xs z)) f ∙ q.1)
  where
    go : (κ : Kind) (x : Stage) → CanRelease κ x i → (is_act_kind κ ≡ true) × (is_finished x ≡ false)
    go κ (Ready h) c = (c.0, refl)
    go κ (Freeing h) c = (c.0, refl)
    go κ Open c = (ap is_act_kind c, refl)
    go κ x c = absurd c

pub pass-acts : (ns : List Entry) (xs : List Stage) (k n to i : ℕ) → n ≡ k → Allows ns xs (move.Pass k to i) → (n < length ns) × (is_act_kind (kind_at ns n) ≡ true) × (is_finished (stage_at xs n) ≡ false)
pass-acts ns xs k n to i f a = (omega (arith, f, a.0), ap (λ z. is_act_kind (kind_at ns z)) f ∙ a.2, ap (λ z. is_finished (stage_at xs z)) f ∙ ap is_finished a.3)
