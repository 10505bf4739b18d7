-- An act that has ended leaves a chart whose signs go by the stages.
use Rattle.std.proofs.Common.{zero, suc, ◌≡◌, ◌≢◌, ◌⊎◌, inl, inr, ◌<◌, ◌≤◌, ℕ, ◌+◌, List, length, true, false, arith, refl, sym, ◌∙◌, subst, ap, length-set, get_or-set_same, get_or-set_other, nat_eq}
use Rattle.std.{specs.Prelude.slice_set, proofs.lemmas.Bool.Decides.eqb_tells}
use Rattle.batch_recipe.{specs.Conditions.ValueList, specs.Nodes.node_count, specs.Tree.Step, specs.Tree.Task, specs.Tree.Tree, specs.Tree.runs, specs.Tree.follows, specs.Tree.act, specs.declared.entry.Entry.Entry, specs.declared.recipe.Recipe.Recipe, proofs.NodeSubtrees.some_count}
use Rattle.batch_chart.{specs.declared.stage.Stage.Stage, specs.declared.stage.Stage.TheVariants.Finished, specs.declared.stage.Stage.TheVariants.Freeing, specs.Climbing.IsRisen, specs.Climbing.IsNeatlyRisen, specs.Climbing.IsNeatlyLeft, specs.Climbing.HasRisen, specs.Outlined.end_at, specs.Outlined.kind_at, specs.Outlined.is_act_kind, specs.Outlined.Stands, specs.Freeing.HasCleared, specs.Freeing.HasGivenUp, specs.Freeing.IsFreed, specs.Meaning.AgreeOutside, specs.Neat.AllFinished, specs.Neat.AreNeat, specs.Neat.AreBlank, specs.Neat.SignsOutside, specs.Needs.needs_of_kind, specs.Noting.stage_signs, specs.Noting.HasCome, specs.Running.IsLaid, specs.Running.SomeLives, specs.Stages.stage_at, specs.Stages.is_finished, proofs.TreeAdvance.finished-stage, proofs.StageAgreement.stage-set_same, proofs.StageAgreement.stage-set_other, proofs.NeatCharts.neat-after, proofs.NeatCharts.neat-one, proofs.NeatCharts.neat-blank, proofs.NeatCharts.blank-neat, proofs.PathToRoot.finishes, proofs.PathToRoot.risen, proofs.PathToRoot.all-gone, proofs.PathToRoot.set-out, proofs.TreePositions.stood, proofs.TreePositions.some-stands, proofs.ChartChange.act-here, proofs.FinishedStages.nests, proofs.FinishedStages.nests-below, proofs.SignUpkeep.plain-neat, proofs.WithdrawalSigns.replaced-sign, proofs.WithdrawalSigns.replaced-length}
use Rattle.batch_signs.{specs.Signs.sign_at, specs.Signs.replaced, proofs.WantedSigns.more-not_zero}

-- where going on upwards has stopped, or has come to the root

module _ (ns : List Entry) (doc : Recipe) (t : Tree) (laid : IsLaid ns doc t) where
  pub left-neat : (p : ℕ) → p < length ns → (xs ys : List Stage) (ms new : List ℕ) → IsNeatlyLeft ns doc xs ms p ys new → AreNeat ns doc 0 (length ns) ys new
  left-neat p lt xs ys ms new r = neat-after ns doc t laid p lt xs ys ms new r.same r.signs r.was r.now r.before r.neat

  root-end : end_at ns 0 ≡ length ns
  root-end = omega (arith, (stood ns doc 0 t laid.stands).end, laid.count)

  pub risen-neat : (n : ℕ) → n ≡ 0 → (xs ys : List Stage) (ms new : List ℕ) → IsNeatlyRisen ns doc xs ms n ys new → AreNeat ns doc 0 (length ns) ys new
  risen-neat n e xs ys ms new r =
      blank-neat ns doc 0 (length ns) ys new (subst (λ z. (j : ℕ) (c : Tree) → 0 ≤ j → j < z → Stands ns doc j c → j + node_count c ≤ z) root-end (nests ns doc 0 t laid.stands))
      (subst (λ z. AreBlank 0 z ys new) root-end (subst (λ z. AreBlank z (end_at ns z) ys new) e r.blank))

-- clearing, node by node

cleared-sign : (signs : List ℕ) (n k : ℕ) → (k ≡ n → sign_at (replaced signs n 0) k ≡ 0) × (k ≢ n → sign_at (replaced signs n 0) k ≡ sign_at signs k)
cleared-sign signs n k = (λ e. (replaced-sign signs n 0 k).0 e ∙ gone (sign_at signs n), (replaced-sign signs n 0 k).1)
  where
    gone : (s : ℕ) → elim (nat_eq s 0) as (λ _. ℕ) [ true ↦ s | false ↦ 0 ] ≡ 0
    gone zero = refl
    gone (suc s) = ap (λ b. elim b as (λ _. ℕ) [ true ↦ suc s | false ↦ 0 ]) (more-not_zero s)

pub cleared-none : (n : ℕ) (xs : List Stage) (old : List ℕ) → HasCleared n n xs xs old old
cleared-none n xs old = record { count = refl; outside = λ k q. refl; signs = λ k q. refl; blank = λ k a b. absurd (omega arith) }

pub cleared-next : (first n : ℕ) (xs ys : List Stage) (old new : List ℕ) → first ≤ n → n < length ys → HasCleared first n xs ys old new → HasCleared first (n + 1) xs (slice_set ys n Finished) old (replaced new n 0)
cleared-next first n xs ys old new le lt h = record {
  count = replaced-length new n 0 ∙ h.count;
  outside = λ k q. stage-set_other ys n k Finished (apart k q) ∙ h.outside k (narrow k q);
  signs = λ k q. (cleared-sign new n k).1 (apart k q) ∙ h.signs k (narrow k q);
  blank = λ k a b. elim (eqb_tells k n) [
    | inl q ↦ (ap (stage_at (slice_set ys n Finished)) q.1 ∙ stage-set_same ys n Finished lt, (cleared-sign new n k).0 q.1)
    | inr q ↦ let ne = q.1 in let was = h.blank k a (omega arith) in (stage-set_other ys n k Finished q.1 ∙ was.0, (cleared-sign new n k).1 q.1 ∙ was.1)
  ];
}
  where
    apart : (k : ℕ) → (k < first) ⊎ (n + 1 ≤ k) → k ≢ n
    apart k (inl q) = λ e. absurd (omega (arith, q, e))
    apart k (inr q) = λ e. absurd (omega (arith, q, e))

    narrow : (k : ℕ) → (k < first) ⊎ (n + 1 ≤ k) → (k < first) ⊎ (n ≤ k)
    narrow k (inl q) = inl q
    narrow k (inr q) = inr (omega arith)

pub cleared-end : (first n m : ℕ) (xs ys : List Stage) (old new : List ℕ) → (m ≤ n) × (n ≤ m) → HasCleared first n xs ys old new → HasCleared first m xs ys old new
cleared-end first n m xs ys old new e h = subst (λ z. HasCleared first z xs ys old new) (omega (arith, e.0, e.1)) h

pub act-ends : (ns : List Entry) (doc : Recipe) (xs : List Stage) → SomeLives ns doc xs → (k : ℕ) → k < length ns → end_at ns k ≤ length ns
act-ends ns doc xs lives k lt =
    let at = some-stands ns doc k lives.0 0 lives.1.stands (omega arith) (omega (arith, lives.1.count)) in
    omega (arith, (stood ns doc k at.0 at.1).end, (stood ns doc k at.0 at.1).fits)

-- the descendants of the act have been given up

module _ (ns : List Entry) (doc : Recipe) (vs : ValueList) (xs : List Stage) (lives : SomeLives ns doc xs) (k : ℕ) (lt : k < length ns) (acting : is_act_kind (kind_at ns k) ≡ true) (left : is_finished (stage_at xs k) ≡ false)
    (ms : List ℕ) (count : length ms ≡ length ns) (neat : AreNeat ns doc 0 (length ns) xs ms) (mid : List Stage) (sg : List ℕ) (fits : length mid ≡ length xs) (given : HasGivenUp ns k xs mid ms sg) where
  as-long : length xs ≡ length ns
  as-long = lives.2.fits ∙ sym lives.1.count

  at-k : (c : Tree) × Stands ns doc k c
  at-k = some-stands ns doc k lives.0 0 lives.1.stands (omega arith) (omega (arith, lives.1.count))

  k-below : k < end_at ns k
  k-below = omega (arith, (stood ns doc k at-k.0 at-k.1).end, some_count at-k.0)

  pub given-count : length sg ≡ length ms
  given-count = elim given [ inl h ↦ h.count | inr h ↦ ap length h.1 ]

  given-out : AgreeOutside (k + 1) (end_at ns k) xs mid
  given-out = elim given [ inl h ↦ h.outside | inr h ↦ λ j q. ap (λ l. stage_at l j) h.0 ]

  given-signs : SignsOutside (k + 1) (end_at ns k) ms sg
  given-signs = elim given [ inl h ↦ h.signs | inr h ↦ λ j q. ap (λ l. sign_at l j) h.1 ]

  -- the nodes of a chart that is over are blank
  over-blank : (k + 1 < end_at ns k → is_finished (stage_at xs (k + 1)) ≡ true) → AreBlank (k + 1) (end_at ns k) xs ms
  over-blank u = go at-k.0 at-k.1 (act-here ns doc k at-k.0 acting at-k.1).is
    where
      go : (c : Tree) → Stands ns doc k c → {s : Step} {w : Task} → c ≡ act s w → AreBlank (k + 1) (end_at ns k) xs ms
      go (act s (runs p)) h e = λ j a b. absurd (omega (arith, h.1.2, a, b))
      go (act s (follows name d)) h e = λ j a b. (
          let same : end_at ns k ≡ k + 1 + node_count d = omega (arith, h.0.2) in
          neat-blank ns doc (k + 1) d xs ms h.1 (λ i f g. some-stands ns doc i d (k + 1) h.1 f g)
          (λ i c f g s. neat i c (omega arith) (omega (arith, g, (stood ns doc (k + 1) d h.1).fits)) s)
          (finished-stage (stage_at xs (k + 1)) (u (omega (arith, same, some_count d)))) j a (omega (arith, b, same)))
      go x1 x2 x3 = absurd (grind arith)

  given-blank : AreBlank (k + 1) (end_at ns k) mid sg
  given-blank = elim given [
    | inl h ↦ h.blank
    | inr h ↦ λ j a b. (let q = over-blank h.2 j a b in (ap (λ l. stage_at l j) h.0 ∙ q.0, ap (λ l. sign_at l j) h.1 ∙ q.1))
  ]

  below-gone : AllFinished (k + 1) (end_at ns k) mid
  below-gone j a b = (given-blank j a b).0

  inside : k < length mid
  inside = omega (arith, lt, fits, as-long)

  apart : (j : ℕ) → (j < k) ⊎ (end_at ns k ≤ j) → j ≢ k
  apart j (inl q) = λ e. absurd (omega (arith, q, e))
  apart j (inr q) = λ e. absurd (omega (arith, q, e, k-below))

  wider : (j : ℕ) → (j < k) ⊎ (end_at ns k ≤ j) → (j < k + 1) ⊎ (end_at ns k ≤ j)
  wider j (inl q) = inl (omega arith)
  wider j (inr q) = inr q

  signs-out : (v : ℕ) → SignsOutside k (end_at ns k) ms (slice_set sg k v)
  signs-out v j q = get_or-set_other sg k j v 0 (apart j q) ∙ given-signs j (wider j q)

  -- it holds needs still
  pub frees-held : (held : ℕ) (ys : List Stage) → held ≢ 0 → ys ≡ slice_set mid k (Freeing held) → IsFreed ns doc vs k held xs ys
  frees-held held ys ne e = record { mid = mid; fits = fits; outside = given-out; below = below-gone; held_or_not = inl (ne, e) }

  pub neat-held : (held : ℕ) (ys : List Stage) (new : List ℕ) → HasCome ns k (Freeing held) mid ys sg new → AreNeat ns doc 0 (length ns) ys new
  neat-held held ys new come =
      subst (λ z. AreNeat ns doc 0 (length ns) z new) (sym come.stages)
      (subst (λ z. AreNeat ns doc 0 (length ns) (slice_set mid k (Freeing held)) z) (sym come.signs)
      (neat-after ns doc lives.0 lives.1 k lt xs (slice_set mid k (Freeing held)) ms (slice_set sg k (stage_signs (needs_of_kind (kind_at ns k)) (Freeing held)))
      (set-out ns doc vs xs mid lives k lt fits given-out below-gone (Freeing held)) (signs-out (stage_signs (needs_of_kind (kind_at ns k)) (Freeing held))) left (ap is_finished own) neat
      (neat-one ns doc k (end_at ns k) (slice_set mid k (Freeing held)) (slice_set sg k (stage_signs (needs_of_kind (kind_at ns k)) (Freeing held)))
      (plain-neat ns doc lives.0 lives.1 k lt acting (slice_set mid k (Freeing held)) (slice_set sg k (stage_signs (needs_of_kind (kind_at ns k)) (Freeing held))) (Freeing held) tt own
      (get_or-set_same sg k (stage_signs (needs_of_kind (kind_at ns k)) (Freeing held)) 0 (omega (arith, lt, count, given-count))) (λ j a b. (still j a b).0))
      (blank-neat ns doc (k + 1) (end_at ns k) (slice_set mid k (Freeing held)) (slice_set sg k (stage_signs (needs_of_kind (kind_at ns k)) (Freeing held)))
      (nests-below ns doc k (k + 1) (end_at ns k) (omega arith) (nests ns doc k at-k.0 at-k.1)) still))))
    where
      own : stage_at (slice_set mid k (Freeing held)) k ≡ Freeing held
      own = stage-set_same mid k (Freeing held) inside

      still : AreBlank (k + 1) (end_at ns k) (slice_set mid k (Freeing held)) (slice_set sg k (stage_signs (needs_of_kind (kind_at ns k)) (Freeing held)))
      still j a b = (let q = given-blank j a b in (
        stage-set_other mid k j (Freeing held) (λ e. absurd (omega (arith, a, e))) ∙ q.0,
        get_or-set_other sg k j (stage_signs (needs_of_kind (kind_at ns k)) (Freeing held)) 0 (λ e. absurd (omega (arith, a, e))) ∙ q.1,
      ))

  -- or it is finished

  over-risen : IsNeatlyRisen ns doc xs ms k (slice_set mid k Finished) (slice_set sg k 0)
  over-risen = record {
    count = length-set sg k 0 ∙ given-count;
    before = neat;
    was = left;
    same = set-out ns doc vs xs mid lives k lt fits given-out below-gone Finished;
    signs = signs-out 0;
    blank = λ j a b. (all-gone ns doc vs xs mid lives k lt fits given-out below-gone j a b, gone j a b);
  }
    where
      gone : (j : ℕ) → k ≤ j → j < end_at ns k → sign_at (slice_set sg k 0) j ≡ 0
      gone j a b = elim (eqb_tells j k) [
        | inl q ↦ ap (sign_at (slice_set sg k 0)) q.1 ∙ get_or-set_same sg k 0 0 (omega (arith, lt, count, given-count))
        | inr q ↦ let ne = q.1 in get_or-set_other sg k j 0 0 q.1 ∙ (given-blank j (omega arith) b).1
      ]

  module _ (ys : List Stage) (new : List ℕ) (long : length ys ≡ length mid)
      (rises : (us ws : List Stage) (qs : List ℕ) → IsRisen ns doc vs us ws k (slice_set mid k Finished) → IsNeatlyRisen ns doc us qs k (slice_set mid k Finished) (slice_set sg k 0)
      → HasRisen ns doc vs ws ys × (length new ≡ length qs) × AreNeat ns doc 0 (length ns) ys new) where
    rose : HasRisen ns doc vs (slice_set mid k (Freeing 0)) ys × (length new ≡ length ms) × AreNeat ns doc 0 (length ns) ys new
    rose = rises xs (slice_set mid k (Freeing 0)) ms (risen ns doc vs xs mid lives k lt fits given-out below-gone) over-risen

    pub frees-over : (held : ℕ) → held ≡ 0 → IsFreed ns doc vs k held xs ys
    frees-over held e = record {
      mid = mid;
      fits = fits;
      outside = given-out;
      below = below-gone;
      held_or_not = inr (e, finishes ns doc vs xs mid lives k lt fits given-out below-gone ys long rose.0);
    }

    pub neat-over : AreNeat ns doc 0 (length ns) ys new
    neat-over = rose.2

    pub count-over : length new ≡ length ms
    count-over = rose.1
