-- Going on along the path to the root is going on with the whole chart.
use Rattle.std.proofs.Common.{◌≡◌, ◌⊎◌, inl, inr, ◌<◌, ◌≤◌, ℕ, ◌+◌, List, length, true, arith, refl, sym, ◌∙◌, subst, ap, length-set}
use Rattle.std.{specs.Prelude.slice_set, proofs.lemmas.Bool.Decides.eqb_tells}
use Rattle.batch_recipe.{specs.Conditions.ValueList, specs.Tree.Tree, specs.Tree.act, specs.Tree.skip, specs.Tree.seq, specs.Tree.par, specs.Tree.sel, specs.Tree.loop, specs.declared.entry.Entry.Entry, specs.declared.recipe.Recipe.Recipe, proofs.NodeSubtrees.some_count}
use Rattle.batch_model.specs.Rest.{in_par, done, is_done}
use Rattle.batch_chart.{specs.declared.stage.Stage.Stage, specs.declared.stage.Stage.TheVariants.Finished, specs.declared.stage.Stage.TheVariants.Freeing, specs.Advancing.HasAdvanced, specs.Climbing.IsRisen, specs.Climbing.HasStopped, specs.Climbing.HasRisen, specs.Outlined.end_at, specs.Outlined.Stands, specs.Outlined.HasTree, specs.Freeing.HasFinished, specs.Neat.AllFinished, specs.Meaning.meaning, specs.Meaning.meaning_below, specs.Meaning.meaning_each, specs.Meaning.act_as, specs.Meaning.loop_as, specs.Meaning.meaning_of_branch, specs.Meaning.chosen, specs.Meaning.AgreeOutside, specs.Parents.IsAbove, specs.Parents.parent_at, specs.Running.IsLaid, specs.Running.SomeLives, specs.Stages.stage_at, specs.Stages.is_finished, specs.Stages.is_begun, specs.Stages.turns_of, specs.Told.AreTold, proofs.StageAgreement.stage-set_same, proofs.StageAgreement.stage-set_other, proofs.TreeLikeness.told-after, proofs.KnownTests.chosen-false, proofs.TreesAbove.lifted, proofs.TreePositions.some-stands, proofs.TreePositions.stood, proofs.ChartChange.all-told, proofs.FinishedStages.finished-means, proofs.FinishedStages.told-finished, specs.ByValues.advance_by}

module _ (ns : List Entry) (doc : Recipe) (t : Tree) (laid : IsLaid ns doc t) where
  root-end : end_at ns 0 ≡ length ns
  root-end = omega (arith, (stood ns doc 0 t laid.stands).end, laid.count)

  pub above-each : (n : ℕ) → 0 < n → n < length ns → IsAbove ns (parent_at ns n) n
  above-each n a b = laid.parents n a b

  pub some-at : (ys : List Stage) (n : ℕ) → length ys ≡ length ns → n < length ns → HasTree ns doc ys n
  some-at ys n l lt = (l, some-stands ns doc n t 0 laid.stands (omega arith) (omega (arith, laid.count)))

  module _ (vs : ValueList) (xs ws : List Stage) where
    -- nothing is left of the whole chart
    pub risen-top : (n : ℕ) (ys : List Stage) → n ≡ 0 → IsRisen ns doc vs xs ws n ys → HasRisen ns doc vs ws ys
    risen-top n ys e r =
        let a : HasAdvanced ns doc vs 0 ws ys true = subst (λ z. HasAdvanced ns doc vs z ws ys true) e r.advanced in
        let b : AreTold ns doc 0 (end_at ns 0) ys = subst (λ z. AreTold ns doc z (end_at ns z) ys) e r.below in
        record { finished = true; advanced = a; told = subst (λ z. AreTold ns doc 0 z ys) root-end b }

    -- something is left of it
    pub risen-stop : (p : ℕ) (ys : List Stage) → p < length ns → HasStopped ns doc vs xs ws p ys → HasRisen ns doc vs ws ys
    risen-stop p ys lt r =
        let at = some-stands ns doc p t 0 laid.stands (omega arith) (omega (arith, laid.count)) in
        let end = (stood ns doc p at.0 at.1).end in
        let below : p < end_at ns p = omega (arith, end, some_count at.0) in
        let fits : end_at ns p ≤ length ns = omega (arith, end, (stood ns doc p at.0 at.1).fits) in
        let kept : is_finished (stage_at ys p) ≡ is_finished (stage_at xs p) = r.kept ∙ ap is_finished r.stage in
        let told : AreTold ns doc 0 (length ns) ys = told-after ns doc p (length ns) xs ys both kept below fits r.told r.below in
        let root : 0 < length ns = omega arith in
        let went : (c : Tree) → Stands ns doc 0 c → meaning c 0 ys ≡ advance_by vs (meaning c 0 ws) =
        λ c s. lifted ns doc vs p ws ys r.advanced.outside r.kept (λ d q. (r.advanced.means d q).0) c 0 s (inl (omega arith)) (told 0 c (omega arith) root s).advanced in
        record {
          finished = is_finished (stage_at ys 0);
          advanced = record {
            means = λ c s. (went c s, (told 0 c (omega arith) root s).finished ∙ ap is_done (went c s));
            own = refl;
            outside = outer fits;
          };
          told = told;
        }
      where
        both : AgreeOutside p (end_at ns p) xs ys
        both k q = r.advanced.outside k q ∙ r.same k q

        outer : end_at ns p ≤ length ns → AgreeOutside 0 (end_at ns 0) ws ys
        outer fits k (inl q) = absurd (omega arith)
        outer fits k (inr q) = r.advanced.outside k (inr (omega (arith, root-end)))

-- an act that has ended and holds nothing is no more than a finished one

freed-means : (c : Tree) (n : ℕ) (xs : List Stage) → stage_at xs n ≡ Freeing 0 → meaning c n xs ≡ done
freed-means (act s w) n xs e = ap (λ x. act_as s w (meaning_below w (n + 1) xs) x) e
freed-means skip n xs e = refl
freed-means (seq ts) n xs e = chosen-false (is_begun (stage_at xs n)) (meaning_of_branch ts (n + 1) xs) done (ap is_begun e)
freed-means (par ts) n xs e = chosen-false (is_begun (stage_at xs n)) (in_par (meaning_each ts (n + 1) xs)) done (ap is_begun e)
freed-means (sel ch) n xs e = chosen-false (is_begun (stage_at xs n)) (chosen ch (n + 1) xs) done (ap is_begun e)
freed-means (loop k p body) n xs e = ap (λ x. loop_as (turns_of x) p body (meaning body (n + 1) xs)) e

module _ (ns : List Entry) (doc : Recipe) (vs : ValueList) (xs mid : List Stage) (lives : SomeLives ns doc xs) (k : ℕ) (lt : k < length ns) (fits : length mid ≡ length xs) (off : AgreeOutside (k + 1) (end_at ns k) xs mid) (gone : AllFinished (k + 1) (end_at ns k) mid) where
  pub as-many : length xs ≡ length ns
  as-many = lives.2.fits ∙ sym lives.1.count

  at-k : (c : Tree) × Stands ns doc k c
  at-k = some-stands ns doc k lives.0 0 lives.1.stands (omega arith) (omega (arith, lives.1.count))

  pub below-k : k < end_at ns k
  below-k = omega (arith, (stood ns doc k at-k.0 at-k.1).end, some_count at-k.0)

  inside : k < length mid
  inside = omega (arith, as-many, fits)

  apart : (j : ℕ) → (j < k) ⊎ (end_at ns k ≤ j) → (j ≡ k → ⊥)
  apart j (inl q) = λ e. absurd (omega arith)
  apart j (inr q) = λ e. absurd (omega (arith, below-k))

  wider : (j : ℕ) → (j < k) ⊎ (end_at ns k ≤ j) → stage_at mid j ≡ stage_at xs j
  wider j (inl q) = off j (inl (omega arith))
  wider j (inr q) = off j (inr q)

  pub set-out : (v : Stage) → AgreeOutside k (end_at ns k) xs (slice_set mid k v)
  set-out v j q = stage-set_other mid k j v (apart j q) ∙ wider j q

  -- all is finished from the act on
  pub all-gone : AllFinished k (end_at ns k) (slice_set mid k Finished)
  all-gone j a b = elim (eqb_tells j k) [
    | inl q ↦ ap (stage_at (slice_set mid k Finished)) q.1 ∙ stage-set_same mid k Finished inside
    | inr q ↦ let ne = q.1 in stage-set_other mid k j Finished q.1 ∙ gone j (omega arith) b
  ]

  pub risen : IsRisen ns doc vs xs (slice_set mid k (Freeing 0)) k (slice_set mid k Finished)
  risen =
      let is : stage_at (slice_set mid k Finished) k ≡ Finished = stage-set_same mid k Finished inside in
      let was : stage_at (slice_set mid k (Freeing 0)) k ≡ Freeing 0 = stage-set_same mid k (Freeing 0) inside in
      record {
        before = as-many;
        after = length-set mid k (Freeing 0) ∙ fits ∙ as-many;
        told = all-told ns doc lives.0 lives.1 xs lives.2;
        same = set-out (Freeing 0);
        left = ap is_finished was;
        advanced = record {
          means = λ c s. (
            finished-means c k (slice_set mid k Finished) is ∙ sym (ap (advance_by vs) (freed-means c k (slice_set mid k (Freeing 0)) was)),
            sym (ap (λ z. is_done (advance_by vs z)) (freed-means c k (slice_set mid k (Freeing 0)) was)),
          );
          own = ap is_finished is;
          outside = λ j q. stage-set_other mid k j Finished (apart j q) ∙ sym (stage-set_other mid k j (Freeing 0) (apart j q));
        };
        below = λ j c a b s. told-finished c j (slice_set mid k Finished) (all-gone j a b);
      }

  pub finishes : (ys : List Stage) → length ys ≡ length mid → HasRisen ns doc vs (slice_set mid k (Freeing 0)) ys → HasFinished ns doc vs k mid ys
  finishes ys l r = record { fits = l; finished = r.finished; advanced = r.advanced; told = r.told }
