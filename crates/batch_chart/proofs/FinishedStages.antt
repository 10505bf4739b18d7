-- Stages that tell whether anything is left of their nodes.
use Rattle.std.proofs.Common.{◌≡◌, inl, inr, ◌<◌, ◌≤◌, ℕ, ◌+◌, List, Bool, arith, refl, sym, ◌∙◌, subst, ap}
use Rattle.std.proofs.lemmas.Bool.{cases_lt, Decides.eqb_tells}
use Rattle.batch_recipe.{specs.Conditions.ValueList, specs.Nodes.node_count, specs.Tree.Tree, specs.Tree.act, specs.Tree.skip, specs.Tree.seq, specs.Tree.par, specs.Tree.sel, specs.Tree.loop, specs.Tree.Trees, specs.Tree.Choices, specs.declared.entry.Entry.Entry, specs.declared.recipe.Recipe.Recipe, proofs.NodeSubtrees.some_count}
use Rattle.batch_model.specs.{Rest.in_par, Rest.done, Rest.is_done, Settled.IsAdvanced}
use Rattle.batch_step_laws.proofs.AdvancedRests.{reach-advanced}
use Rattle.batch_chart.{specs.declared.stage.Stage.Stage, specs.declared.stage.Stage.TheVariants.Finished, specs.Stages.stage_at, specs.Stages.is_finished, specs.Stages.is_begun, specs.Stages.turns_of, specs.Meaning.meaning, specs.Meaning.meaning_below, specs.Meaning.meaning_each, specs.Meaning.act_as, specs.Meaning.loop_as, specs.Meaning.meaning_of_branch, specs.Meaning.chosen, specs.Meaning.AgreeWithin, specs.Outlined.end_at, specs.Outlined.Stands, specs.Outlined.AreStanding, specs.Outlined.AreChoices, specs.Told.TellsWhetherOver, specs.Told.AreTold, proofs.StageAgreement.meaning-agree, proofs.StageAgreement.agree-part, proofs.KnownTests.chosen-false, proofs.TreePositions.stood, proofs.TreePositions.nested, proofs.TreePositions.nested-each, proofs.TreePositions.nested-choices, specs.ByValues.bare, specs.ByValues.reach_by}

pub finished-means : (c : Tree) (n : ℕ) (xs : List Stage) → stage_at xs n ≡ Finished → meaning c n xs ≡ done
finished-means (act s w) n xs e = ap (λ x. act_as s w (meaning_below w (n + 1) xs) x) e
finished-means skip n xs e = refl
finished-means (seq ts) n xs e = chosen-false (is_begun (stage_at xs n)) (meaning_of_branch ts (n + 1) xs) done (ap is_begun e)
finished-means (par ts) n xs e = chosen-false (is_begun (stage_at xs n)) (in_par (meaning_each ts (n + 1) xs)) done (ap is_begun e)
finished-means (sel ch) n xs e = chosen-false (is_begun (stage_at xs n)) (chosen ch (n + 1) xs) done (ap is_begun e)
finished-means (loop k p body) n xs e = ap (λ x. loop_as (turns_of x) p body (meaning body (n + 1) xs)) e

pub told-finished : (c : Tree) (n : ℕ) (xs : List Stage) → stage_at xs n ≡ Finished → TellsWhetherOver c n xs
told-finished c n xs e =
    let m = finished-means c n xs e in
    record { finished = ap is_finished e ∙ sym (ap is_done m); advanced = subst IsAdvanced (sym m) tt }

pub told-reached : (vs : ValueList) (c : Tree) (n : ℕ) (xs : List Stage) (b : Bool) → (meaning c n xs ≡ reach_by vs c) × (b ≡ is_done (reach_by vs c)) → is_finished (stage_at xs n) ≡ b → TellsWhetherOver c n xs
told-reached vs c n xs b m own = record { finished = own ∙ m.1 ∙ sym (ap is_done m.0); advanced = subst IsAdvanced (sym m.0) (reach-advanced (bare vs) c) }

-- the subtrees of the nodes from n to m end there
abbrev pub AreNested : List Entry → Recipe → ℕ → ℕ → Type 0
AreNested ns doc n m = (j : ℕ) (c : Tree) → n ≤ j → j < m → Stands ns doc j c → j + node_count c ≤ m

module _ (ns : List Entry) (doc : Recipe) where
  pub nests : (n : ℕ) (c : Tree) → Stands ns doc n c → AreNested ns doc n (end_at ns n)
  nests n c h j d a b k =
      let e = (stood ns doc n c h).end in
      let inner : end_at ns j ≤ n + node_count c = nested ns doc j c n h a (omega (arith, e)) in omega (arith, e, (stood ns doc j d k).end)

  pub nests-each : (n m : ℕ) (ts : Trees) → AreStanding ns doc n m ts → AreNested ns doc n m
  nests-each n m ts h j d a b k = let inner : end_at ns j ≤ m = nested-each ns doc j ts n m h a b in omega (arith, (stood ns doc j d k).end)

  pub nests-choices : (i n m : ℕ) (ch : Choices) → AreChoices ns doc i n m ch → AreNested ns doc n m
  nests-choices i n m ch h j d a b k = let inner : end_at ns j ≤ m = nested-choices ns doc j ch i n m h a b in omega (arith, (stood ns doc j d k).end)

  pub nests-below : (n i m : ℕ) → n ≤ i → AreNested ns doc n m → AreNested ns doc i m
  nests-below n i m le h j d a b k = h j d (omega arith) b k

  pub told-part : (n m i j : ℕ) (xs : List Stage) → n ≤ i → j ≤ m → AreTold ns doc n m xs → AreTold ns doc i j xs
  told-part n m i j xs a b h k c p q s = h k c (omega arith) (omega arith) s

  pub told-join : (n i m : ℕ) (xs : List Stage) → AreTold ns doc n i xs → AreTold ns doc i m xs → AreTold ns doc n m xs
  told-join n i m xs f g k c p q s = elim (cases_lt k i) [ inl lt ↦ f k c p lt s | inr le ↦ g k c le q s ]

  pub told-one : (n m : ℕ) (xs : List Stage) → ((c : Tree) → Stands ns doc n c → TellsWhetherOver c n xs) → AreTold ns doc (n + 1) m xs → AreTold ns doc n m xs
  told-one n m xs own h k c p q s = elim (eqb_tells k n) [
    | inl e ↦ subst (λ z. TellsWhetherOver c z xs) (sym e.1) (own c (subst (λ z. Stands ns doc z c) e.1 s))
    | inr e ↦ let d = e.1 in h k c (omega arith) q s
  ]

  pub told-agree : (c : Tree) (j : ℕ) (xs ys : List Stage) → AgreeWithin j (j + node_count c) xs ys → TellsWhetherOver c j xs → TellsWhetherOver c j ys
  told-agree c j xs ys h t =
      let m = meaning-agree xs ys c j h in
      record { finished = ap is_finished (h j (omega arith) (omega (arith, some_count c))) ∙ t.finished ∙ sym (ap is_done m); advanced = subst IsAdvanced (sym m) t.advanced }

  -- where the stages stay, they go on telling
  pub told-same : (n m : ℕ) (xs ys : List Stage) → AreNested ns doc n m → AgreeWithin n m xs ys → AreTold ns doc n m xs → AreTold ns doc n m ys
  told-same n m xs ys nest same h j c a b s = told-agree c j xs ys (agree-part n m j (j + node_count c) xs ys a (nest j c a b s) same) (h j c a b s)

  -- the first part has gone on, and then the second
  pub told-row : (n e m : ℕ) (xs ys zs : List Stage) → n < e → e ≤ m → AreNested ns doc n e → AreNested ns doc e m → AgreeWithin e m xs ys → AgreeWithin n e ys zs
      → (AreTold ns doc (n + 1) e xs → AreTold ns doc n e ys) → (AreTold ns doc e m ys → AreTold ns doc e m zs) → AreTold ns doc n m xs → AreTold ns doc n m zs
  told-row n e m xs ys zs lt le first later before after f g h =
      told-join n e m zs
      (told-same n e ys zs first after (f (told-part n m (n + 1) e xs (omega arith) le h)))
      (g (told-same e m xs ys later before (told-part n m e m xs (omega arith) (omega arith) h)))
