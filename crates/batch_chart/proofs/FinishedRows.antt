-- Where no node shows that it is an act, nothing is left of a row.
use Rattle.std.proofs.Common.{◌≡◌, inl, inr, ◌<◌, ◌≤◌, ℕ, ◌+◌, List, [], ◌∷◌, Bool, true, false, arith, refl, sym, ◌∙◌, ap}
use Rattle.std.{specs.Prelude.map, specs.Int.Bits.bit_and, proofs.lemmas.Bool.cases_lt}
use Rattle.batch_recipe.{specs.Nodes.node_count, specs.Tree.Tree, specs.Tree.Trees, specs.Tree.no_trees, specs.Tree.tree, specs.declared.entry.Entry.Entry, specs.declared.recipe.Recipe.Recipe, proofs.NodeSubtrees.some_count}
use Rattle.batch_model.specs.{Rest.Rest, Rest.acts, Moves.is_empty}
use Rattle.batch_chart.{specs.declared.sign.TheConstants.IS_ACT, specs.declared.stage.Stage.Stage, specs.declared.stage.Stage.TheVariants.Finished, specs.Climbing.all_finished, specs.Climbing.AreFinished, specs.Outlined.Stands, specs.Outlined.AreStanding, specs.Meaning.meaning, specs.Neat.AllFinished, specs.Neat.AreNeat, specs.Neat.shown_of, specs.Noting.signs_of, specs.Noting.sign_in, specs.Numbered.numbered, specs.Stages.stage_at, specs.Stages.is_finished, specs.Told.AreTold, proofs.TreeAdvance.finished-stage, proofs.ClimbFromNode.both-true, proofs.NumberedActs.AllActs, proofs.NumberedActs.acts-all, proofs.NumberedActs.numbered-acts, proofs.MoveKinds.empty-done, proofs.NeatCharts.finished-shows, proofs.NeatCharts.neat-part, proofs.NeatCharts.neat-finished, proofs.SignSearch.RiseIn, proofs.SignSearch.rise, proofs.SignSearch.sign-here, proofs.SignSearch.shown-not, proofs.ClimbSigns.finished-row, proofs.ActSigns.link, proofs.TreePositions.stood-each, proofs.TreePositions.some-each, proofs.FinishedStages.told-part}
use Rattle.batch_signs.{specs.Signs.shows, specs.Signs.sign_at, specs.Signs.NoneShows, specs.Signs.TellsNone, proofs.WantedSigns.none-shown}

module _ (ns : List Entry) (doc : Recipe) (xs : List Stage) (signs : List ℕ) where
  -- a tree of which something is left has an act that shows
  act-shown : (c : Tree) (n : ℕ) → Stands ns doc n c → AreNeat ns doc n (n + node_count c) xs signs → AreTold ns doc n (n + node_count c) xs → is_finished (stage_at xs n) ≡ false → NoneShows signs IS_ACT n (n + node_count c) → ⊥
  act-shown c n s neat told u none =
      let t = told n c (omega arith) (omega (arith, some_count c)) s in
      go (numbered c n xs) (numbered-acts xs c n) (rise xs c n) (link ns doc xs signs c n (n + node_count c) refl s neat told) (sym (empty-done (meaning c n xs) t.advanced) ∙ sym t.finished ∙ u) (acts-all (meaning c n xs))
    where
      go : (l : List (ℕ × Rest)) → map (λ (e : ℕ × Rest). e.1) l ≡ acts (meaning c n xs) → RiseIn n (n + node_count c) l → ((k : ℕ) → n ≤ k → k < n + node_count c → sign_in k l 0 ≡ sign_at signs k) → is_empty (acts (meaning c n xs)) ≡ false
          → AllActs (acts (meaning c n xs)) → ⊥
      go [] e r h f all = (let q : ◌≡◌ {A = Bool} true false = ap is_empty e ∙ f in absurd (cc))
      go (a ∷ l) e r h f all =
          let shown : bit_and (signs_of a.1) IS_ACT ≡ 0 = ap (λ z. bit_and z IS_ACT) (sym (sign-here (n + node_count c) a l 0 r.2) ∙ h a.0 r.0 r.1) ∙ none a.0 r.0 r.1 in
          let not_one : shows IS_ACT (signs_of a.1) ≡ false = shown-not IS_ACT (signs_of a.1) shown in
          first (acts (meaning c n xs)) e all not_one
        where
          first : (as' : List Rest) → map (λ (e : ℕ × Rest). e.1) (a ∷ l) ≡ as' → AllActs as' → shows IS_ACT (signs_of a.1) ≡ false → ⊥
          first [] e all g = absurd (cc)
          first (b ∷ as') e all g = (let same : a.1 ≡ b = cc in let q : ◌≡◌ {A = Bool} false true = sym g ∙ ap (λ z. shows IS_ACT (signs_of z)) same ∙ all.0 in absurd (cc))

  none-left : (ts : Trees) (n m : ℕ) → AreStanding ns doc n m ts → AreNeat ns doc n m xs signs → AreTold ns doc n m xs → NoneShows signs IS_ACT n m → AllFinished n m xs
  none-left no_trees n m h neat told none = λ k a b. absurd (omega (arith, h))
  none-left (tree c ts) n m h neat told none =
      let le : n + node_count c ≤ m = omega (arith, stood-each ns doc (n + node_count c) m ts h.1) in
      let front = neat-part ns doc n m n (n + node_count c) xs signs (omega arith) le neat in
      let gone : stage_at xs n ≡ Finished = go (is_finished (stage_at xs n)) refl front (told-part ns doc n m n (n + node_count c) xs (omega arith) le told) (λ k a b. none k a (omega (arith, le))) in
      λ k a b. elim (cases_lt k (n + node_count c)) [
        | inl q ↦ neat-finished ns doc n c xs signs h.0 (front n c (omega arith) (omega (arith, some_count c)) h.0) gone k a q
        | inr q ↦
            none-left ts (n + node_count c) m h.1 (neat-part ns doc n m (n + node_count c) m xs signs (omega arith) (omega arith) neat) (told-part ns doc n m (n + node_count c) m xs (omega arith) (omega arith) told)
            (λ j f g. none j (omega arith) g) k q b
      ]
    where
      go : (b : Bool) → is_finished (stage_at xs n) ≡ b → AreNeat ns doc n (n + node_count c) xs signs → AreTold ns doc n (n + node_count c) xs → NoneShows signs IS_ACT n (n + node_count c) → stage_at xs n ≡ Finished
      go true e front t none = finished-stage (stage_at xs n) e
      go false e front t none = absurd (act-shown c n h.0 front t e none)

  -- a row of which all branches are finished shows nothing
  all-none : (ts : Trees) (n m : ℕ) → AreStanding ns doc n m ts → AreNeat ns doc n m xs signs → all_finished ts n xs ≡ true → AllFinished n m xs
  all-none no_trees n m h neat f = λ k a b. absurd (omega (arith, h))
  all-none (tree c ts) n m h neat f =
      let le : n + node_count c ≤ m = omega (arith, stood-each ns doc (n + node_count c) m ts h.1) in
      let q = both-true (is_finished (stage_at xs n)) (all_finished ts (n + node_count c) xs) f in
      λ k a b. elim (cases_lt k (n + node_count c)) [
        | inl lt ↦ neat-finished ns doc n c xs signs h.0 (neat n c (omega arith) (omega (arith, le, some_count c)) h.0) (finished-stage (stage_at xs n) q.0) k a lt
        | inr ge ↦ all-none ts (n + node_count c) m h.1 (neat-part ns doc n m (n + node_count c) m xs signs (omega arith) (omega arith) neat) q.1 k ge b
      ]

  -- so the signs tell whether anything is left of it
  pub over-tells : (n m : ℕ) (b : Bool) → ((ts : Trees) × AreStanding ns doc n m ts) → AreNeat ns doc n m xs signs → AreTold ns doc n m xs → TellsNone signs IS_ACT n m b → (b ≡ true → AllFinished n m xs) × AreFinished ns doc n m xs b
  over-tells n m true row neat told none =
      let all = none-left row.0 n m row.1 neat told none in
      ((λ e. all), finished-row ns doc n m xs all)
  over-tells n m false row neat told some = (
    (λ e. absurd (cc)),
    record { means = λ ts h. go ts h (all_finished ts n xs) refl },
  )
    where
      go : (ts : Trees) → AreStanding ns doc n m ts → (d : Bool) → all_finished ts n xs ≡ d → false ≡ all_finished ts n xs
      go ts h false e = sym e
      go ts h true e =
          let all = all-none ts n m h neat e in
          let at = some-each ns doc some.0 ts n m h some.1 some.2 in
          let own = neat some.0 at.0 some.1 some.2 at.1 in
          let zero : sign_at signs some.0 ≡ 0 = own.shown ∙ ap (λ x. shown_of at.0 x (is_finished (stage_at xs (some.0 + 1)))) (all some.0 some.1 some.2) ∙ finished-shows at.0 (is_finished (stage_at xs (some.0 + 1))) in
          absurd (some.3 (ap (λ z. bit_and z IS_ACT) zero ∙ none-shown IS_ACT))
