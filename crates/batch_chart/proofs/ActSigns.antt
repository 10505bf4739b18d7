-- Signs that go by the stages are those of the acts.
use Rattle.std.proofs.Common.{◌≡◌, inl, inr, ◌<◌, ◌≤◌, ℕ, zero, suc, ◌+◌, List, [], ◌∷◌, ◌++◌, length, Bool, true, false, Some, None, nat_eq, arith, refl, sym, ◌∙◌, subst, ap}
use Rattle.std.{specs.Prelude.Option, specs.Prelude.is_none, specs.Prelude.not, proofs.lemmas.Bool.cases_lt, proofs.lemmas.Bool.Decides.eqb_tells, proofs.lemmas.List.get_or_past}
use Rattle.batch_recipe.{specs.Conditions.Name, specs.Nodes.node_count, specs.Tree.Step, specs.Tree.Phase, specs.Tree.Task, specs.Tree.runs, specs.Tree.follows, specs.Tree.Tree, specs.Tree.act, specs.Tree.skip, specs.Tree.seq, specs.Tree.par, specs.Tree.sel, specs.Tree.loop, specs.Tree.Trees, specs.Tree.no_trees, specs.Tree.tree, specs.Tree.Choices, specs.Tree.otherwise, specs.Tree.choice, specs.declared.entry.Entry.Entry, specs.declared.recipe.Recipe.Recipe, proofs.NodeSubtrees.some_count}
use Rattle.batch_model.specs.{Rest.Rest, Rest.open_act, Rest.done, Rest.is_done, Rest.acts, Moves.is_empty}
use Rattle.batch_chart.{specs.declared.stage.Stage.Stage, specs.declared.stage.Stage.TheVariants.Finished, specs.declared.stage.Stage.TheVariants.Ready, specs.declared.stage.Stage.TheVariants.Asking, specs.declared.stage.Stage.TheVariants.Open, specs.declared.stage.Stage.TheVariants.Live, specs.declared.stage.Stage.TheVariants.Freeing, specs.declared.stage.Stage.TheVariants.Turning, specs.Outlined.Stands, specs.Outlined.StandsAct, specs.Outlined.AreStanding, specs.Outlined.AreChoices, specs.Meaning.meaning, specs.Meaning.act_as, specs.Neat.runs_below, specs.Neat.AllFinished, specs.Neat.IsLone, specs.Neat.step_shows, specs.Neat.shown_of, specs.Neat.IsNeat, specs.Neat.AreNeat, specs.Noting.signs_of, specs.Noting.open_signs, specs.Noting.sign_in, specs.Noting.AreNoted, specs.Numbered.entries, specs.Numbered.entries_in, specs.Numbered.numbered, specs.Numbered.numbered_each, specs.Numbered.numbered_branch, specs.Numbered.numbered_chosen, specs.Running.IsLaid, specs.Running.IsAlive, specs.Stages.stage_at, specs.Stages.is_finished, specs.Stages.is_begun, specs.Stages.turns_of, specs.Told.AreTold, proofs.TreeAdvance.finished-stage, proofs.MoveKinds.empty-done, proofs.NeatCharts.finished-shows, proofs.NeatCharts.neat-part, proofs.NeatCharts.neat-finished, proofs.SignSearch.RiseIn, proofs.SignSearch.rise, proofs.SignSearch.rise-each, proofs.SignSearch.rise-branch, proofs.SignSearch.rise-chosen, proofs.SignSearch.sign-before, proofs.SignSearch.sign-here, proofs.SignSearch.sign-other, proofs.TreePositions.stood, proofs.TreePositions.stood-each, proofs.TreePositions.stood-choices, proofs.TreePositions.some-stands, proofs.TreePositions.some-each, proofs.TreePositions.some-choices, proofs.TreePositions.nested, proofs.ChartChange.all-told, proofs.FinishedStages.told-part}
use Rattle.batch_signs.specs.Signs.{sign_at}

-- past the last number nothing is shown
pub sign-after : (k n m : ℕ) (l : List (ℕ × Rest)) (none : ℕ) → RiseIn n m l → m ≤ k → sign_in k l none ≡ none
sign-after k n m [] none h le = refl
sign-after k n m (a ∷ l) none h le = sign-other k a l none (λ e. absurd (omega (arith, e, h.1, le))) ∙ sign-after k (a.0 + 1) m l none h.2 le

pub sign-append : (k : ℕ) (l r : List (ℕ × Rest)) (none : ℕ) → sign_in k (l ++ r) none ≡ sign_in k r (sign_in k l none)
sign-append k [] r none = refl
sign-append k (a ∷ l) r none = sign-append k l r (elim (nat_eq a.0 k) [ true ↦ signs_of a.1 | false ↦ none ])

-- a stage that says that something is left of an act, of which nothing is
untold : (x : Stage) (r : Rest) → is_finished x ≡ false → r ≡ done → is_finished x ≡ is_done r → ⊥
untold x r u e t = let f : ◌≡◌ {A = Bool} false true = sym u ∙ t ∙ ap is_done e in absurd (cc)

module _ (ns : List Entry) (doc : Recipe) (xs : List Stage) (signs : List ℕ) where
  abbrev Shows : ℕ → ℕ → List (ℕ × Rest) → Type 0
  Shows n m l = (k : ℕ) → n ≤ k → k < m → sign_in k l 0 ≡ sign_at signs k

  -- nothing is shown where all is finished
  nothing : (n m : ℕ) → ((k : ℕ) → n ≤ k → k < m → (d : Tree) × Stands ns doc k d) → AreNeat ns doc n m xs signs → AllFinished n m xs → (k : ℕ) → n ≤ k → k < m → sign_at signs k ≡ 0
  nothing n m sit h f k a b =
      let at = sit k a b in
      (h k at.0 a b at.1).shown ∙ ap (λ x. shown_of at.0 x (is_finished (stage_at xs (k + 1)))) (f k a b) ∙ finished-shows at.0 (is_finished (stage_at xs (k + 1)))

  -- an act that follows no chart
  alone : (n m : ℕ) (a : Rest) → n < m → sign_at signs n ≡ signs_of a → ((k : ℕ) → n + 1 ≤ k → k < m → sign_at signs k ≡ 0) → Shows n m ((n, a) ∷ [])
  alone n m a lt own below k p q = elim (eqb_tells n k) [
    | inl e ↦ subst (λ z. sign_in z ((n, a) ∷ []) 0 ≡ sign_at signs z) e.1 (sign-here (n + 1) (n, a) [] 0 tt ∙ sym own)
    | inr e ↦ let ne = e.1 in sign-other k (n, a) [] 0 e.1 ∙ sym (below k (omega arith) q)
  ]

  empty : (n m : ℕ) → ((k : ℕ) → n ≤ k → k < m → sign_at signs k ≡ 0) → Shows n m []
  empty n m h k a b = sym (h k a b)

  -- a node that is no act, over its descendants
  above : (n m : ℕ) (l : List (ℕ × Rest)) → RiseIn (n + 1) m l → sign_at signs n ≡ 0 → Shows (n + 1) m l → Shows n m l
  above n m l r own h k a b = elim (eqb_tells n k) [
    | inl e ↦ subst (λ z. sign_in z l 0 ≡ sign_at signs z) e.1 (sign-before n (n + 1) m l 0 r (omega arith) ∙ sym own)
    | inr e ↦ let ne = e.1 in h k (omega arith) b
  ]

  opened : (n m : ℕ) (a : Rest) (l : List (ℕ × Rest)) → RiseIn (n + 1) m l → sign_at signs n ≡ signs_of a → Shows (n + 1) m l → Shows n m ((n, a) ∷ l)
  opened n m a l r own h k p q = elim (eqb_tells n k) [
    | inl e ↦ subst (λ z. sign_in z ((n, a) ∷ l) 0 ≡ sign_at signs z) e.1 (sign-here m (n, a) l 0 r ∙ sym own)
    | inr e ↦ let ne = e.1 in sign-other k (n, a) l 0 e.1 ∙ h k (omega arith) q
  ]

  beside : (n i m : ℕ) (l r : List (ℕ × Rest)) → n ≤ i → i ≤ m → RiseIn n i l → RiseIn i m r → Shows n i l → Shows i m r → Shows n m (l ++ r)
  beside n i m l r a b f g h j k p q = sign-append k l r 0 ∙ elim (cases_lt k i) [
    | inl lt ↦ sign-before k i m r (sign_in k l 0) g lt ∙ h k p lt
    | inr le ↦ ap (sign_in k r) (sign-after k n i l 0 f le) ∙ j k le q
  ]

  shows-phase : (n : ℕ) (s : Step) (p : Phase) (x : Stage) → sign_at signs n ≡ step_shows (length s.needs) (runs p) x (is_finished (stage_at xs (n + 1))) → is_finished x ≡ is_done (act_as s (runs p) done x)
      → Shows n (n + 1) (entries n (act_as s (runs p) done x) [])
  shows-phase n s p Finished own t = empty n (n + 1) (λ k a b. let e : n ≡ k = omega arith in ap (sign_at signs) (sym e) ∙ own)
  shows-phase n s p (Ready i) own t = alone n (n + 1) (act_as s (runs p) done (Ready i)) (omega arith) own (λ k a b. absurd (omega arith))
  shows-phase n s p (Asking i) own t = alone n (n + 1) (act_as s (runs p) done (Asking i)) (omega arith) own (λ k a b. absurd (omega arith))
  shows-phase n s p (Live x) own t = alone n (n + 1) (act_as s (runs p) done (Live x)) (omega arith) own (λ k a b. absurd (omega arith))
  shows-phase n s p (Freeing (suc i)) own t = alone n (n + 1) (act_as s (runs p) done (Freeing (suc i))) (omega arith) own (λ k a b. absurd (omega arith))
  shows-phase n s p (Freeing zero) own t = absurd (untold (Freeing 0) done refl refl t)
  shows-phase n s p Open own t = absurd (untold Open done refl refl t)
  shows-phase n s p (Turning i) own t = absurd (untold (Turning i) done refl refl t)

  shows-act : (n m : ℕ) (s : Step) (name : Name) (c : Tree) (x : Stage) → n < m → sign_at signs n ≡ step_shows (length s.needs) (follows name c) x (is_finished (stage_at xs (n + 1)))
      → is_finished x ≡ is_done (act_as s (follows name c) (meaning c (n + 1) xs) x) → (is_begun x ≡ false → (k : ℕ) → n + 1 ≤ k → k < m → sign_at signs k ≡ 0)
      → is_finished (stage_at xs (n + 1)) ≡ is_empty (acts (meaning c (n + 1) xs)) → RiseIn (n + 1) m (numbered c (n + 1) xs) → Shows (n + 1) m (numbered c (n + 1) xs)
      → Shows n m (entries n (act_as s (follows name c) (meaning c (n + 1) xs) x) (numbered c (n + 1) xs))
  shows-act n m s name c Finished lt own t below over r h = empty n m (λ k a b. elim (eqb_tells n k) [
    | inl e ↦ ap (sign_at signs) (sym e.1) ∙ own
    | inr e ↦ let ne = e.1 in below refl k (omega arith) b
  ])
  shows-act n m s name c (Ready i) lt own t below over r h = alone n m (act_as s (follows name c) (meaning c (n + 1) xs) (Ready i)) lt own (below refl)
  shows-act n m s name c (Asking i) lt own t below over r h = alone n m (act_as s (follows name c) (meaning c (n + 1) xs) (Asking i)) lt own (below refl)
  shows-act n m s name c Open lt own t below over r h = opened n m (open_act s (meaning c (n + 1) xs)) (numbered c (n + 1) xs) r (own ∙ ap (open_signs (length s.needs)) over) h
  shows-act n m s name c (Freeing (suc i)) lt own t below over r h = alone n m (act_as s (follows name c) (meaning c (n + 1) xs) (Freeing (suc i))) lt own (below refl)
  shows-act n m s name c (Freeing zero) lt own t below over r h = absurd (untold (Freeing 0) done refl refl t)
  shows-act n m s name c (Live x) lt own t below over r h = absurd (untold (Live x) done refl refl t)
  shows-act n m s name c (Turning i) lt own t below over r h = absurd (untold (Turning i) done refl refl t)

  shows-if : (n m : ℕ) (b : Bool) (l r : List (ℕ × Rest)) → (b ≡ true → Shows n m l) → (b ≡ false → Shows n m r) → Shows n m (elim b as (λ _. List (ℕ × Rest)) [ true ↦ l | false ↦ r ])
  shows-if n m true l r h j = h refl
  shows-if n m false l r h j = j refl

  shows-in : (n m : ℕ) (o : Option ℕ) (l : List (ℕ × Rest)) → (not (is_none o) ≡ true → Shows n m l) → (not (is_none o) ≡ false → Shows n m []) → Shows n m (entries_in o l)
  shows-in n m None l h j = j refl
  shows-in n m (Some i) l h j = h refl

  after : (n i m : ℕ) (l : List (ℕ × Rest)) → ((k : ℕ) → n ≤ k → k < i → sign_at signs k ≡ 0) → RiseIn i m l → Shows i m l → Shows n m l
  after n i m l z r h k a b = elim (cases_lt k i) [
    | inl lt ↦ sign-before k i m l 0 r lt ∙ sym (z k a lt)
    | inr le ↦ h k le b
  ]

  before : (n i m : ℕ) (l : List (ℕ × Rest)) → ((k : ℕ) → i ≤ k → k < m → sign_at signs k ≡ 0) → RiseIn n i l → Shows n i l → Shows n m l
  before n i m l z r h k a b = elim (cases_lt k i) [
    | inl lt ↦ h k a lt
    | inr le ↦ sign-after k n i l 0 r le ∙ sym (z k le b)
  ]

  -- the first tree of a row, and the trees after it
  module _ (n m : ℕ) (c : Tree) (s : Stands ns doc n c) (le : n + node_count c ≤ m) (neat : AreNeat ns doc n m xs signs) where
    pub own-neat : IsNeat ns c n xs signs
    own-neat = neat n c (omega arith) (omega (arith, le, some_count c)) s

    pub first-neat : AreNeat ns doc n (n + node_count c) xs signs
    first-neat = neat-part ns doc n m n (n + node_count c) xs signs (omega arith) le neat

    sit : (k : ℕ) → n ≤ k → k < n + node_count c → (d : Tree) × Stands ns doc k d
    sit k a b = some-stands ns doc k c n s a b

    zeros : is_finished (stage_at xs n) ≡ true → (k : ℕ) → n ≤ k → k < n + node_count c → sign_at signs k ≡ 0
    zeros u = nothing n (n + node_count c) sit first-neat (neat-finished ns doc n c xs signs s own-neat (finished-stage (stage_at xs n) u))

    lone-later : IsLone ns n m xs → IsLone ns (n + node_count c) m xs
    lone-later h i a b root u k p q out =
        h i (omega arith) b
        (λ j v w. elim (cases_lt j (n + node_count c)) [
          | inl lt ↦ (let y = nested ns doc j c n s v lt in omega arith)
          | inr ge ↦ root j ge w
        ])
        u k (omega arith) q out

    lone-first : IsLone ns n m xs → is_finished (stage_at xs n) ≡ false → AllFinished (n + node_count c) m xs
    lone-first h u k a b =
        h n (omega arith) (omega (arith, le, some_count c)) (λ q v w. absurd (omega arith)) u k (omega arith) b (inr (omega (arith, a, (stood ns doc n c s).end)))

  zeros-below : (n m : ℕ) (c : Tree) → Stands ns doc n c → n + node_count c ≡ m → AreNeat ns doc n m xs signs → runs_below c (stage_at xs n) ≡ false → (k : ℕ) → n + 1 ≤ k → k < m → sign_at signs k ≡ 0
  zeros-below n m c s e neat u =
      nothing (n + 1) m (λ k a b. some-stands ns doc k c n s (omega arith) (omega (arith, e, b))) (neat-part ns doc n m (n + 1) m xs signs (omega arith) (omega arith) neat)
      (λ k a b. (neat n c (omega arith) (omega (arith, e, some_count c)) s).shut u k a (omega (arith, e, b)))

  closed : (n m : ℕ) (c : Tree) → Stands ns doc n c → n + node_count c ≡ m → AreNeat ns doc n m xs signs → sign_at signs n ≡ 0 → runs_below c (stage_at xs n) ≡ false → Shows n m []
  closed n m c s e neat own u = empty n m (λ k a b. elim (eqb_tells n k) [
    | inl q ↦ ap (sign_at signs) (sym q.1) ∙ own
    | inr q ↦ let ne = q.1 in zeros-below n m c s e neat u k (omega arith) b
  ])

  rise-in_each : (ts : Trees) (n m : ℕ) → AreStanding ns doc n m ts → RiseIn n m (numbered_each ts n xs)
  rise-in_each ts n m h = subst (λ z. RiseIn n z (numbered_each ts n xs)) (sym (stood-each ns doc n m ts h)) (rise-each xs ts n)

  rise-in_branch : (ts : Trees) (n m : ℕ) → AreStanding ns doc n m ts → RiseIn n m (numbered_branch ts n xs)
  rise-in_branch ts n m h = subst (λ z. RiseIn n z (numbered_branch ts n xs)) (sym (stood-each ns doc n m ts h)) (rise-branch xs ts n)

  rise-in_chosen : (ch : Choices) (i n m : ℕ) → AreChoices ns doc i n m ch → RiseIn n m (numbered_chosen ch n xs)
  rise-in_chosen ch i n m h = subst (λ z. RiseIn n z (numbered_chosen ch n xs)) (sym (stood-choices ns doc i n m ch h)) (rise-chosen xs ch n)

  mutual
    pub link : (c : Tree) (n m : ℕ) → n + node_count c ≡ m → Stands ns doc n c → AreNeat ns doc n m xs signs → AreTold ns doc n m xs → Shows n m (numbered c n xs)
    link (act s w) n m e h neat told = link-step s w n m e h neat told
    link skip n m e h neat told = closed n m skip h e neat (neat n skip (omega arith) (omega (arith, e)) h).shown refl
    link (seq ts) n m e h neat told =
        (let own = neat n (seq ts) (omega arith) (omega (arith, e)) h in
        let row : AreStanding ns doc (n + 1) m ts = subst (λ z. AreStanding ns doc (n + 1) z ts) e h.1 in
        shows-if n m (is_begun (stage_at xs n)) (numbered_branch ts (n + 1) xs) []
        (λ u. above n m (numbered_branch ts (n + 1) xs) (rise-in_branch ts (n + 1) m row) own.shown
        (link-branch ts (n + 1) m row (neat-part ns doc n m (n + 1) m xs signs (omega arith) (omega arith) neat) (told-part ns doc n m (n + 1) m xs (omega arith) (omega arith) told)
        (subst (λ z. IsLone ns (n + 1) z xs) e (own.lone refl))))
        (closed n m (seq ts) h e neat own.shown))
    link (par ts) n m e h neat told =
        (let own = neat n (par ts) (omega arith) (omega (arith, e)) h in
        let row : AreStanding ns doc (n + 1) m ts = subst (λ z. AreStanding ns doc (n + 1) z ts) e h.1 in
        shows-if n m (is_begun (stage_at xs n)) (numbered_each ts (n + 1) xs) []
        (λ u. above n m (numbered_each ts (n + 1) xs) (rise-in_each ts (n + 1) m row) own.shown
        (link-each ts (n + 1) m row (neat-part ns doc n m (n + 1) m xs signs (omega arith) (omega arith) neat) (told-part ns doc n m (n + 1) m xs (omega arith) (omega arith) told)))
        (closed n m (par ts) h e neat own.shown))
    link (sel ch) n m e h neat told =
        (let own = neat n (sel ch) (omega arith) (omega (arith, e)) h in
        let row : AreChoices ns doc h.0 (n + 1) m ch = subst (λ z. AreChoices ns doc h.0 (n + 1) z ch) e h.2 in
        shows-if n m (is_begun (stage_at xs n)) (numbered_chosen ch (n + 1) xs) []
        (λ u. above n m (numbered_chosen ch (n + 1) xs) (rise-in_chosen ch h.0 (n + 1) m row) own.shown
        (link-chosen ch h.0 (n + 1) m row (neat-part ns doc n m (n + 1) m xs signs (omega arith) (omega arith) neat) (told-part ns doc n m (n + 1) m xs (omega arith) (omega arith) told)
        (subst (λ z. IsLone ns (n + 1) z xs) e (own.lone refl))))
        (closed n m (sel ch) h e neat own.shown))
    link (loop i p body) n m e h neat told =
        (let own = neat n (loop i p body) (omega arith) (omega (arith, e)) h in
        let f : n + 1 + node_count body ≡ m = omega (arith, e) in
        shows-in n m (turns_of (stage_at xs n)) (numbered body (n + 1) xs)
        (λ u. above n m (numbered body (n + 1) xs) (subst (λ z. RiseIn (n + 1) z (numbered body (n + 1) xs)) f (rise xs body (n + 1))) own.shown
        (link body (n + 1) m f h.3 (neat-part ns doc n m (n + 1) m xs signs (omega arith) (omega arith) neat) (told-part ns doc n m (n + 1) m xs (omega arith) (omega arith) told)))
        (closed n m (loop i p body) h e neat own.shown))

    link-step : (s : Step) (w : Task) (n m : ℕ) → n + node_count (act s w) ≡ m → StandsAct ns doc n s w → AreNeat ns doc n m xs signs → AreTold ns doc n m xs → Shows n m (numbered (act s w) n xs)
    link-step s (runs p) n m e h neat told =
        (let own = neat n (act s (runs p)) (omega arith) (omega (arith, e)) h in
        let t = told n (act s (runs p)) (omega arith) (omega (arith, e)) h in
        let one : n + 1 ≡ m = omega (arith, e) in
        subst (λ z. Shows n z (numbered (act s (runs p)) n xs)) one (shows-phase n s p (stage_at xs n) own.shown t.finished))
    link-step s (follows name c) n m e h neat told =
        (let own = neat n (act s (follows name c)) (omega arith) (omega (arith, e)) h in
        let t = told n (act s (follows name c)) (omega arith) (omega (arith, e)) h in
        let b = told (n + 1) c (omega arith) (omega (arith, e, some_count c)) h.1 in
        let f : n + 1 + node_count c ≡ m = omega (arith, e) in
        shows-act n m s name c (stage_at xs n) (omega (arith, e)) own.shown t.finished
        (λ u. zeros-below n m (act s (follows name c)) h e neat u)
        (b.finished ∙ empty-done (meaning c (n + 1) xs) b.advanced)
        (subst (λ z. RiseIn (n + 1) z (numbered c (n + 1) xs)) f (rise xs c (n + 1)))
        (link c (n + 1) m f h.1 (neat-part ns doc n m (n + 1) m xs signs (omega arith) (omega arith) neat) (told-part ns doc n m (n + 1) m xs (omega arith) (omega arith) told)))

    link-each : (ts : Trees) (n m : ℕ) → AreStanding ns doc n m ts → AreNeat ns doc n m xs signs → AreTold ns doc n m xs → Shows n m (numbered_each ts n xs)
    link-each no_trees n m h neat told = λ k a b. absurd (omega (arith, h))
    link-each (tree c ts) n m h neat told =
        (let le : n + node_count c ≤ m = omega (arith, stood-each ns doc (n + node_count c) m ts h.1) in
        beside n (n + node_count c) m (numbered c n xs) (numbered_each ts (n + node_count c) xs) (omega arith) le (rise xs c n) (rise-in_each ts (n + node_count c) m h.1)
        (link c n (n + node_count c) refl h.0 (neat-part ns doc n m n (n + node_count c) xs signs (omega arith) le neat) (told-part ns doc n m n (n + node_count c) xs (omega arith) le told))
        (link-each ts (n + node_count c) m h.1 (neat-part ns doc n m (n + node_count c) m xs signs (omega arith) (omega arith) neat) (told-part ns doc n m (n + node_count c) m xs (omega arith) (omega arith) told)))

    link-branch : (ts : Trees) (n m : ℕ) → AreStanding ns doc n m ts → AreNeat ns doc n m xs signs → AreTold ns doc n m xs → IsLone ns n m xs → Shows n m (numbered_branch ts n xs)
    link-branch no_trees n m h neat told lone = λ k a b. absurd (omega (arith, h))
    link-branch (tree c ts) n m h neat told lone =
        (let le : n + node_count c ≤ m = omega (arith, stood-each ns doc (n + node_count c) m ts h.1) in
        shows-if n m (is_finished (stage_at xs n)) (numbered_branch ts (n + node_count c) xs) (numbered c n xs)
        (λ u. after n (n + node_count c) m (numbered_branch ts (n + node_count c) xs) (zeros n m c h.0 le neat u) (rise-in_branch ts (n + node_count c) m h.1)
        (link-branch ts (n + node_count c) m h.1 (neat-part ns doc n m (n + node_count c) m xs signs (omega arith) (omega arith) neat) (told-part ns doc n m (n + node_count c) m xs (omega arith) (omega arith) told)
        (lone-later n m c h.0 le neat lone)))
        (λ u. before n (n + node_count c) m (numbered c n xs)
        (nothing (n + node_count c) m (λ k a b. some-each ns doc k ts (n + node_count c) m h.1 a b) (neat-part ns doc n m (n + node_count c) m xs signs (omega arith) (omega arith) neat) (lone-first n m c h.0 le neat lone u))
        (rise xs c n)
        (link c n (n + node_count c) refl h.0 (neat-part ns doc n m n (n + node_count c) xs signs (omega arith) le neat) (told-part ns doc n m n (n + node_count c) xs (omega arith) le told))))

    link-chosen : (ch : Choices) (i n m : ℕ) → AreChoices ns doc i n m ch → AreNeat ns doc n m xs signs → AreTold ns doc n m xs → IsLone ns n m xs → Shows n m (numbered_chosen ch n xs)
    link-chosen (otherwise c) i n m h neat told lone = link c n m h.1 h.0 neat told
    link-chosen (choice p c ch) i n m h neat told lone =
        (let le : n + node_count c ≤ m = omega (arith, stood-choices ns doc (i + 1) (n + node_count c) m ch h.2) in
        shows-if n m (is_finished (stage_at xs n)) (numbered_chosen ch (n + node_count c) xs) (numbered c n xs)
        (λ u. after n (n + node_count c) m (numbered_chosen ch (n + node_count c) xs) (zeros n m c h.1 le neat u) (rise-in_chosen ch (i + 1) (n + node_count c) m h.2)
        (link-chosen ch (i + 1) (n + node_count c) m h.2 (neat-part ns doc n m (n + node_count c) m xs signs (omega arith) (omega arith) neat) (told-part ns doc n m (n + node_count c) m xs (omega arith) (omega arith) told)
        (lone-later n m c h.1 le neat lone)))
        (λ u. before n (n + node_count c) m (numbered c n xs)
        (nothing (n + node_count c) m (λ k a b. some-choices ns doc k ch (i + 1) (n + node_count c) m h.2 a b) (neat-part ns doc n m (n + node_count c) m xs signs (omega arith) (omega arith) neat) (lone-first n m c h.1 le neat lone u))
        (rise xs c n)
        (link c n (n + node_count c) refl h.1 (neat-part ns doc n m n (n + node_count c) xs signs (omega arith) le neat) (told-part ns doc n m n (n + node_count c) xs (omega arith) le told))))

  -- the signs of a chart that lives are those of its acts
  pub noted : (t : Tree) → IsLaid ns doc t → IsAlive t xs → length signs ≡ node_count t → AreNeat ns doc 0 (length ns) xs signs → AreNoted t xs signs
  noted t laid alive count neat =
      record {
        count = count;
        shown = λ k. elim (cases_lt k (length ns)) [
          | inl lt ↦ sym (link t 0 (length ns) (omega (arith, laid.count)) laid.stands neat (all-told ns doc t laid xs alive) k (omega arith) lt)
          | inr le ↦ get_or_past {X = ℕ} signs k 0 (omega (arith, laid.count, count)) ∙ sym (sign-after k 0 (0 + node_count t) (numbered t 0 xs) 0 (rise xs t 0) (omega (arith, laid.count)))
        ];
      }
