-- The states that acts show, as the stages tell them.
use Rattle.std.proofs.Common.{◌≡◌, ◌≢◌, ◌⊎◌, inl, inr, ◌<◌, ◌≤◌, ℕ, suc, ◌+◌, List, [], ◌∷◌, length, Bool, true, false, Some, None, nat_eq, arith, refl, sym, ◌∙◌, subst, ap, ap₂}
use Rattle.std.{specs.Prelude.Option, specs.Prelude.not, specs.Prelude.map, specs.Prelude.find, specs.Prelude.⊤, proofs.Math.Bool.cond, proofs.lemmas.Bool.Decides.eqb_tells}
use Rattle.batch_matrix.specs.{declared.state.State.State, declared.state.State.TheVariants.Idle, Matrix.same_state}
use Rattle.batch_recipe.{specs.Nodes.node_count, specs.Tree.Place, specs.Tree.Step, specs.Tree.Task, specs.Tree.runs, specs.Tree.follows, specs.Tree.Tree, specs.Tree.act, specs.Tree.skip, specs.Tree.seq, specs.Tree.par, specs.Tree.sel, specs.Tree.loop, specs.Tree.Trees, specs.Tree.no_trees, specs.Tree.tree, specs.Tree.Choices, specs.Tree.otherwise, specs.Tree.choice, proofs.NodeOrder.in_order, specs.declared.entry.Entry.Entry, proofs.NodeSubtrees.some_count, specs.declared.recipe.Recipe.Recipe}
use Rattle.batch_model.{specs.ActStates.root, specs.ActStates.steps, specs.ActStates.act_state, specs.ActStates.state_in, specs.Lists.Has, specs.Moves.is_empty, proofs.Members.Has-split, specs.Plant.Batch, specs.Plant.phase_states, specs.Rest.same_place, specs.Rest.Rest, specs.Rest.live, specs.Rest.acts, specs.Rest.is_done, specs.Rest.place_of}
use Rattle.batch_chart.{specs.declared.node.Kind.Kind, specs.declared.stage.Stage.Stage, specs.Nexts.first_of, specs.Stages.stage_at, specs.Stages.is_begun, specs.Stages.is_finished, specs.Stages.turns_of, specs.Meaning.act_as, specs.Meaning.meaning, specs.Meaning.meaning_below, specs.Outlined.end_at, specs.Outlined.kind_at, specs.Outlined.is_act_kind, specs.Outlined.Stands, specs.Outlined.StandsAct, specs.Outlined.AreStanding, specs.Outlined.AreChoices, specs.Neat.step_shows, specs.Neat.IsNeat, specs.Noting.state_sign, specs.Told.TellsWhetherOver, specs.declared.sign.TheConstants.IS_ACT, specs.declared.sign.TheConstants.LIVES, specs.Numbered.numbered, specs.Numbered.numbered_below, specs.Numbered.numbered_each, specs.Numbered.numbered_branch, specs.Numbered.numbered_chosen, specs.NodesOf.nodes_of, specs.NodesOf.node_at, specs.NodesOf.place_at, specs.Nexts.SomeNoted, specs.Running.IsActTree, specs.Running.IsLaid, specs.Showing.is_among, specs.Showing.shown_by, specs.Showing.StandsBelow, specs.Showing.IsFirstShown, specs.Showing.IsShown, specs.Showing.IsStateAt, proofs.NumberedActs.nothing, proofs.NumberedActs.numbered-acts, proofs.ReleaseOnStop.below-told, proofs.ReleaseOnStop.below-first, proofs.LivePhaseSigns.entry-or-not, proofs.SignSearch.noted-alike, proofs.SignSearch.other-number, proofs.SignTests.Says, proofs.SignTests.any_live, proofs.SignTests.live_as, proofs.SignTests.said-live, proofs.SignTests.said-in, proofs.SignTests.live-shows, proofs.SignTests.open-shows, proofs.GravestState.gravest_states, proofs.GravestState.gravest-is, proofs.NextMoves.live-nothing, proofs.NextMoves.no-live, proofs.NextMoves.known, proofs.LivePhase.live-known, proofs.NodesAtNumbers.node-got, proofs.NodesAtNumbers.node-stands, proofs.NodeNumbers.told, proofs.NodeNumbers.has-entry, proofs.NodeNumbers.if-begun, proofs.NodeNumbers.either, proofs.NodeNumbers.if-turning, proofs.ActsByPlace.steps-of, proofs.ActsByPlace.own_step, proofs.ActsByPlace.step_in, proofs.ActsByPlace.unreached, proofs.ActsByPlace.step-found, proofs.ChartChange.Fits, proofs.ChartChange.entry-at, proofs.ChartChange.entry-undone, proofs.ChartChange.act-place, proofs.FirstInLine.carries}
use Rattle.batch_chart.specs.declared.node.Kind.TheVariants as kind
use Rattle.batch_chart.specs.declared.stage.Stage.TheVariants as stage
use Rattle.batch_signs.{specs.Signs.shows, specs.Signs.sign_at, specs.Signs.TellsNone, specs.Signs.IsNextShown, proofs.WantedSigns.tells-none, proofs.WantedSigns.nothing-shown}

flip : (a b : Bool) → not a ≡ b → a ≡ not b
flip a b e = grind arith

-- an act at one of these stages runs
abbrev IsUp : Stage → Type 0
IsUp stage.Open = ⊤
IsUp (stage.Live y) = ⊤
IsUp _ = ⊥

-- one that runs shows that it is an act
signed : (s : Step) (w : Task) (r : Rest) (x : Stage) (over : Bool) → is_finished x ≡ is_done (act_as s w r x) → IsUp x → shows IS_ACT (step_shows (length s.needs) w x over) ≡ true
signed s (runs p) r (stage.Live y) over t u = live-shows IS_ACT (length s.needs) y
signed s (follows name c) r stage.Open over t u = open-shows IS_ACT (length s.needs) over
signed x1 x2 x3 x4 x5 x6 x7 = absurd (grind arith)

-- no act has a kind that isn't one of an act
unfit : (κ : Kind) (s : Step) (w : Task) → is_act_kind κ ≡ false → Fits κ s w → ⊥
unfit (kind.Phase j i) s w e h = cc
unfit (kind.Act j) s w e h = cc
unfit x s w e h = h

-- the state that an act shows at its stage

shows-live : (s : Step) (w : Task) (r : Rest) (y z : State) → is_done (act_as s w r (stage.Live y)) ≡ false → act_state z (act_as s w r (stage.Live y)) ≡ y
shows-live s (runs p) r y z e = refl
shows-live s (follows name c) r y z e = absurd (cc)

shows-idle : (s : Step) (w : Task) (r : Rest) (x : Stage) (z : State) → is_done (act_as s w r x) ≡ false → (x ≡ stage.Open → ⊥) → ((y : State) → x ≡ stage.Live y → ⊥) → act_state z (act_as s w r x) ≡ Idle
shows-idle s w r (stage.Ready h) z e f g = refl
shows-idle s w r (stage.Asking h) z e f g = refl
shows-idle s w r stage.Open z e f g = absurd (f refl)
shows-idle s w r (stage.Live y) z e f g = absurd (g y refl)
shows-idle s w r (stage.Freeing (suc h)) z e f g = refl
shows-idle x1 x2 x3 x4 x5 x6 x7 x8 = absurd (grind arith)

module _ (ns : List Entry) (doc : Recipe) (xs : List Stage) where
  -- a numbered act is as the stage of its node says
  abbrev IsStaged : ℕ × Rest → Type 0
  IsStaged e = (e.0 < length ns) × ((s : Step) × (w : Task) × (r : Rest) × (e.1 ≡ act_as s w r (stage_at xs e.0)))

  within : (n : ℕ) (s : Step) (w : Task) → StandsAct ns doc n s w → n < length ns
  within n s (runs p) h = h.1.0
  within n s (follows name c) h = h.0.0

  mutual
    staged : (c : Tree) (n : ℕ) (e : ℕ × Rest) → Stands ns doc n c → Has (numbered c n xs) e → IsStaged e
    staged (act s w) n e g h = elim (has-entry [] ns doc xs n s w (meaning_below w (n + 1) xs) (stage_at xs n) (numbered_below w (n + 1) xs) e h) [
      | inl f ↦ subst IsStaged (sym f) (within n s w g, (s, w, meaning_below w (n + 1) xs, refl))
      | inr f ↦ staged_below s w n e g f
    ]
    staged skip n e g h = absurd h
    staged (seq ts) n e g h = staged_branch ts (n + 1) (n + node_count (seq ts)) e g.1 (if-begun [] ns doc xs (is_begun (stage_at xs n)) (numbered_branch ts (n + 1) xs) e h)
    staged (par ts) n e g h = staged_each ts (n + 1) (n + node_count (par ts)) e g.1 (if-begun [] ns doc xs (is_begun (stage_at xs n)) (numbered_each ts (n + 1) xs) e h)
    staged (sel ch) n e g h = staged_chosen ch g.0 (n + 1) (n + node_count (sel ch)) e g.2 (if-begun [] ns doc xs (is_begun (stage_at xs n)) (numbered_chosen ch (n + 1) xs) e h)
    staged (loop i p body) n e g h = staged body (n + 1) e g.3 (if-turning [] ns doc xs (turns_of (stage_at xs n)) (numbered body (n + 1) xs) e h)

    staged_below : (s : Step) (w : Task) (n : ℕ) (e : ℕ × Rest) → StandsAct ns doc n s w → Has (numbered_below w (n + 1) xs) e → IsStaged e
    staged_below s (runs p) n e g h = absurd h
    staged_below s (follows name c) n e g h = staged c (n + 1) e g.1 h

    staged_each : (ts : Trees) (n m : ℕ) (e : ℕ × Rest) → AreStanding ns doc n m ts → Has (numbered_each ts n xs) e → IsStaged e
    staged_each no_trees n m e g h = absurd h
    staged_each (tree c ts) n m e g h = elim (Has-split (numbered c n xs) (numbered_each ts (n + node_count c) xs) e h) [
      | inl f ↦ staged c n e g.0 f
      | inr f ↦ staged_each ts (n + node_count c) m e g.1 f
    ]

    staged_branch : (ts : Trees) (n m : ℕ) (e : ℕ × Rest) → AreStanding ns doc n m ts → Has (numbered_branch ts n xs) e → IsStaged e
    staged_branch no_trees n m e g h = absurd h
    staged_branch (tree c ts) n m e g h = elim (either [] ns doc xs (is_finished (stage_at xs n)) (numbered_branch ts (n + node_count c) xs) (numbered c n xs) e h) [
      | inl f ↦ staged_branch ts (n + node_count c) m e g.1 f
      | inr f ↦ staged c n e g.0 f
    ]

    staged_chosen : (ch : Choices) (d n m : ℕ) (e : ℕ × Rest) → AreChoices ns doc d n m ch → Has (numbered_chosen ch n xs) e → IsStaged e
    staged_chosen (otherwise c) d n m e g h = staged c n e g.0 h
    staged_chosen (choice p c ch) d n m e g h = elim (either [] ns doc xs (is_finished (stage_at xs n)) (numbered_chosen ch (n + node_count c) xs) (numbered c n xs) e h) [
      | inl f ↦ staged_chosen ch (d + 1) (n + node_count c) m e g.2 f
      | inr f ↦ staged c n e g.1 f
    ]

  -- the first live phase has the first of the states
  pub record IsFirstLive (l : List (ℕ × Rest)) (k : ℕ) : Type 0 where
    pub own : State
    pub others : List State
    pub states : phase_states (map (λ (z : ℕ × Rest). z.1) l) ≡ own ∷ others
    pub within : k < length ns
    pub staged : stage_at xs k ≡ stage.Live own

  first-live : (l : List (ℕ × Rest)) → ((e : ℕ × Rest) → Has l e → IsStaged e) → (k : ℕ) → Some k ≡ first_of any_live l → IsFirstLive l k
  first-live [] g k e = absurd (cc)
  first-live ((j, live s p x) ∷ l) g k e =
      let same : j ≡ k = cc in
      let h = g (j, live s p x) (inl refl) in
      record {
        own = x;
        others = phase_states (map (λ (z : ℕ × Rest). z.1) l);
        states = refl;
        within = subst (λ i. i < length ns) same h.0;
        staged = subst (λ i. stage_at xs i ≡ stage.Live x) same (live-known (stage_at xs j) h.1.0 h.1.1 h.1.2 s p x (sym h.1.3)).2;
      }
  first-live (d ∷ l) g k e = (let h = first-live l (λ e h. g e (inr h)) k e in record { own = h.own; others = h.others; states = h.states; within = h.within; staged = h.staged })

  module _ (signs : List ℕ) (noted : SomeNoted ns doc xs signs) (n : ℕ) where
    abbrev states_in : Tree → List State
    states_in c = phase_states (acts (meaning c (n + 1) xs))

    mapped-states : (c : Tree) → phase_states (map (λ (z : ℕ × Rest). z.1) (numbered c (n + 1) xs)) ≡ states_in c
    mapped-states c = ap phase_states (numbered-acts xs c (n + 1))

    told-below : (c : Tree) → StandsBelow ns doc n c → (p : ℕ → Rest → Bool) (m : ℕ) → Says p m → (b : Bool) → TellsNone signs m (n + 1) (end_at ns n) b → nothing (first_of p (numbered c (n + 1) xs)) ≡ b
    told-below c h p m says b t = below-told ns doc xs signs noted.3 noted.4 c (n + 1) h.1 p m says b (subst (λ z. TellsNone signs m (n + 1) z b) h.0 t)

    -- whether a state is among them is told by its sign
    found-among : (y : State) (b : Bool) (c : Tree) → TellsNone signs (state_sign y) (n + 1) (end_at ns n) b → StandsBelow ns doc n c → is_among (states_in c) y ≡ not b
    found-among y b c t h =
        flip (is_among (states_in c) y) b
        (sym (ap (λ l. not (is_among l y)) (mapped-states c)) ∙ sym (live-nothing (λ x. same_state x y) (numbered c (n + 1) xs)) ∙ told-below c h (live_as y) (state_sign y) (said-in y) b t)

    pub shown-none : (states : List State) → length states ≡ 0 → IsFirstShown ns doc n xs states None
    shown-none [] e = record { means = λ c h. refl }
    shown-none (y ∷ l) e = absurd (omega (arith, e))

    pub here-first : (y : State) (later states : List State) (m : ℕ) → states ≡ y ∷ later → m ≡ state_sign y → TellsNone signs m (n + 1) (end_at ns n) false → IsFirstShown ns doc n xs states (Some y)
    here-first y later states m is e t =
        subst (λ l. IsFirstShown ns doc n xs l (Some y)) (sym is) record { means = λ c h. sym (ap (λ b. cond b (Some y) (find (is_among (states_in c)) later)) (found-among y false c (rw e at t) h)) }

    pub later-first : (y : State) (later states : List State) (m : ℕ) (result : Option State) → states ≡ y ∷ later → m ≡ state_sign y → TellsNone signs m (n + 1) (end_at ns n) true → IsFirstShown ns doc n xs later result → IsFirstShown ns doc n xs states result
    later-first y later states m result is e t rest =
        subst (λ l. IsFirstShown ns doc n xs l result) (sym is)
        record { means = λ c h. rest.means c h ∙ sym (ap (λ b. cond b (Some y) (find (is_among (states_in c)) later)) (found-among y true c (rw e at t) h)) }

    -- nothing is live

    no-states : (l : List State) → true ≡ is_empty l → l ≡ []
    no-states [] e = refl
    no-states (x ∷ l) e = absurd (cc)

    shows-batch : (x : State) → TellsNone signs LIVES (n + 1) (end_at ns n) true → IsShown ns doc n xs x x
    shows-batch x t = record {
      means = λ c h.
          sym (ap (shown_by x) (no-states (states_in c) (sym (told-below c h any_live LIVES said-live true t) ∙ no-live (numbered c (n + 1) xs) ∙ ap is_empty (mapped-states c))));
    }

    pub shows-none : (x : State) → IsNextShown signs LIVES (n + 1) None → IsShown ns doc n xs x x
    shows-none x h = shows-batch x (tells-none signs LIVES (n + 1) (end_at ns n) h)

    pub shows-past : (x : State) (k : ℕ) → IsNextShown signs LIVES (n + 1) (Some k) → end_at ns n ≤ k → IsShown ns doc n xs x x
    shows-past x k h le = shows-batch x (λ j a b. h.3 j a (omega (arith, b, le)))

    module _ (k : ℕ) (found : IsNextShown signs LIVES (n + 1) (Some k)) (lt : k < end_at ns n) where
      live-at : (c : Tree) → StandsBelow ns doc n c → IsFirstLive (numbered c (n + 1) xs) k
      live-at c h =
          first-live (numbered c (n + 1) xs) (λ e m. staged c (n + 1) e h.1 m) k
          (below-first ns doc xs signs noted.3 noted.4 c (n + 1) h.1 any_live LIVES said-live k (subst (λ z. k < z) h.0 lt) found)

      gravest-of : (x : State) (o : Option State) (c : Tree) → StandsBelow ns doc n c → IsFirstShown ns doc n xs gravest_states o → (h : IsFirstLive (numbered c (n + 1) xs) k)
          → shown_by x (states_in c) ≡ elim o as (λ _. State) [ Some w ↦ w | None ↦ h.own ]
      gravest-of x o c s first h =
          let e : states_in c ≡ h.own ∷ h.others = sym (mapped-states c) ∙ h.states in
          ap (shown_by x) e ∙ gravest-is h.own h.others
          ∙ ap (λ l. elim (find (is_among l) gravest_states) as (λ _. State) [ Some w ↦ w | None ↦ h.own ]) (sym e)
          ∙ ap (λ z. elim z as (λ _. State) [ Some w ↦ w | None ↦ h.own ]) (sym (first.means c s))

      pub shows-grave : (x y : State) → IsFirstShown ns doc n xs gravest_states (Some y) → IsShown ns doc n xs x y
      shows-grave x y first = record { means = λ c h. sym (gravest-of x (Some y) c h first (live-at c h)) }

      live-own : (x y : State) → stage.Live x ≡ stage.Live y → x ≡ y
      live-own x y e = cc

      pub shows-own : (x y : State) → IsFirstShown ns doc n xs gravest_states None → stage_at xs k ≡ stage.Live y → IsShown ns doc n xs x y
      shows-own x y first e = record { means = λ c h. (let l = live-at c h in live-own y l.own (sym e ∙ l.staged) ∙ sym (gravest-of x None c h first l)) }

      pub shows-never : (x : State) → ((y : State) → stage_at xs k ≡ stage.Live y → ⊥) → IsShown ns doc n xs x x
      shows-never x never = record { means = λ c h. (let l = live-at c h in absurd (never l.own l.staged)) }

  -- The act at a node

  root-place : (t : Tree) → IsActTree t → place_at t 0 ≡ root
  root-place x1 x2 = grind arith

  module _ (t : Tree) (laid : IsLaid ns doc t) where
    same-number : (j k : ℕ) → j < length ns → k < length ns → same_place (place_at t j) (place_at t k) ≡ nat_eq j k
    same-number j k l m = told (nodes_of t) (in_order (0 ∷ []) [] t).1 k (node_at t k) (node-got ns doc t laid k m) j (node_at t j) (node-got ns doc t laid j l)

    is-root : (k : ℕ) → k < length ns → same_place (place_at t k) root ≡ nat_eq k 0
    is-root k lt = sym (ap (same_place (place_at t k)) (root-place t laid.root)) ∙ same-number k 0 lt (omega (arith, laid.count, some_count t))

    abbrev there : Place → Rest → Bool
    there p a = same_place (place_of a) p

    abbrev Looked : ℕ → List (ℕ × Rest) → Type 0
    Looked k l =
        (((r : Rest) → Has l (k, r) → ⊥) × (find (there (place_at t k)) (map (λ (z : ℕ × Rest). z.1) l) ≡ None))
        ⊎ ((a : Rest) × Has l (k, a) × (find (there (place_at t k)) (map (λ (z : ℕ × Rest). z.1) l) ≡ Some a))

    looked : (k : ℕ) (l : List (ℕ × Rest)) → ((e : ℕ × Rest) → Has l e → there (place_at t k) e.1 ≡ nat_eq e.0 k) → Looked k l
    looked k [] g = inl (λ r h. h, refl)
    looked k (e ∷ l) g = elim (eqb_tells e.0 k) [
      | inl q ↦ inr (e.1, inl (ap₂ (λ i a. (i, a)) q.1 refl), ap (λ b. cond b (Some e.1) (find (there (place_at t k)) (map (λ (z : ℕ × Rest). z.1) l))) (g e (inl refl) ∙ q.0))
      | inr q ↦ later q.1 (ap (λ b. cond b (Some e.1) (find (there (place_at t k)) (map (λ (z : ℕ × Rest). z.1) l))) (g e (inl refl) ∙ q.0)) (looked k l (λ d h. g d (inr h)))
    ]
      where
        later : e.0 ≢ k → find (there (place_at t k)) (map (λ (z : ℕ × Rest). z.1) (e ∷ l)) ≡ find (there (place_at t k)) (map (λ (z : ℕ × Rest). z.1) l) → Looked k l → Looked k (e ∷ l)
        later ne f (inl h) = inl (λ r m. elim m [ inl q ↦ ne (ap (λ (z : ℕ × Rest). z.0) q) | inr q ↦ h.0 r q ], f ∙ h.1)
        later ne f (inr h) = inr (h.0, inr h.1, f ∙ h.2)

    numbered-there : (k : ℕ) → k < length ns → (e : ℕ × Rest) → Has (numbered t 0 xs) e → there (place_at t k) e.1 ≡ nat_eq e.0 k
    numbered-there k lt e h =
        let g = known ns doc xs t laid e h in
        let un : is_done (act_as g.step g.task (meaning_below g.task (e.0 + 1) xs) (stage_at xs e.0)) ≡ false = ap is_done (sym g.is) ∙ entry-undone ns doc t laid xs e g.among in
        let placed : place_of e.1 ≡ place_at t e.0 = ap place_of g.is ∙ act-place g.step g.task (meaning_below g.task (e.0 + 1) xs) (stage_at xs e.0) un ∙ sym g.place in
        ap (λ q. same_place q (place_at t k)) placed ∙ same-number e.0 k g.within lt

    -- the act that a node's place finds among those that aren't reached
    step-at : (k : ℕ) → k < length ns → unreached (find (λ (s : Step). same_place s.place (place_at t k)) (steps t)) ≡ unreached (step_in (node_at t k))
    step-at k lt =
        ap (λ l. unreached (find (λ (s : Step). same_place s.place (place_at t k)) l)) (steps-of t (0 ∷ []) [])
        ∙ step-found (nodes_of t) k (node_at t k) (in_order (0 ∷ []) [] t).1 (carries t (0 ∷ []) [] laid.placed) (node-got ns doc t laid k lt)

    shown-kind : (k : ℕ) (c : Tree) → Stands ns doc k c → unreached (own_step c) ≡ elim (is_act_kind (kind_at ns k)) as (λ _. Option State) [ true ↦ Some Idle | false ↦ None ]
    shown-kind k (act s (follows name c)) h = sym (ap (λ z. elim (is_act_kind z) as (λ _. Option State) [ true ↦ Some Idle | false ↦ None ]) h.0.1)
    shown-kind k skip h = sym (ap (λ z. elim (is_act_kind z) as (λ _. Option State) [ true ↦ Some Idle | false ↦ None ]) h.1)
    shown-kind k (seq ts) h = sym (ap (λ z. elim (is_act_kind z) as (λ _. Option State) [ true ↦ Some Idle | false ↦ None ]) h.0.1)
    shown-kind k (par ts) h = sym (ap (λ z. elim (is_act_kind z) as (λ _. Option State) [ true ↦ Some Idle | false ↦ None ]) h.0.1)
    shown-kind k x h = sym (ap (λ z. elim (is_act_kind z) as (λ _. Option State) [ true ↦ Some Idle | false ↦ None ]) h.1.1)

    module _ (b : Batch) (k : ℕ) (lt : k < length ns) (tree_is : b.recipe.procedure ≡ t) (rest_is : b.rest ≡ meaning t 0 xs) where
      below-root : k ≢ 0 → state_in b (place_at t k) ≡ elim (find (there (place_at t k)) (map (λ (z : ℕ × Rest). z.1) (numbered t 0 xs))) as (λ _. Option State) [
        | Some a ↦ Some (act_state b.state a)
        | None ↦ unreached (step_in (node_at t k))
      ]
      below-root ne =
          ap (λ q. elim q as (λ _. Option State) [
            | true ↦ Some b.state
            | false ↦ elim (find (there (place_at t k)) (acts b.rest)) as (λ _. Option State) [
              | Some a ↦ Some (act_state b.state a)
              | None ↦ unreached (find (λ (s : Step). same_place s.place (place_at t k)) (steps b.recipe.procedure))
            ]
          ]) (is-root k lt ∙ other-number k 0 ne)
          ∙ ap₂ (λ l u. elim (find (there (place_at t k)) l) as (λ _. Option State) [ Some a ↦ Some (act_state b.state a) | None ↦ u ])
          (ap acts rest_is ∙ sym (numbered-acts xs t 0))
          (ap (λ z. unreached (find (λ (s : Step). same_place s.place (place_at t k)) (steps z))) tree_is ∙ step-at k lt)

      abbrev seen_by : Option Rest → Option State
      seen_by o = elim o as (λ _. Option State) [ Some a ↦ Some (act_state b.state a) | None ↦ unreached (step_in (node_at t k)) ]

      now-looked : Looked k (numbered t 0 xs)
      now-looked = looked k (numbered t 0 xs) (numbered-there k lt)

      -- no act is there
      pub no-act : k ≢ 0 → is_act_kind (kind_at ns k) ≡ false → state_in b (place_at t k) ≡ None
      no-act ne f = below-root ne ∙ go now-looked
        where
          go : Looked k (numbered t 0 xs) → seen_by (find (there (place_at t k)) (map (λ (z : ℕ × Rest). z.1) (numbered t 0 xs))) ≡ None
          go (inl h) =
              ap seen_by h.1 ∙ shown-kind k (node_at t k).here (node-stands ns doc t laid k lt)
              ∙ ap (λ q. elim q as (λ _. Option State) [ true ↦ Some Idle | false ↦ None ]) f
          go (inr h) = (let g = known ns doc xs t laid (k, h.0) h.1 in absurd (unfit (kind_at ns k) g.step g.task f g.fits))

      -- the act is reached
      pub record IsReachedAct : Type 0 where
        pub step : Step
        pub task : Task
        pub stands : Stands ns doc k (act step task)
        pub some : is_done (act_as step task (meaning_below task (k + 1) xs) (stage_at xs k)) ≡ false
        pub seen : k ≢ 0 → state_in b (place_at t k) ≡ Some (act_state b.state (act_as step task (meaning_below task (k + 1) xs) (stage_at xs k)))

      found-act : (a : Rest) → Has (numbered t 0 xs) (k, a) → find (there (place_at t k)) (map (λ (z : ℕ × Rest). z.1) (numbered t 0 xs)) ≡ Some a → IsReachedAct
      found-act a i q =
          let g = entry-at ns doc t laid xs (k, a) i in
          let f = known ns doc xs t laid (k, a) i in
          record {
            step = g.step;
            task = g.task;
            stands = g.stands;
            some = ap is_done (sym g.is) ∙ entry-undone ns doc t laid xs (k, a) f.among;
            seen = λ ne. below-root ne ∙ ap seen_by q ∙ ap (λ a. Some (act_state b.state a)) g.is;
          }

      -- an act that shows that it is one is reached
      pub reached : (signs : List ℕ) → SomeNoted ns doc xs signs → shows IS_ACT (sign_at signs k) ≡ true → IsReachedAct
      reached signs noted shown = go now-looked
        where
          go : Looked k (numbered t 0 xs) → IsReachedAct
          go (inr h) = found-act h.0 h.1 h.2
          go (inl h) = elim (entry-or-not (numbered t 0 xs) k) [
            | inl q ↦ absurd (h.0 q.0 q.1)
            | inr q ↦ absurd (let z : ◌≡◌ {A = Bool} true false = sym shown ∙ ap (shows IS_ACT) (noted-alike ns doc xs signs noted.0 t noted.1 laid noted.2 k ∙ q) ∙ nothing-shown IS_ACT in cc)
          ]

      -- at any other stage the act is idle, reached or not
      pub idle : k ≢ 0 → is_act_kind (kind_at ns k) ≡ true → (stage_at xs k ≡ stage.Open → ⊥) → ((y : State) → stage_at xs k ≡ stage.Live y → ⊥) → state_in b (place_at t k) ≡ Some Idle
      idle ne f began other = go now-looked
        where
          go : Looked k (numbered t 0 xs) → state_in b (place_at t k) ≡ Some Idle
          go (inl h) =
              below-root ne ∙ ap seen_by h.1 ∙ shown-kind k (node_at t k).here (node-stands ns doc t laid k lt)
              ∙ ap (λ q. elim q as (λ _. Option State) [ true ↦ Some Idle | false ↦ None ]) f
          go (inr h) = (let g = found-act h.0 h.1 h.2 in g.seen ne ∙ ap Some (shows-idle g.step g.task (meaning_below g.task (k + 1) xs) (stage_at xs k) b.state g.some began other))

  module _ (signs : List ℕ) (noted : SomeNoted ns doc xs signs) (k : ℕ) where
    shows-open : (s : Step) (w : Task) (z : State) → Stands ns doc k (act s w) → is_done (act_as s w (meaning_below w (k + 1) xs) stage.Open) ≡ false
        → (y : State) → IsShown ns doc k xs z y → act_state z (act_as s w (meaning_below w (k + 1) xs) stage.Open) ≡ y
    shows-open s (runs p) z g e y h = absurd (cc)
    shows-open s (follows name c) z g e y h = sym (h.means c (omega (arith, g.0.2), g.1))

    abbrev At : Stage → Type 0
    At x = stage_at xs k ≡ x

    -- the act at the node shows that it is one, where it runs
    is-signed : (c : Tree) → Stands ns doc k c → IsNeat ns c k xs signs → TellsWhetherOver c k xs → is_act_kind (kind_at ns k) ≡ true → (x : Stage) → At x → IsUp x → shows IS_ACT (sign_at signs k) ≡ true
    is-signed (act s w) h neat told e x at up =
        ap (shows IS_ACT) (neat.shown ∙ ap (λ z. step_shows (length s.needs) w z (is_finished (stage_at xs (k + 1)))) at)
        ∙ signed s w (meaning_below w (k + 1) xs) x (is_finished (stage_at xs (k + 1))) (ap is_finished (sym at) ∙ told.finished ∙ ap (λ z. is_done (act_as s w (meaning_below w (k + 1) xs) z)) at) up
    is-signed skip h neat told e x at up = absurd (let q : ◌≡◌ {A = Bool} false true = sym (ap is_act_kind h.1) ∙ e in cc)
    is-signed (sel ch) h neat told e x at up = absurd (let q : ◌≡◌ {A = Bool} false true = sym (ap is_act_kind h.1.1) ∙ e in cc)
    is-signed (loop i p body) h neat told e x at up = absurd (let q : ◌≡◌ {A = Bool} false true = sym (ap is_act_kind h.1.1) ∙ e in cc)
    is-signed y h neat told e x at up = absurd (let q : ◌≡◌ {A = Bool} false true = sym (ap is_act_kind h.0.1) ∙ e in cc)

    -- the whole answer, at the root and below it
    module _ (x : State) where
      only-within : (result : Option State) → k < length ns → (t : Tree) → IsLaid ns doc t → node_count t ≤ k → result ≡ None
      only-within result lt t laid le = absurd (omega (arith, lt, le, laid.count))

      module _ (ne : k ≢ 0) (lt : k < length ns) where
        pub state-none : false ≡ is_act_kind (kind_at ns k) → IsStateAt ns doc xs k x None
        state-none e = record { means = λ t b laid alive m f g r. sym (no-act t laid b k lt f r ne (sym e)); past = λ t laid m. refl }

        module _ (is : true ≡ is_act_kind (kind_at ns k)) where
          up : (y : Stage) → At y → IsUp y → (t : Tree) (laid : IsLaid ns doc t) (b : Batch) (f : b.recipe.procedure ≡ t) (r : b.rest ≡ meaning t 0 xs) → IsReachedAct t laid b k lt f r
          up y at u t laid b f r =
              let s = node-stands ns doc t laid k lt in
              reached t laid b k lt f r signs noted (is-signed (node_at t k).here s (noted.4 k (node_at t k).here (omega arith) lt s) (noted.3 k (node_at t k).here (omega arith) lt s) (sym is) y at u)

          pub state-live : (y : State) → At (stage.Live y) → IsStateAt ns doc xs k x (Some y)
          state-live y stays = record {
            means = λ t b laid alive m f g r.
                (let h = up (stage.Live y) stays tt t laid b f r in
                sym (h.seen ne ∙ ap (λ z. Some (act_state b.state (act_as h.step h.task (meaning_below h.task (k + 1) xs) z))) stays
                ∙ ap Some (shows-live h.step h.task (meaning_below h.task (k + 1) xs) y b.state (ap (λ z. is_done (act_as h.step h.task (meaning_below h.task (k + 1) xs) z)) (sym stays) ∙ h.some))));
            past = only-within (Some y) lt;
          }

          pub state-open : (y : State) → At stage.Open → IsShown ns doc k xs x y → IsStateAt ns doc xs k x (Some y)
          state-open y began shown = record {
            means = λ t b laid alive m f g r.
                (let h = up stage.Open began tt t laid b f r in
                sym (h.seen ne ∙ ap₂ (λ v z. Some (act_state v (act_as h.step h.task (meaning_below h.task (k + 1) xs) z))) g began
                ∙ ap Some (shows-open h.step h.task x h.stands (ap (λ z. is_done (act_as h.step h.task (meaning_below h.task (k + 1) xs) z)) (sym began) ∙ h.some) y shown)));
            past = only-within (Some y) lt;
          }

          pub state-idle : (At stage.Open → ⊥) → ((y : State) → At (stage.Live y) → ⊥) → IsStateAt ns doc xs k x (Some Idle)
          state-idle began other = record {
            means = λ t b laid alive m f g r. sym (idle t laid b k lt f r ne (sym is) began other);
            past = only-within (Some Idle) lt;
          }
