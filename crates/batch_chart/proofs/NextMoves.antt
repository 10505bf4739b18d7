-- The first act that is wanted makes the first move of a kind, in the whole chart.
use Rattle.std.proofs.Common.{◌≡◌, inl, inr, ◌<◌, ℕ, ◌+◌, List, [], ◌∷◌, length, Bool, true, false, ◌&&◌, Some, None, arith, refl, sym, ◌∙◌, subst, ap}
use Rattle.std.specs.{Prelude.Option, Prelude.not, Prelude.◌||◌, Prelude.map, Prelude.find, Prelude.IfSome, Prelude.option_map, Prelude.option_and_then, List.filter_map, List.list_all, List.list_any, Option.is_some}
use Rattle.batch_matrix.specs.{declared.state.State.State, declared.command.Command.Command, Matrix.accepts, Matrix.same_state, Matrix.ends_as}
use Rattle.batch_matrix.specs.declared.state.State.TheVariants as state
use Rattle.batch_recipe.specs.Nodes as nodes
use Rattle.batch_recipe.specs.{Tree.Step, Tree.Task, Tree.Tree, Tree.act, declared.entry.Entry.Entry, declared.recipe.Recipe.Recipe}
use Rattle.batch_model.specs.{Lists.Has, Plant.Batch, Plant.size_out_of_range, Plant.held_in, Plant.phase_states, Rest.Rest, Rest.live, Rest.is_done, Rest.acts, Settled.IsAdvanced, Moves.command_passed_on, Moves.is_running, Moves.is_stopping, Moves.is_stopped, Moves.is_empty, Moves.is_quiet, Moves.is_reached, Moves.state_move}
use Rattle.batch_model.specs.Moves as machine
use Rattle.batch_chart.{specs.declared.node.Kind.Kind, specs.declared.stage.Stage.Stage, specs.declared.chart_move.Move.Move, specs.Stages.stage_at, specs.Stages.is_begun, specs.Meaning.meaning, specs.Meaning.meaning_below, specs.Meaning.act_as, specs.Outlined.kind_at, specs.Nexts.first_of, specs.Numbered.numbered, specs.NodesOf.node_at, specs.NodesOf.place_at, specs.NodesOf.step_at, specs.NodesOf.task_at, specs.NodesOf.tree_step, specs.NodesOf.tree_task, specs.OwnMoves.own_move, specs.OwnMoves.is_kind, specs.Seen.machine_move, specs.Running.IsLaid, specs.Running.IsAlive, specs.Running.SomeLives, specs.Running.Allows, specs.Nexts.IsAmong, specs.Nexts.IsFoundFirst, specs.Nexts.IsReachedState, specs.Nexts.IsNextOf, specs.Nexts.IsNextState, specs.Nexts.is_phase_kind, specs.Nexts.entered, specs.Nexts.releasing, specs.Nexts.handing, specs.Nexts.last_held, specs.Nexts.held_at, specs.Nexts.made_of, specs.Nexts.IsHanded, specs.Passing.IsBatchOf, specs.Passing.PassesTo, specs.declared.sign.TheConstants.HOLDS, specs.declared.sign.TheConstants.IS_ACT, specs.declared.sign.TheConstants.LACKS, proofs.KnownTests.chosen-true, proofs.KnownTests.chosen-false, proofs.NumberedActs.numbered-acts, proofs.NumberedActs.nothing, proofs.NumberedActs.nothing-any, proofs.NumberedActs.nothing-holds, proofs.ChartChange.Fits, proofs.ChartChange.act-fits, proofs.ChartChange.entry-at, proofs.ChartChange.acts-advanced, proofs.NodesAtNumbers.node-got, proofs.MoveKinds.kind_in, proofs.MoveKinds.empty-done, proofs.FirstMoves.picked, proofs.FirstMoves.picked-none, proofs.FirstMoves.seen_at, proofs.FirstMoves.tells-send, proofs.FirstMoves.tells-asking, proofs.FirstMoves.suits-send, proofs.FirstMoves.suits-releasing, proofs.FirstMoves.suits-handing, proofs.FirstMoves.suits-entering, proofs.FirstMoves.suits-asking, proofs.SignTests.showing, proofs.SignTests.of_states, proofs.SignTests.any_live, proofs.SignTests.live_but, proofs.GravestState.same-is}
use Rattle.batch_chart.specs.declared.chart_move.Move.TheVariants as move

-- the first that passes a test is among them
pub first-has : (p : ℕ → Rest → Bool) (l : List (ℕ × Rest)) (k : ℕ) → Some k ≡ first_of p l → (e : ℕ × Rest) × Has l e × (e.0 ≡ k) × (p e.0 e.1 ≡ true)
first-has p [] k e = absurd (cc)
first-has p (a ∷ more) k e = go (p a.0 a.1) refl (λ i. first-has p more k i)
  where
    go : (t : Bool) → p a.0 a.1 ≡ t → (Some k ≡ first_of p more → (e : ℕ × Rest) × Has more e × (e.0 ≡ k) × (p e.0 e.1 ≡ true)) → (e : ℕ × Rest) × Has (a ∷ more) e × (e.0 ≡ k) × (p e.0 e.1 ≡ true)
    go true h later =
        let here : Some k ≡ Some a.0 = e ∙ chosen-true (p a.0 a.1) (Some a.0) (first_of p more) h in
        (a, inl refl, cc, h)
    go false h later =
        let m = later (e ∙ chosen-false (p a.0 a.1) (Some a.0) (first_of p more) h) in
        (m.0, inr m.1, m.2, m.3)

mapped : {A B C : Type 0} (f : A → B) (g : B → C) (o : Option A) → option_map g (option_map f o) ≡ option_map (λ a. g (f a)) o
mapped f g None = refl
mapped f g (Some a) = refl

has-mapped : (l : List (ℕ × Rest)) (e : ℕ × Rest) → Has l e → Has (map (λ (z : ℕ × Rest). z.1) l) e.1
has-mapped [] e h = absurd h
has-mapped (x ∷ l) e (inl q) = inl (ap (λ (z : ℕ × Rest). z.1) q)
has-mapped (x ∷ l) e (inr h) = inr (has-mapped l e h)

-- a batch at this state of the chart
abbrev pub some_batch : Tree → State → Rest → Batch
some_batch t x r = record {
  number = 0;
  recipe = record { name = []; formula = λ n. size_out_of_range; outputs = []; procedure = t };
  size = 0;
  values = [];
  state = x;
  rest = r;
  in_advance = [];
}

-- the move of an act that goes on, by its place, step and task
about-entered : (t : Tree) (b : Batch) (k : ℕ) (κ : Kind) (y : Stage) → machine_move t b (entered k κ y) ≡ seen_at t (place_at t k) (step_at t k) (task_at t k) b (entered k κ y)
about-entered t b k κ y = go (is_phase_kind κ) (is_begun y)
  where
    go : (u v : Bool) → machine_move t b (elim u as (λ _. Move) [ true ↦ move.Start k | false ↦ elim v as (λ _. Move) [ true ↦ move.End k | false ↦ move.Begin k ] ])
        ≡ seen_at t (place_at t k) (step_at t k) (task_at t k) b (elim u as (λ _. Move) [ true ↦ move.Start k | false ↦ elim v as (λ _. Move) [ true ↦ move.End k | false ↦ move.Begin k ] ])
    go x1 x2 = grind arith

about-handing : (t : Tree) (b : Batch) (to : Option ℕ) (k : ℕ) (κ : Kind) (y : Stage) → machine_move t b (handing to k κ y) ≡ seen_at t (place_at t k) (step_at t k) (task_at t k) b (handing to k κ y)
about-handing t b None k κ y = refl
about-handing t b (Some to) k κ y = refl

module _ (ns : List Entry) (doc : Recipe) (xs : List Stage) where
  -- the facts of an entry
  pub record IsKnown (t : Tree) (e : ℕ × Rest) : Type 0 where
    pub step : Step
    pub task : Task
    pub within : e.0 < length ns
    pub place : place_at t e.0 ≡ step.place
    pub here : (node_at t e.0).here ≡ act step task
    pub own_step : step_at t e.0 ≡ step
    pub own_task : task_at t e.0 ≡ task
    pub fits : Fits (kind_at ns e.0) step task
    pub is : e.1 ≡ act_as step task (meaning_below task (e.0 + 1) xs) (stage_at xs e.0)
    pub among : Has (acts (meaning t 0 xs)) e.1

  pub known : (t : Tree) → IsLaid ns doc t → (e : ℕ × Rest) → Has (numbered t 0 xs) e → IsKnown t e
  known t laid e h =
      let g = entry-at ns doc t laid xs e h in
      let lt : e.0 < length ns = omega (arith, g.to, laid.count) in
      let same : Some g.at ≡ Some (node_at t e.0) = sym g.is_at ∙ node-got ns doc t laid e.0 lt in
      let at : g.at ≡ node_at t e.0 = cc in
      record {
        step = g.step;
        task = g.task;
        within = lt;
        place = ap (λ (n : nodes.Node). n.place) (sym at) ∙ sym g.placed;
        here = ap (λ (n : nodes.Node). n.here) (sym at) ∙ g.here;
        own_step = ap (λ (n : nodes.Node). tree_step n.here) (sym at) ∙ ap tree_step g.here;
        own_task = ap (λ (n : nodes.Node). tree_task n.here) (sym at) ∙ ap tree_task g.here;
        fits = act-fits ns doc e.0 g.step g.task g.stands;
        is = g.is;
        among = subst (λ l. Has l e.1) (numbered-acts xs t 0) (has-mapped (numbered t 0 xs) e h);
      }

  pub known-advanced : (t : Tree) → IsAlive t xs → (e : ℕ × Rest) → IsKnown t e → IsAdvanced e.1
  known-advanced t alive e g = acts-advanced (meaning t 0 xs) e.1 alive.advanced g.among

  -- the batch is at this state of the chart
  abbrev IsOf : State → Tree → Batch → Type 0
  IsOf x t b = IsLaid ns doc t × IsAlive t xs × (b.state ≡ x) × (b.rest ≡ meaning t 0 xs)

  abbrev Tells : State → (ℕ → Rest → Bool) → ℕ → Type 0
  Tells x p n = (t : Tree) (b : Batch) → IsOf x t b → (k : ℕ) (a : Rest) → IsAdvanced a → p k a ≡ kind_in n (own_move b a)

  -- where the act is found, the move is its own in a batch of the recipe, and the stages allow it
  abbrev AllSuit : State → ℕ → (ℕ → Kind → Stage → Move) → Option ℕ → Type 0
  AllSuit x n f o = (t : Tree) (b : Batch) → IsOf x t b → (k : ℕ) (lt : k < length ns) (s : Step) (v : Task) (r : Rest) → step_at t k ≡ s → o ≡ Some k → Fits (kind_at ns k) s v
      → kind_in n (own_move b (act_as s v r (stage_at xs k))) ≡ true
      → (IsBatchOf doc t b → own_move b (act_as s v r (stage_at xs k)) ≡ Some (seen_at t s.place s v b (f k (kind_at ns k) (stage_at xs k)))) × Allows ns xs (f k (kind_at ns k) (stage_at xs k))

  next-of : (x : State) (p : ℕ → Rest → Bool) (n : ℕ) (f : ℕ → Kind → Stage → Move) (o : Option ℕ) (result : Option Move) → SomeLives ns doc xs
      → ((t : Tree) (b : Batch) (k : ℕ) (κ : Kind) (y : Stage) → machine_move t b (f k κ y) ≡ seen_at t (place_at t k) (step_at t k) (task_at t k) b (f k κ y))
      → Tells x p n → AllSuit x n f o → IsFoundFirst ns doc xs p o → result ≡ option_map (λ k. f k (kind_at ns k) (stage_at xs k)) o → IsNextOf ns doc xs x n result
  next-of x p n f o result lives about tells suits found is =
      subst (IsNextOf ns doc xs x n) (sym is) record {
        means = λ t b laid alive e r of. go t b (laid, alive, e, r) of;
        allowed = allow o (found.means lives.0 lives.1);
      }
    where
      made : ℕ → Move
      made k = f k (kind_at ns k) (stage_at xs k)

      fit : (t : Tree) (b : Batch) → IsOf x t b → (e : ℕ × Rest) (g : IsKnown t e) → p e.0 e.1 ≡ true → o ≡ Some e.0
          → (IsBatchOf doc t b → own_move b (act_as g.step g.task (meaning_below g.task (e.0 + 1) xs) (stage_at xs e.0)) ≡ Some (seen_at t g.step.place g.step g.task b (made e.0))) × Allows ns xs (made e.0)
      fit t b q e g z here =
          suits t b q e.0 g.within g.step g.task (meaning_below g.task (e.0 + 1) xs) g.own_step here g.fits (ap (λ a. kind_in n (own_move b a)) (sym g.is) ∙ sym (tells t b q e.0 e.1 (known-advanced t q.1 e g)) ∙ z)

      go : (t : Tree) (b : Batch) → IsOf x t b → IsBatchOf doc t b → option_map (machine_move t b) (option_map made o) ≡ find (is_kind n) (filter_map (own_move b) (acts b.rest))
      go t b q of =
          mapped made (machine_move t b) o
          ∙ ap (option_map (λ k. machine_move t b (made k))) (found.means t q.0)
          ∙ picked b n p (λ k. machine_move t b (made k)) (numbered t 0 xs)
          (λ e h. tells t b q e.0 e.1 (known-advanced t q.1 e (known t q.0 e h)))
          (λ e h z first. (let g = known t q.0 e h in
          ap (own_move b) g.is ∙ (fit t b q e g z (found.means t q.0 ∙ first)).0 of
          ∙ ap Some (sym (about t b e.0 (kind_at ns e.0) (stage_at xs e.0)
          ∙ ap (λ z. seen_at t z (step_at t e.0) (task_at t e.0) b (made e.0)) g.place
          ∙ ap (λ z. seen_at t g.step.place z (task_at t e.0) b (made e.0)) g.own_step
          ∙ ap (λ z. seen_at t g.step.place g.step z b (made e.0)) g.own_task))))
          ∙ ap (λ l. find (is_kind n) (filter_map (own_move b) l)) (numbered-acts xs t 0 ∙ ap acts (sym q.3))

      allow : (q : Option ℕ) → q ≡ first_of p (numbered lives.0 0 xs) → IfSome (option_map made q) (λ m. Allows ns xs m)
      allow None e = tt
      allow (Some k) e =
          let m = first-has p (numbered lives.0 0 xs) k e in
          let g = known lives.0 lives.1 m.0 m.1 in
          subst (λ z. Allows ns xs (made z)) m.2
          (fit lives.0 (some_batch lives.0 x (meaning lives.0 0 xs)) (lives.1, lives.2, refl, refl) m.0 g m.3 (found.means lives.0 lives.1 ∙ sym e ∙ ap Some (sym m.2))).1

  pub next-none : (x : State) (n : ℕ) → ((t : Tree) (b : Batch) → IsOf x t b → (a : Rest) → kind_in n (own_move b a) ≡ false) → IsNextOf ns doc xs x n None
  next-none x n h =
      record {
        means = λ t b laid alive e r of. sym (picked-none b n (acts b.rest) (h t b (laid, alive, e, r)));
        allowed = tt;
      }

  module _ (x : State) (o : Option ℕ) (result : Option Move) (lives : SomeLives ns doc xs) where
    pub next-sent : (c : Command) → Some c ≡ command_passed_on x → IsFoundFirst ns doc xs (of_states (λ y. accepts y c)) o → result ≡ option_map (λ k. move.Send k c) o → IsNextOf ns doc xs x 1 result
    next-sent c e =
        next-of x (of_states (λ y. accepts y c)) 1 (λ k κ y. move.Send k c) o result lives (λ t b k κ y. refl)
        (λ t b q k a d. tells-send b c k a (ap command_passed_on q.2 ∙ sym e))
        (λ t b q k lt s v r own here h z. (let m = suits-send t b ns xs k lt c s v r (kind_at ns k) (stage_at xs k) (refl, refl) h (ap command_passed_on q.2 ∙ sym e) z in (λ of. m.0, m.1)))

    pub next-released : (p : ℕ → Rest → Bool) → (is_stopping x || is_stopped x) ≡ true → Tells x p 3 → IsFoundFirst ns doc xs p o → result ≡ made_of releasing ns xs o → IsNextOf ns doc xs x 3 result
    next-released p halts tells =
        next-of x p 3 releasing o result lives (λ t b k κ y. refl) tells
        (λ t b q k lt s v r own here h z. (let m = suits-releasing t b ns xs k lt (ap (λ u. is_stopping u || is_stopped u) q.2 ∙ halts) s v r (kind_at ns k) (stage_at xs k) (refl, refl) h z in (λ of. m.0, m.1)))

    pub next-handed : (p : ℕ → Rest → Bool) → (is_stopping x || is_stopped x) ≡ false → Tells x p 3 → IsFoundFirst ns doc xs p o → IsHanded ns doc xs o result → IsNextOf ns doc xs x 3 result
    next-handed p goes_on tells found handed =
        next-of x p 3 (handing handed.to) o result lives (λ t b k κ y. about-handing t b handed.to k κ y) tells
        (λ t b q k lt s v r own here h z.
        suits-handing t b ns xs k lt doc handed.to handed.small (ap (λ u. is_stopping u || is_stopped u) q.2 ∙ goes_on) s v r (kind_at ns k) (stage_at xs k) (refl, refl) h z own (omega (arith, lt, q.0.count))
        (subst (λ z. IfSome z (λ n. PassesTo doc n (last_held (kind_at ns n) (stage_at xs n)) handed.to)) here handed.passes))
        found handed.is

    pub next-entered : (p : ℕ → Rest → Bool) → Tells x p 4 → IsFoundFirst ns doc xs p o → result ≡ made_of entered ns xs o → IsNextOf ns doc xs x 4 result
    next-entered p tells =
        next-of x p 4 entered o result lives about-entered tells (λ t b q k lt s v r own here h z. (let m = suits-entering t b ns xs k lt s v r (kind_at ns k) (stage_at xs k) (refl, refl) h z in (λ of. m.0, m.1)))

    pub next-asked : is_running x ≡ true → IsFoundFirst ns doc xs (showing LACKS) o → result ≡ option_map (λ k. move.Ask k (held_at (stage_at xs k))) o → IsNextOf ns doc xs x 5 result
    next-asked e =
        next-of x (showing LACKS) 5 (λ k κ y. move.Ask k (held_at y)) o result lives (λ t b k κ y. refl) (λ t b q k a d. tells-asking b (ap is_running q.2 ∙ e) k a)
        (λ t b q k lt s v r own here h z. (let m = suits-asking t b ns xs k lt s v r (kind_at ns k) (stage_at xs k) (refl, refl) h z in (λ of. m.0, m.1)))

pub found-among : (ns : List Entry) (doc : Recipe) (xs : List Stage) (p : ℕ → Rest → Bool) (o : Option ℕ) → SomeLives ns doc xs → IsFoundFirst ns doc xs p o → IsAmong ns xs o
found-among ns doc xs p None lives h = tt
found-among ns doc xs p (Some k) lives h =
    let m = first-has p (numbered lives.0 0 xs) k (h.means lives.0 lives.1) in
    let g = known ns doc xs lives.0 lives.1 m.0 m.1 in
    let lt : k < length ns = subst (λ z. z < length ns) m.2 g.within in
    (lt, omega (arith, lives.1.count, lives.1.small), omega (arith, lives.1.count, lives.2.fits))

-- The condition on which a state is reached

pub told-nothing : (o : Option ℕ) (b : Bool) → is_some o ≡ not b → b ≡ nothing o
told-nothing x1 x2 x3 = grind arith

-- a live phase in one of some states is found where there is one

live-step : (t : Bool) (n : ℕ) (o : Option ℕ) (u : Bool) → nothing o ≡ not u → nothing (elim t as (λ _. Option ℕ) [ true ↦ Some n | false ↦ o ]) ≡ not (t || u)
live-step true n o u e = refl
live-step false n o u e = e

pub live-nothing : (q : State → Bool) (l : List (ℕ × Rest)) → nothing (first_of (of_states q) l) ≡ not (list_any q (phase_states (map (λ (z : ℕ × Rest). z.1) l)))
live-nothing q [] = refl
live-nothing q ((k, live s p x) ∷ l) = live-step (q x) k (first_of (of_states q) l) (list_any q (phase_states (map (λ (z : ℕ × Rest). z.1) l))) (live-nothing q l)
live-nothing q (e ∷ l) = live-nothing q l

any-other : (y : State) (l : List State) → not (list_any (λ x. not (same_state x y)) l) ≡ list_all (λ x. same_state x y) l
any-other y [] = refl
any-other y (x ∷ l) = go (same_state x y) (list_any (λ x. not (same_state x y)) l) (list_all (λ x. same_state x y) l) (any-other y l)
  where
    go : (t u v : Bool) → not u ≡ v → not (not t || u) ≡ (t && v)
    go true u v e = e
    go false u v e = refl

all-live : (y : State) (l : List (ℕ × Rest)) → nothing (first_of (live_but y) l) ≡ list_all (λ x. same_state x y) (phase_states (map (λ (z : ℕ × Rest). z.1) l))
all-live y l = live-nothing (λ x. not (same_state x y)) l ∙ any-other y (phase_states (map (λ (z : ℕ × Rest). z.1) l))

any-state : (l : List State) → not (list_any (λ x. true) l) ≡ is_empty l
any-state [] = refl
any-state (x ∷ l) = refl

pub no-live : (l : List (ℕ × Rest)) → nothing (first_of any_live l) ≡ is_empty (phase_states (map (λ (z : ℕ × Rest). z.1) l))
no-live l = live-nothing (λ x. true) l ∙ any-state (phase_states (map (λ (z : ℕ × Rest). z.1) l))

-- the batch is to be in none of the states after a stop or an abort
unstopped-reached : (x : State) (r : Rest) → is_stopped x ≡ false
    → is_reached x r ≡ elim (same_state x state.Complete) as (λ _. Bool) [ true ↦ is_done r | false ↦ list_all (λ now. same_state now x) (phase_states (acts r)) ]
unstopped-reached x r e =
    chosen-false (is_stopped x) (is_quiet r && is_empty (held_in r)) (elim (same_state x state.Complete) as (λ _. Bool) [ true ↦ is_done r | false ↦ list_all (λ now. same_state now x) (phase_states (acts r)) ]) e

module _ (ns : List Entry) (doc : Recipe) (xs : List Stage) (x : State) (o : Option ℕ) (b : Bool) (e : is_some o ≡ not b) where
  pub reached-complete : same_state x state.Complete ≡ true → IsFoundFirst ns doc xs (showing IS_ACT) o → IsReachedState ns doc xs x b
  reached-complete f h =
      record {
        means = λ t laid alive. (let r = meaning t 0 xs in
            told-nothing o b e ∙ ap nothing (h.means t laid) ∙ nothing-any t 0 xs ∙ sym (empty-done r alive.advanced)
            ∙ sym (unstopped-reached x r (ap is_stopped (same-is x state.Complete f)) ∙ chosen-true (same_state x state.Complete) (is_done r) (list_all (λ now. same_state now x) (phase_states (acts r))) f));
      }

  pub reached-in : is_stopped x ≡ false → same_state x state.Complete ≡ false → IsFoundFirst ns doc xs (live_but x) o → IsReachedState ns doc xs x b
  reached-in unstopped f h =
      record {
        means = λ t laid alive. (let r = meaning t 0 xs in
            told-nothing o b e ∙ ap nothing (h.means t laid) ∙ all-live x (numbered t 0 xs)
            ∙ ap (λ l. list_all (λ now. same_state now x) (phase_states l)) (numbered-acts xs t 0)
            ∙ sym (unstopped-reached x r unstopped ∙ chosen-false (same_state x state.Complete) (is_done r) (list_all (λ now. same_state now x) (phase_states (acts r))) f));
      }

pub quiet-told : (ns : List Entry) (doc : Recipe) (xs : List Stage) (o : Option ℕ) (b : Bool) → b ≡ is_some o → IsFoundFirst ns doc xs any_live o → (t : Tree) → IsLaid ns doc t → not b ≡ is_quiet (meaning t 0 xs)
quiet-told ns doc xs o b e h t laid = go o e ∙ ap nothing (h.means t laid) ∙ no-live (numbered t 0 xs) ∙ ap (λ l. is_empty (phase_states l)) (numbered-acts xs t 0)
  where
    go : (o : Option ℕ) → b ≡ is_some o → not b ≡ nothing o
    go None e = ap not e
    go (Some k) e = ap not e

stopped-reached : (x : State) (r : Rest) → is_stopped x ≡ true → is_reached x r ≡ (is_quiet r && is_empty (held_in r))
stopped-reached x r e =
    chosen-true (is_stopped x) (is_quiet r && is_empty (held_in r)) (elim (same_state x state.Complete) as (λ _. Bool) [ true ↦ is_done r | false ↦ list_all (λ now. same_state now x) (phase_states (acts r)) ]) e

pub reached-live : (ns : List Entry) (doc : Recipe) (xs : List Stage) (x : State) (o : Option ℕ) → is_stopped x ≡ true → true ≡ is_some o → IsFoundFirst ns doc xs any_live o → IsReachedState ns doc xs x false
reached-live ns doc xs x o s e h =
    record {
      means = λ t laid alive.
          sym (stopped-reached x (meaning t 0 xs) s ∙ ap (λ z. z && is_empty (held_in (meaning t 0 xs))) (sym (quiet-told ns doc xs o true e h t laid)));
    }

pub reached-holds : (ns : List Entry) (doc : Recipe) (xs : List Stage) (x : State) (o q : Option ℕ) (b : Bool) → is_stopped x ≡ true → false ≡ is_some o → IsFoundFirst ns doc xs any_live o
    → is_some q ≡ not b → IsFoundFirst ns doc xs (showing HOLDS) q → IsReachedState ns doc xs x b
reached-holds ns doc xs x o q b s e h f k =
    record {
      means = λ t laid alive.
          told-nothing q b f ∙ ap nothing (k.means t laid) ∙ nothing-holds t 0 xs
          ∙ sym (stopped-reached x (meaning t 0 xs) s ∙ ap (λ z. z && is_empty (held_in (meaning t 0 xs))) (sym (quiet-told ns doc xs o false e h t laid)));
    }

-- The state's own move

abbrev moves_to : Batch → State → Option machine.Move
moves_to b becomes = machine.when (is_reached becomes b.rest) (machine.state b.number becomes)

pub state-none : (ns : List Entry) (doc : Recipe) (xs : List Stage) (x : State) → None ≡ ends_as x → IsNextState ns doc xs x None
state-none ns doc xs x e =
    record { means = λ t b laid alive f r. ap (option_and_then (moves_to b)) (e ∙ ap ends_as (sym f)); allowed = tt }

module _ (ns : List Entry) (doc : Recipe) (xs : List Stage) (x becomes : State) (e : Some becomes ≡ ends_as x) where
  moves : (t : Tree) (b : Batch) → b.state ≡ x → b.rest ≡ meaning t 0 xs → (reached : Bool) → reached ≡ is_reached becomes (meaning t 0 xs)
      → machine.when reached (machine.state b.number becomes) ≡ state_move b
  moves t b f r reached h =
      ap (λ z. machine.when z (machine.state b.number becomes)) (h ∙ ap (is_reached becomes) (sym r))
      ∙ ap (option_and_then (moves_to b)) (e ∙ ap ends_as (sym f))

  pub state-waits : IsReachedState ns doc xs becomes false → IsNextState ns doc xs x None
  state-waits h = record { means = λ t b laid alive f r. moves t b f r false (h.means t laid alive); allowed = tt }

  pub state-ends : IsReachedState ns doc xs becomes true → IsNextState ns doc xs x (Some (move.State becomes))
  state-ends h = record { means = λ t b laid alive f r. moves t b f r true (h.means t laid alive); allowed = tt }
