-- The first act that is found makes the first move of a kind.
use Rattle.std.proofs.Common.{◌≡◌, ◌⊎◌, inl, inr, ◌<◌, ℕ, suc, ◌+◌, ◌-◌, List, [], ◌∷◌, length, zero, Bool, true, false, ◌&&◌, Some, None, nat_eq, nat_lt, nat_le, cond, arith, refl, sym, ◌∙◌, subst, ap, ap₂}
use Rattle.std.{specs.Prelude.slice_index_or, specs.Prelude.Option, specs.Prelude.IfSome, specs.Prelude.not, specs.Prelude.◌||◌, specs.Prelude.map, specs.Prelude.find, specs.Prelude.option_map, specs.Prelude.option_and_then, specs.List.filter_map, specs.List.cons_option, specs.Int.Bits.bit_or, proofs.lemmas.Bool.Decides.nat_tests}
use Rattle.batch_matrix.specs.{declared.state.State.State, declared.command.Command.Command, Matrix.accepts}
use Rattle.batch_recipe.specs.{Conditions.Name, Tree.Place, Tree.Step, Tree.Phase, Tree.Task, Tree.runs, Tree.follows, Tree.Tree, declared.entry.Entry.Entry, Nodes.node_count, Procedure.bound_tree, declared.recipe.Recipe.Recipe}
use Rattle.batch_model.specs.{Lists.Has, Plant.Batch, Plant.held_in, Rest.Rest, Rest.ready, Rest.asking, Rest.open_act, Rest.live, Rest.freeing, Rest.acts, Rest.is_done, Settled.IsAdvanced, Moves.handed_values, Moves.command_passed_on, Moves.is_running, Moves.is_stopping, Moves.is_stopped, Moves.is_empty, Moves.is_quiet, Moves.when, Moves.entering, Moves.last_held, Moves.giving_back, Moves.reserved_place, Moves.handing_over}
use Rattle.batch_model.specs.Moves as machine
use Rattle.batch_chart.{specs.declared.node.Kind.Kind, specs.declared.node.Kind.TheVariants.Act, specs.declared.stage.Stage.Stage, specs.declared.stage.Stage.TheVariants.Ready, specs.declared.stage.Stage.TheVariants.Open, specs.declared.stage.Stage.TheVariants.Live, specs.declared.stage.Stage.TheVariants.Freeing, specs.declared.chart_move.Move.Move, specs.Stages.stage_at, specs.Meaning.act_as, specs.Outlined.kind_at, specs.Outlined.is_act_kind, specs.Nexts.first_of, specs.Noting.gives, specs.NodesOf.no_need, specs.NodesOf.no_phase, specs.NodesOf.phase_in, specs.NodesOf.name_in, specs.NodesOf.place_at, specs.NodesOf.step_at, specs.OwnMoves.own_move, specs.OwnMoves.is_kind, specs.Running.CanRelease, specs.Running.HasMore, specs.Running.Allows, specs.Nexts.held_at, specs.Nexts.last_held as last, specs.Nexts.entered, specs.Nexts.releasing, specs.Nexts.handing, specs.Passing.IsBatchOf, specs.Passing.PassesTo, proofs.KnownTests.chosen-true, proofs.KnownTests.chosen-false, specs.declared.sign.TheConstants.FITS, specs.declared.sign.TheConstants.FREES, specs.declared.sign.TheConstants.IS_OVER, specs.declared.sign.TheConstants.LACKS, proofs.ChartChange.Fits, proofs.ChartChange.fits-act, proofs.SignTests.showing, proofs.SignTests.of_states, proofs.SignTests.gives_back, proofs.SignTests.ready-shows, proofs.SignTests.asking-shows, proofs.SignTests.open-shows, proofs.SignTests.live-shows, proofs.SignTests.freeing-shows, proofs.SignTests.low-1, proofs.SignTests.low-8, proofs.SignTests.low-10, proofs.SignTests.open-lacks, proofs.SignTests.open-frees, proofs.SignTests.live-frees, proofs.SignTests.freeing-frees, proofs.MoveKinds.kind_in, proofs.MoveKinds.less, proofs.MoveKinds.and-true, proofs.MoveKinds.empty-done, proofs.MoveKinds.entering-ask, proofs.MoveKinds.entering-start, proofs.MoveKinds.entering-begin, proofs.MoveKinds.giving-some, proofs.MoveKinds.passing-some, proofs.MoveKinds.ready-kind, proofs.MoveKinds.open-kind, proofs.MoveKinds.live_kind, proofs.MoveKinds.live-kind, proofs.MoveKinds.freeing-kind}
use Rattle.batch_chart.specs.declared.node.Kind.TheVariants as kind
use Rattle.batch_chart.specs.declared.chart_move.Move.TheVariants as move

-- the first move of a kind

find-here : (n : ℕ) (f : Rest → Option machine.Move) (a : Rest) (as' : List Rest) → kind_in n (f a) ≡ true → find (is_kind n) (filter_map f (a ∷ as')) ≡ f a
find-here n f a as' e = go (f a) e
  where
    go : (o : Option machine.Move) → kind_in n o ≡ true → find (is_kind n) (cons_option o (filter_map f as')) ≡ o
    go None e = absurd (cc)
    go (Some m) e = ap (λ t. cond t (Some m) (find (is_kind n) (filter_map f as'))) e

find-later : (n : ℕ) (f : Rest → Option machine.Move) (a : Rest) (as' : List Rest) → kind_in n (f a) ≡ false → find (is_kind n) (filter_map f (a ∷ as')) ≡ find (is_kind n) (filter_map f as')
find-later n f a as' e = go (f a) e
  where
    go : (o : Option machine.Move) → kind_in n o ≡ false → find (is_kind n) (cons_option o (filter_map f as')) ≡ find (is_kind n) (filter_map f as')
    go None e = refl
    go (Some m) e = ap (λ t. cond t (Some m) (find (is_kind n) (filter_map f as'))) e

pub picked : (b : Batch) (n : ℕ) (p : ℕ → Rest → Bool) (g : ℕ → machine.Move) (l : List (ℕ × Rest))
    → ((e : ℕ × Rest) → Has l e → p e.0 e.1 ≡ kind_in n (own_move b e.1))
    → ((e : ℕ × Rest) → Has l e → p e.0 e.1 ≡ true → first_of p l ≡ Some e.0 → own_move b e.1 ≡ Some (g e.0))
    → option_map g (first_of p l) ≡ find (is_kind n) (filter_map (own_move b) (map (λ z. z.1) l))
picked b n p g [] t v = refl
picked b n p g (a ∷ l) t v =
    go (p a.0 a.1) refl (λ q. picked b n p g l (λ e h. t e (inr h)) (λ e h z f. v e (inr h) z (chosen-false (p a.0 a.1) (Some a.0) (first_of p l) q ∙ f)))
  where
    go : (q : Bool) → p a.0 a.1 ≡ q → (p a.0 a.1 ≡ false → option_map g (first_of p l) ≡ find (is_kind n) (filter_map (own_move b) (map (λ z. z.1) l)))
        → option_map g (first_of p (a ∷ l)) ≡ find (is_kind n) (filter_map (own_move b) (a.1 ∷ map (λ z. z.1) l))
    go true q later =
        ap (option_map g) (chosen-true (p a.0 a.1) (Some a.0) (first_of p l) q)
        ∙ sym (v a (inl refl) q (chosen-true (p a.0 a.1) (Some a.0) (first_of p l) q))
        ∙ sym (find-here n (own_move b) a.1 (map (λ z. z.1) l) (sym (t a (inl refl)) ∙ q))
    go false q later =
        ap (option_map g) (chosen-false (p a.0 a.1) (Some a.0) (first_of p l) q)
        ∙ later q
        ∙ sym (find-later n (own_move b) a.1 (map (λ z. z.1) l) (sym (t a (inl refl)) ∙ q))

pub picked-none : (b : Batch) (n : ℕ) (as' : List Rest) → ((a : Rest) → kind_in n (own_move b a) ≡ false) → find (is_kind n) (filter_map (own_move b) as') ≡ None
picked-none b n [] h = refl
picked-none b n (a ∷ as') h = find-later n (own_move b) a as' (h a) ∙ picked-none b n as' h

-- tests

free-open : (stop halted quiet over empty give : Bool) → (stop && quiet) ≡ false → elim (stop || halted) as (λ _. Bool) [ false ↦ over && false | true ↦ (stop && quiet && empty) && (give && true) ] ≡ false
free-open stop halted quiet over empty give e = grind arith

not-less : (k n : ℕ) → not (nat_lt k n) ≡ nat_le n k
not-less k n = grind (arith, nat_tests)

gives-all : (n : ℕ) → gives n n ≡ nat_lt 0 n
gives-all n = grind (arith, nat_tests)

pub running-others : (x : State) → is_running x ≡ true → (is_stopping x || is_stopped x) ≡ false
running-others x e = grind arith

pub stopped-halts : (x : State) → is_stopped x ≡ true → (is_stopping x || is_stopped x) ≡ true
stopped-halts x e = grind arith

pub stopping-others : (x : State) → is_stopping x ≡ true → is_running x ≡ false
stopping-others x e = grind arith

module _ (b : Batch) where
  -- Which acts make a move of a kind, in each state

  -- a live phase is sent a command
  pub tells-send : (c : Command) (k : ℕ) (a : Rest) → command_passed_on b.state ≡ Some c → of_states (λ x. accepts x c) k a ≡ kind_in 1 (own_move b a)
  tells-send c k (ready s w i) e = sym (ready-kind b 1 s w i ∙ grind arith)
  tells-send c k (open_act s r) e = sym (open-kind b 1 s r ∙ grind arith)
  tells-send c k (live s p x) e = sym (live-kind b 1 s p x ∙ ap (λ o. live_kind 1 o x) e ∙ and-true (accepts x c))
  tells-send c k (freeing s i) e = sym (freeing-kind b 1 s i ∙ grind arith)
  tells-send c k a e = refl

  live-keeps : (s : Step) (p : Phase) (x : State) → kind_in 3 (own_move b (live s p x)) ≡ false
  live-keeps s p x = live-kind b 3 s p x ∙ grind arith

  pub tells-releasing : is_running b.state ≡ false → is_stopping b.state ≡ true → is_quiet b.rest ≡ true → (k : ℕ) (a : Rest) → gives_back k a ≡ kind_in 3 (own_move b a)
  tells-releasing e1 e2 e3 k (ready s w i) = sym (ready-kind b 3 s w i ∙ grind (arith, e1, e2, e3))
  tells-releasing e1 e2 e3 k (open_act s r) = sym (open-kind b 3 s r ∙ grind (arith, e2, e3, gives-all (length s.needs)))
  tells-releasing e1 e2 e3 k (live s p x) = sym (live-keeps s p x)
  tells-releasing e1 e2 e3 k (freeing s i) = sym (freeing-kind b 3 s i ∙ and-true (gives (length s.needs) i))
  tells-releasing e1 e2 e3 k a = refl

  pub tells-freeing : (is_stopping b.state && is_quiet b.rest) ≡ false → (k : ℕ) (a : Rest) → showing FREES k a ≡ kind_in 3 (own_move b a)
  tells-freeing e k (ready s w i) = ready-shows 16 (length s.needs) i ∙ grind (arith, e) ∙ sym (ready-kind b 3 s w i)
  tells-freeing e k (asking s w i) = asking-shows 16 (length s.needs) i ∙ grind arith
  tells-freeing e k (open_act s r) = open-frees (length s.needs) (is_empty (acts r)) ∙ sym (open-kind b 3 s r ∙ free-open (is_stopping b.state) (is_stopped b.state) (is_quiet b.rest) (is_done r) (is_empty (held_in r)) (gives (length s.needs) (length s.needs)) e)
  tells-freeing e k (live s p x) = live-frees (length s.needs) x ∙ sym (live-keeps s p x)
  tells-freeing e k (freeing s i) = freeing-frees (length s.needs) i ∙ sym (freeing-kind b 3 s i ∙ and-true (gives (length s.needs) i))
  tells-freeing e k a = refl

  pub tells-entering : is_running b.state ≡ true → (k : ℕ) (a : Rest) → IsAdvanced a → showing (bit_or IS_OVER FITS) k a ≡ kind_in 4 (own_move b a)
  tells-entering e k (ready s w i) d = ready-shows 10 (length s.needs) i ∙ grind (arith, e, not-less i (length s.needs)) ∙ sym (ready-kind b 4 s w i)
  tells-entering e k (asking s w i) d = asking-shows 10 (length s.needs) i ∙ grind arith
  tells-entering e k (open_act s r) d = open-shows 10 (length s.needs) (is_empty (acts r)) ∙ grind (arith, running-others b.state e, empty-done r d) ∙ sym (open-kind b 4 s r)
  tells-entering e k (live s p x) d = live-shows 10 (length s.needs) x ∙ grind (arith, low-10 x) ∙ sym (live-kind b 4 s p x)
  tells-entering e k (freeing s i) d = freeing-shows 10 (length s.needs) i ∙ grind arith ∙ sym (freeing-kind b 4 s i)
  tells-entering e k a d = refl

  pub tells-ending : is_running b.state ≡ false → (is_stopping b.state || is_stopped b.state) ≡ false → (k : ℕ) (a : Rest) → IsAdvanced a → showing IS_OVER k a ≡ kind_in 4 (own_move b a)
  tells-ending e1 e2 k (ready s w i) d = ready-shows 8 (length s.needs) i ∙ grind (arith, e1) ∙ sym (ready-kind b 4 s w i)
  tells-ending e1 e2 k (asking s w i) d = asking-shows 8 (length s.needs) i ∙ grind arith
  tells-ending e1 e2 k (open_act s r) d = open-shows 8 (length s.needs) (is_empty (acts r)) ∙ grind (arith, e2, empty-done r d) ∙ sym (open-kind b 4 s r)
  tells-ending e1 e2 k (live s p x) d = live-shows 8 (length s.needs) x ∙ grind (arith, low-8 x) ∙ sym (live-kind b 4 s p x)
  tells-ending e1 e2 k (freeing s i) d = freeing-shows 8 (length s.needs) i ∙ grind arith ∙ sym (freeing-kind b 4 s i)
  tells-ending e1 e2 k a d = refl

  pub tells-asking : is_running b.state ≡ true → (k : ℕ) (a : Rest) → showing LACKS k a ≡ kind_in 5 (own_move b a)
  tells-asking e k (ready s w i) = ready-shows 1 (length s.needs) i ∙ grind (arith, e) ∙ sym (ready-kind b 5 s w i)
  tells-asking e k (asking s w i) = asking-shows 1 (length s.needs) i ∙ grind arith
  tells-asking e k (open_act s r) = open-lacks (length s.needs) (is_empty (acts r)) ∙ sym (open-kind b 5 s r ∙ grind arith)
  tells-asking e k (live s p x) = live-shows 1 (length s.needs) x ∙ grind (arith, low-1 x) ∙ sym (live-kind b 5 s p x)
  tells-asking e k (freeing s i) = freeing-shows 1 (length s.needs) i ∙ grind arith ∙ sym (freeing-kind b 5 s i)
  tells-asking e k a = refl

  pub sends-nothing : command_passed_on b.state ≡ None → (a : Rest) → kind_in 1 (own_move b a) ≡ false
  sends-nothing e (ready s w i) = ready-kind b 1 s w i ∙ grind arith
  sends-nothing e (open_act s r) = open-kind b 1 s r ∙ grind arith
  sends-nothing e (live s p x) = live-kind b 1 s p x ∙ ap (λ o. live_kind 1 o x) e
  sends-nothing e (freeing s i) = freeing-kind b 1 s i ∙ grind arith
  sends-nothing e a = refl

  pub enters-nothing : is_running b.state ≡ false → (is_stopping b.state || is_stopped b.state) ≡ true → (a : Rest) → kind_in 4 (own_move b a) ≡ false
  enters-nothing e1 e2 (ready s w i) = ready-kind b 4 s w i ∙ grind (arith, e1)
  enters-nothing e1 e2 (open_act s r) = open-kind b 4 s r ∙ grind (arith, e2)
  enters-nothing e1 e2 (live s p x) = live-kind b 4 s p x ∙ grind arith
  enters-nothing e1 e2 (freeing s i) = freeing-kind b 4 s i ∙ grind arith
  enters-nothing e1 e2 a = refl

  pub asks-nothing : is_running b.state ≡ false → (a : Rest) → kind_in 5 (own_move b a) ≡ false
  asks-nothing e (ready s w i) = ready-kind b 5 s w i ∙ grind (arith, e)
  asks-nothing e (open_act s r) = open-kind b 5 s r ∙ grind arith
  asks-nothing e (live s p x) = live-kind b 5 s p x ∙ grind arith
  asks-nothing e (freeing s i) = freeing-kind b 5 s i ∙ grind arith
  asks-nothing e a = refl

  pub no-state : (a : Rest) → kind_in 2 (own_move b a) ≡ false
  no-state (ready s w i) = ready-kind b 2 s w i ∙ grind arith
  no-state (open_act s r) = open-kind b 2 s r ∙ grind arith
  no-state (live s p x) = live-kind b 2 s p x ∙ grind arith
  no-state (freeing s i) = freeing-kind b 2 s i ∙ grind arith
  no-state a = refl

  pub no-grant : (a : Rest) → kind_in 6 (own_move b a) ≡ false
  no-grant (ready s w i) = ready-kind b 6 s w i ∙ grind arith
  no-grant (open_act s r) = open-kind b 6 s r ∙ grind arith
  no-grant (live s p x) = live-kind b 6 s p x ∙ grind arith
  no-grant (freeing s i) = freeing-kind b 6 s i ∙ grind arith
  no-grant a = refl

-- Which move it is

abbrev pub seen_at : Tree → Place → Step → Task → Batch → Move → machine.Move
seen_at whole q s w b (move.Send k c) = machine.send b.number q (phase_in w) c
seen_at whole q s w b (move.State x) = machine.state b.number x
seen_at whole q s w b (move.Release k i) = machine.release b.number q (slice_index_or s.needs i no_need)
seen_at whole q s w b (move.Pass k to i) = machine.pass b.number q (place_at whole to) (slice_index_or s.needs i no_need)
seen_at whole q s w b (move.Begin k) = machine.begin b.number q (name_in w)
seen_at whole q s w b (move.Start k) = machine.start b.number q (phase_in w) (handed_values b.values (phase_in w).handed)
seen_at whole q s w b (move.End k) = machine.end b.number q
seen_at whole q s w b (move.Ask k i) = machine.ask b.number q (slice_index_or s.needs i no_need)

own-live : (b : Batch) (c : Command) (s : Step) (p : Phase) (y : State) → command_passed_on b.state ≡ Some c → accepts y c ≡ true → own_move b (live s p y) ≡ Some (machine.send b.number s.place p c)
own-live b c s p y e a =
    ap (λ o. option_and_then (λ command. when (accepts y command) (machine.send b.number s.place p command)) o) e
    ∙ ap (λ t. when t (machine.send b.number s.place p c)) a

own-back : (b : Batch) (s : Step) (w : Task) (k : ℕ) → is_running b.state ≡ false → is_stopping b.state ≡ true → is_quiet b.rest ≡ true → own_move b (ready s w k) ≡ giving_back b s k
own-back b s w k e f g =
    chosen-false (is_running b.state) (entering b s w k) (elim (is_stopping b.state && is_quiet b.rest) as (λ _. Option machine.Move) [ true ↦ giving_back b s k | false ↦ None ]) e
    ∙ chosen-true (is_stopping b.state && is_quiet b.rest) (giving_back b s k) None (ap₂ (λ x y. x && y) f g)

own-entering : (b : Batch) (s : Step) (w : Task) (k : ℕ) → is_running b.state ≡ true → own_move b (ready s w k) ≡ entering b s w k
own-entering b s w k e =
    chosen-true (is_running b.state) (entering b s w k) (elim (is_stopping b.state && is_quiet b.rest) as (λ _. Option machine.Move) [ true ↦ giving_back b s k | false ↦ None ]) e

abbrev open_moves : Bool → Bool → Batch → Step → Rest → Option machine.Move
open_moves t u b s r = elim t as (λ _. Option machine.Move) [
  | false ↦ when (is_done r) (machine.end b.number s.place)
  | true ↦ elim u as (λ _. Option machine.Move) [ true ↦ giving_back b s (length s.needs) | false ↦ None ]
]

own-ending : (b : Batch) (s : Step) (r : Rest) → (is_stopping b.state || is_stopped b.state) ≡ false → is_done r ≡ true → own_move b (open_act s r) ≡ Some (machine.end b.number s.place)
own-ending b s r e d =
    ap (λ t. open_moves t (is_stopping b.state && is_quiet b.rest && is_empty (held_in r)) b s r) e ∙ ap (λ t. when t (machine.end b.number s.place)) d

own-closing : (b : Batch) (s : Step) (r : Rest) → is_stopping b.state ≡ true → is_quiet b.rest ≡ true → is_empty (held_in r) ≡ true → own_move b (open_act s r) ≡ giving_back b s (length s.needs)
own-closing b s r e f g =
    ap (λ t. open_moves t (is_stopping b.state && is_quiet b.rest && is_empty (held_in r)) b s r) (ap (λ x. x || is_stopped b.state) e)
    ∙ ap (λ u. open_moves true u b s r) (ap₂ (λ x y. x && y) (ap₂ (λ x y. x && y) e f) g)

gives-step : (n h : ℕ) → gives n h ≡ true → h ≡ (h - 1) + 1
gives-step n h e = grind (arith, nat_tests)

-- the batch's state, by an act's move of a kind

gave : (run lt stop quiet give : Bool) → elim run as (λ _. Bool) [ true ↦ elim lt as (λ _. Bool) [ true ↦ false | false ↦ false ] | false ↦ (stop && quiet) && (give && true) ] ≡ true
    → (run ≡ false) × (stop ≡ true) × (quiet ≡ true) × (give ≡ true)
gave run lt stop quiet give e = (grind arith, grind arith, grind arith, grind arith)

gave-open : (stop halted quiet over empty give : Bool) → elim (stop || halted) as (λ _. Bool) [ false ↦ over && false | true ↦ (stop && quiet && empty) && (give && true) ] ≡ true
    → (stop ≡ true) × (quiet ≡ true) × (empty ≡ true) × (give ≡ true)
gave-open stop halted quiet over empty give e = (grind arith, grind arith, grind arith, grind arith)

ended : (stop halted quiet over empty give : Bool) → elim (stop || halted) as (λ _. Bool) [ false ↦ over && true | true ↦ (stop && quiet && empty) && (give && false) ] ≡ true
    → ((stop || halted) ≡ false) × (over ≡ true)
ended stop halted quiet over empty give e = (grind arith, grind arith)

never : (stop halted quiet over empty give x y : Bool) → x ≡ false → y ≡ false → elim (stop || halted) as (λ _. Bool) [ false ↦ over && x | true ↦ (stop && quiet && empty) && (give && y) ] ≡ true → ⊥
never stop halted quiet over empty give x y e f q = grind arith

module _ (b : Batch) (s : Step) where
  ready-releases : (w : Task) (i : ℕ) → kind_in 3 (own_move b (ready s w i)) ≡ true → (is_running b.state ≡ false) × (is_stopping b.state ≡ true) × (is_quiet b.rest ≡ true) × (gives (length s.needs) i ≡ true)
  ready-releases w i q = gave (is_running b.state) (nat_lt i (length s.needs)) (is_stopping b.state) (is_quiet b.rest) (gives (length s.needs) i) (sym (ready-kind b 3 s w i) ∙ q)

  open-releases : (r : Rest) → kind_in 3 (own_move b (open_act s r)) ≡ true → (is_stopping b.state ≡ true) × (is_quiet b.rest ≡ true) × (is_empty (held_in r) ≡ true) × (gives (length s.needs) (length s.needs) ≡ true)
  open-releases r q = gave-open (is_stopping b.state) (is_stopped b.state) (is_quiet b.rest) (is_done r) (is_empty (held_in r)) (gives (length s.needs) (length s.needs)) (sym (open-kind b 3 s r) ∙ q)

  ready-enters : (w : Task) (i : ℕ) → kind_in 4 (own_move b (ready s w i)) ≡ true → (is_running b.state ≡ true) × (nat_lt i (length s.needs) ≡ false)
  ready-enters w i q = let e = sym (ready-kind b 4 s w i) ∙ q in (grind arith, grind arith)

  open-ends : (r : Rest) → kind_in 4 (own_move b (open_act s r)) ≡ true → ((is_stopping b.state || is_stopped b.state) ≡ false) × (is_done r ≡ true)
  open-ends r q = ended (is_stopping b.state) (is_stopped b.state) (is_quiet b.rest) (is_done r) (is_empty (held_in r)) (gives (length s.needs) (length s.needs)) (sym (open-kind b 4 s r) ∙ q)

  open-never : (n : ℕ) (r : Rest) → nat_eq 4 n ≡ false → nat_eq 3 n ≡ false → kind_in n (own_move b (open_act s r)) ≡ true → ⊥
  open-never n r e f q = never (is_stopping b.state) (is_stopped b.state) (is_quiet b.rest) (is_done r) (is_empty (held_in r)) (gives (length s.needs) (length s.needs)) (nat_eq 4 n) (nat_eq 3 n) e f (sym (open-kind b n s r) ∙ q)

  ready-asks : (w : Task) (i : ℕ) → kind_in 5 (own_move b (ready s w i)) ≡ true → (is_running b.state ≡ true) × (nat_lt i (length s.needs) ≡ true)
  ready-asks w i q = let e = sym (ready-kind b 5 s w i) ∙ q in (grind arith, grind arith)

-- an act of the kind, at its stage
module _ (whole : Tree) (b : Batch) (ns : List Entry) (xs : List Stage) (k : ℕ) (lt : k < length ns) where
  -- the move is the act's, and the stages allow it
  abbrev pub Suits : (ℕ → Kind → Stage → Move) → Step → Task → Rest → Kind → Stage → Type 0
  Suits f s w r κ x = (own_move b (act_as s w r x) ≡ Some (seen_at whole s.place s w b (f k κ x))) × Allows ns xs (f k κ x)

  abbrev pub At : Kind → Stage → Type 0
  At κ x = (kind_at ns k ≡ κ) × (stage_at xs k ≡ x)

  abbrev IsOfKind : ℕ → Step → Task → Rest → Stage → Type 0
  IsOfKind n s w r x = kind_in n (own_move b (act_as s w r x)) ≡ true

  pub suits-send : (c : Command) (s : Step) (w : Task) (r : Rest) (κ : Kind) (x : Stage) → At κ x → Fits κ s w → command_passed_on b.state ≡ Some c → IsOfKind 1 s w r x → Suits (λ n κ x. move.Send n c) s w r κ x
  suits-send c s (runs p) r (kind.Phase j i) (Live y) a h e q =
      (own-live b c s p y e (sym (and-true (accepts y c)) ∙ sym (live-kind b 1 s p y ∙ ap (λ o. live_kind 1 o y) e) ∙ q), (j, i, y, lt, a.0, a.1))
  suits-send c s w r κ (Ready i) a h e q = absurd (let f = sym (ready-kind b 1 s w i) ∙ q in grind arith)
  suits-send c s (follows name t) r κ Open a h e q = absurd (open-never b s 1 r refl refl q)
  suits-send c s w r κ (Freeing (suc i)) a h e q = absurd (let f = sym (freeing-kind b 1 s (suc i)) ∙ q in grind arith)
  suits-send x1 x2 x3 x4 x5 x6 x7 x8 x9 x10 = absurd (grind arith)

  can-still : (κ : Kind) (x : Stage) (h i : ℕ) → At κ x → is_act_kind κ ≡ true → (x ≡ Ready h) ⊎ (x ≡ Freeing h) → h ≡ i + 1 → Allows ns xs (move.Release k i)
  can-still κ x h i a ok (inl e) f = (lt, subst (λ z. CanRelease (kind_at ns k) z i) (sym (a.1 ∙ e)) (ap is_act_kind a.0 ∙ ok, f))
  can-still κ x h i a ok (inr e) f = (lt, subst (λ z. CanRelease (kind_at ns k) z i) (sym (a.1 ∙ e)) (ap is_act_kind a.0 ∙ ok, f))

  freed-gives : (s : Step) (i : ℕ) → kind_in 3 (own_move b (freeing s i)) ≡ true → gives (length s.needs) i ≡ true
  freed-gives s i q = sym (and-true (gives (length s.needs) i)) ∙ sym (freeing-kind b 3 s i) ∙ q

  pub suits-releasing : (is_stopping b.state || is_stopped b.state) ≡ true → (s : Step) (w : Task) (r : Rest) (κ : Kind) (x : Stage) → At κ x → Fits κ s w → IsOfKind 3 s w r x → Suits releasing s w r κ x
  suits-releasing halts s w r κ (Freeing (suc i)) a h q =
      let g = freed-gives s (suc i) q in
      (chosen-true (is_stopping b.state || is_stopped b.state) (giving_back b s (suc i)) (handing_over b s (suc i)) halts ∙ giving-some b s (suc i) g, can-still κ (Freeing (suc i)) (suc i) (suc i - 1) a (fits-act κ s w h) (inr refl) (gives-step (length s.needs) (suc i) g))
  suits-releasing halts s w r κ (Ready i) a h q =
      let g = ready-releases b s w i q in
      (own-back b s w i g.0 g.1 g.2 ∙ giving-some b s i g.3, can-still κ (Ready i) i (i - 1) a (fits-act κ s w h) (inl refl) (gives-step (length s.needs) i g.3))
  suits-releasing halts s (follows name t) r (Act j) Open a h q =
      let g = open-releases b s r q in
      let count : j ≡ (j - 1) + 1 = sym h ∙ gives-step (length s.needs) (length s.needs) g.3 ∙ ap (λ n. (n - 1) + 1) h in (
        own-closing b s r g.0 g.1 g.2 ∙ giving-some b s (length s.needs) g.3 ∙ ap (λ i. Some (machine.release b.number s.place (slice_index_or s.needs (i - 1) no_need))) h,
        (lt, subst (λ z. CanRelease (kind_at ns k) z (j - 1)) (sym a.1) (a.0 ∙ ap Act count)),
      )
  suits-releasing halts s (runs p) r κ (Live y) a h q = absurd (let f = sym (live-kind b 3 s p y) ∙ q in grind arith)
  suits-releasing x0 x1 x2 x3 x4 x5 x6 x7 x8 = absurd (grind arith)

  -- an act that has ended gives a need up to the node to which it passes that
  module _ (doc : Recipe) (to : Option ℕ) (small : IfSome to (λ z. z < length ns)) (goes_on : (is_stopping b.state || is_stopped b.state) ≡ false) where
    handed : (s : Step) (i : ℕ) (o : Option ℕ) → gives (length s.needs) i ≡ true → reserved_place b.recipe.procedure s (i - 1) ≡ option_map (place_at whole) o
        → handing_over b s i ≡ Some (seen_at whole s.place s (runs no_phase) b (handing o k (Act 0) (Freeing i)))
    handed s zero o g e = absurd (cc)
    handed s (suc i) o g e =
        ap (λ z. elim z as (λ _. Option machine.Move) [ None ↦ giving_back b s (suc i) | Some p ↦ option_map (machine.pass b.number s.place p) (last_held s (suc i)) ])
        (ap (reserved_place b.recipe.procedure s) (let d : i ≡ suc i - 1 = omega arith in d) ∙ e) ∙ go o
      where
        go : (o : Option ℕ) → elim (option_map (place_at whole) o) as (λ _. Option machine.Move) [ None ↦ giving_back b s (suc i) | Some p ↦ option_map (machine.pass b.number s.place p) (last_held s (suc i)) ]
            ≡ Some (seen_at whole s.place s (runs no_phase) b (handing o k (Act 0) (Freeing (suc i))))
        go None = giving-some b s (suc i) g
        go (Some z) = passing-some b (place_at whole z) s (suc i) g

    may-hand : (κ : Kind) (i : ℕ) (o : Option ℕ) → At κ (Freeing i) → is_act_kind κ ≡ true → i ≡ (i - 1) + 1 → IfSome o (λ z. z < length ns) → Allows ns xs (handing o k κ (Freeing i))
    may-hand κ i None a ok f l = can-still κ (Freeing i) i (i - 1) a ok (inr refl) f
    may-hand κ i (Some z) a ok f l = (lt, l, ap is_act_kind a.0 ∙ ok, a.1 ∙ ap Freeing f)

    same-handed : (o : Option ℕ) (s : Step) (w v : Task) (κ κ' : Kind) (i : ℕ) → seen_at whole s.place s w b (handing o k κ (Freeing i)) ≡ seen_at whole s.place s v b (handing o k κ' (Freeing i))
    same-handed None s w v κ κ' i = refl
    same-handed (Some z) s w v κ κ' i = refl

    pub suits-handing : (s : Step) (w : Task) (r : Rest) (κ : Kind) (x : Stage) → At κ x → Fits κ s w → IsOfKind 3 s w r x → step_at whole k ≡ s → k < node_count whole → PassesTo doc k (last κ x) to
        → (IsBatchOf doc whole b → own_move b (act_as s w r x) ≡ Some (seen_at whole s.place s w b (handing to k κ x))) × Allows ns xs (handing to k κ x)
    suits-handing s w r κ (Freeing (suc i)) a h q own within to_here =
        let g = freed-gives s (suc i) q in (
          λ of.
              (chosen-false (is_stopping b.state || is_stopped b.state) (giving_back b s (suc i)) (handing_over b s (suc i)) goes_on
              ∙ handed s (suc i) to g (placed of (suc i - 1) (to_here of.bound (subst (λ z. k < node_count z) of.tree within)) of)
              ∙ ap Some (same-handed to s (runs no_phase) w (Act 0) κ (suc i))),
          may-hand κ (suc i) to a (fits-act κ s w h) (gives-step (length s.needs) (suc i) g) small,
        )
      where
        placed : (of : IsBatchOf doc whole b) (j : ℕ) → option_map (place_at (bound_tree of.bound doc.acts)) to ≡ reserved_place (bound_tree of.bound doc.acts) (step_at (bound_tree of.bound doc.acts) k) j
            → IsBatchOf doc whole b → reserved_place b.recipe.procedure s j ≡ option_map (place_at whole) to
        placed of j e _ =
            ap (λ z. reserved_place z s j) of.follows ∙ ap (λ z. reserved_place whole z j) (sym own)
            ∙ sym (subst (λ z. option_map (place_at z) to ≡ reserved_place z (step_at z k) j) (sym of.tree) e)
    suits-handing s w r κ (Ready i) a h q own within to_here = absurd (let g = ready-releases b s w i q in let n : is_stopping b.state ≡ true = g.1 in grind (arith, goes_on))
    suits-handing s (follows name t) r κ Open a h q own within to_here = absurd (let g = open-releases b s r q in let n : is_stopping b.state ≡ true = g.0 in grind (arith, goes_on))
    suits-handing s (runs p) r κ (Live y) a h q own within to_here = absurd (let f = sym (live-kind b 3 s p y) ∙ q in grind arith)
    suits-handing x1 x2 x3 x4 x5 x6 x7 x8 x9 x10 x11 = absurd (grind arith)

  pub suits-asking : (s : Step) (w : Task) (r : Rest) (κ : Kind) (x : Stage) → At κ x → Fits κ s w → IsOfKind 5 s w r x → Suits (λ n κ x. move.Ask n (held_at x)) s w r κ x
  suits-asking s w r κ (Ready i) a h q =
      let g = ready-asks b s w i q in (
        own-entering b s w i g.0 ∙ entering-ask b s w i g.1,
        (lt, subst (λ z. HasMore z i) (sym a.0) (more κ w h (less i (length s.needs) g.1)), a.1),
      )
    where
      more : (κ : Kind) (w : Task) → Fits κ s w → i < length s.needs → HasMore κ i
      more (kind.Phase j d) (runs p) h l = omega (arith, h)
      more (Act j) (follows name t) h l = omega (arith, h)
      more x1 x2 x3 x4 = absurd (grind arith)
  suits-asking s (follows name t) r κ Open a h q = absurd (open-never b s 5 r refl refl q)
  suits-asking s (runs p) r κ (Live y) a h q = absurd (let f = sym (live-kind b 5 s p y) ∙ q in grind arith)
  suits-asking s w r κ (Freeing (suc i)) a h q = absurd (let f = sym (freeing-kind b 5 s (suc i)) ∙ q in grind arith)
  suits-asking s w r κ x a h q = absurd (cc)

  -- an open act with a finished chart ends
  ends : (s : Step) (name : Name) (t : Tree) (r : Rest) (κ : Kind) → At κ Open → Fits κ s (follows name t) → (is_stopping b.state || is_stopped b.state) ≡ false → is_done r ≡ true
      → Suits entered s (follows name t) r κ Open
  ends s name t r (Act j) a h e d = (own-ending b s r e d, (j, lt, a.0, a.1))
  ends x1 x2 x3 x4 x5 x6 x7 x8 x9 = absurd (grind arith)

  begins : (s : Step) (w : Task) (r : Rest) (i : ℕ) (κ : Kind) → At κ (Ready i) → Fits κ s w → is_running b.state ≡ true → nat_lt i (length s.needs) ≡ false → Suits entered s w r κ (Ready i)
  begins s (runs p) r i (kind.Phase j d) a h e q = (own-entering b s (runs p) i e ∙ entering-start b s p i q, (j, d, i, lt, a.0, a.1))
  begins s (follows name t) r i (Act j) a h e q = (own-entering b s (follows name t) i e ∙ entering-begin b s name t i q, (j, i, lt, a.0, a.1))
  begins x1 x2 x3 x4 x5 x6 x7 x8 x9 = absurd (grind arith)

  pub suits-entering : (s : Step) (w : Task) (r : Rest) (κ : Kind) (x : Stage) → At κ x → Fits κ s w → IsOfKind 4 s w r x → Suits entered s w r κ x
  suits-entering s w r κ (Ready i) a h q = let g = ready-enters b s w i q in begins s w r i κ a h g.0 g.1
  suits-entering s (follows name t) r κ Open a h q = let g = open-ends b s r q in ends s name t r κ a h g.0 g.1
  suits-entering s (runs p) r κ (Live y) a h q = absurd (let f = sym (live-kind b 4 s p y) ∙ q in grind arith)
  suits-entering s w r κ (Freeing (suc i)) a h q = absurd (let f = sym (freeing-kind b 4 s (suc i)) ∙ q in grind arith)
  suits-entering s w r κ x a h q = absurd (cc)
