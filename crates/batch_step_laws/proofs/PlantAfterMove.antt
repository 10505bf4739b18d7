-- A plant that stands does so after each possible move.
use Rattle.std.proofs.Common.{arith, ◌≡◌, ◌⊎◌, refl, sym, ◌∙◌, ap, subst, List, [], ◌∷◌, Bool, true, false, cond, inl, inr}
use Rattle.std.specs.{Prelude.filter, Prelude.not, Prelude.◌||◌, Prelude.◌&&◌, Prelude.Some, Prelude.None, List.list_any}
use Rattle.batch_matrix.specs.declared.state.State.{State, TheVariants.Idle, TheVariants.Complete}
use Rattle.batch_recipe.specs.{Conditions.Name, Following.Follower, Levels.Level, Levels.is_procedure, Tree.Place}
use Rattle.batch_model.{specs.Lists.Has, specs.Lists.Each, specs.Rest.same_place, specs.Rest.Rest, specs.Rest.ready, specs.Rest.Moment, specs.Rest.acts, specs.Rest.advance, specs.Rest.changed_at, specs.Rest.place_of, specs.Plant.Setup, specs.Plant.InAdvance, specs.Plant.Batch, specs.Plant.Plant, specs.Plant.moment_of, specs.Plant.is_act_reached, specs.Plant.in_act, specs.Moves.Move, specs.Moves.pass, specs.Moves.batch_of, specs.Moves.place_of_move, specs.Moves.act_after, specs.Moves.act_move, specs.Moves.is_running, specs.Moves.is_stopping, specs.Moves.is_quiet, specs.Moves.entering, specs.Moves.giving_back, specs.Moves.passing, specs.Moves.batch_moves, specs.Moves.possible, specs.Moves.batch_after, specs.Moves.after_move, specs.Standing.due_followers, specs.Standing.is_resting, specs.Standing.IsUnbegun, specs.Standing.IsAwaited, specs.Standing.HasPlacedTrees, specs.Standing.IsStandingBatch, specs.Standing.IsStanding, specs.Placed.IsPlaced, specs.Placed.Rises, proofs.Members.Each-Has, proofs.Members.Has-flat_map, specs.Runs.goes_on}
use Rattle.batch_step_laws.proofs.{DueUnitProcedures.StandsAt, DueUnitProcedures.KeepsDue, DueUnitProcedures.advance-next, DueUnitProcedures.changed-due, DueUnitProcedures.follower-due, WorkAfterChange.same_test, AdvancedRests.advance-advanced, NodesOfRests.advance-IsRestOf, RestsAfterChange.RemainsAs, RestsAfterChange.KeepsActs, RestsAfterChange.changed_at-IsRestOf, ActMoves.IsMoveOf, ActMoves.act_move-is, StateMoves.IsStateMove, StateMoves.state_move-is, Batches.Each-only, Batches.AreNumbered-only, Batches.one_batch, WorkAfterMove.one_act, WorkAfterMove.same-rest, WorkAfterMove.same-state, WorkAfterMove.batch-rises, WorkAfterMove.Has-batch_moves, WorkAfterMove.batch_moves-number}

-- the follower, if due at an act, stays so once the act is changed
abbrev DueStaysFor : Follower → Rest → Rest → Type 0
DueStaysFor fo a after_move = (level : Level) (next : List Follower) → Has (due_followers level next a) fo → Has (due_followers level next after_move) fo

or-true : (b : Bool) → (b || true) ≡ true
or-true b = grind arith

-- an act that stands at the place is reached
stands-reached : (r : Rest) (p : Place) → StandsAt (acts r) p → is_act_reached r p ≡ true
stands-reached r p h = go (acts r) h.1
  where
    go : (xs : List Rest) → Has xs h.0 → list_any (λ act. same_place (place_of act) p) xs ≡ true
    go [] i = absurd i
    go (x ∷ xs) (inl e) = ap (λ b. b || list_any (λ act. same_place (place_of act) p) xs) (same_test (place_of x) p (ap place_of e ∙ h.2))
    go (x ∷ xs) (inr i) = rw (go xs i) (or-true (same_place (place_of x) p))

-- the unit procedure at the place is reached, or due
abbrev IsNextIn : Rest → Place → Type 0
IsNextIn r p = StandsAt (acts r) p ⊎ IsAwaited r p

-- a place that holds in advance and isn't reached still does so, and is due
still-awaited : (r : Rest) (xs : List InAdvance) → ((held : InAdvance) → Has xs held → IsNextIn r held.place)
    → Each (λ held. IsAwaited r held.place) (filter (λ held. not (is_act_reached r held.place)) xs)
still-awaited r [] h = tt
still-awaited r (held ∷ xs) h = go (is_act_reached r held.place) refl (still-awaited r xs (λ other i. h other (inr i)))
  where
    go : (t : Bool) → is_act_reached r held.place ≡ t → Each (λ held. IsAwaited r held.place) (filter (λ held. not (is_act_reached r held.place)) xs)
        → Each (λ held. IsAwaited r held.place) (cond (not t) (held ∷ filter (λ held. not (is_act_reached r held.place)) xs) (filter (λ held. not (is_act_reached r held.place)) xs))
    go true e more = more
    go false e more =
        (elim (h held (inl refl)) [ inl stands ↦ absurd (let told = stands-reached r held.place stands in cc) | inr due_followers ↦ due_followers ], more)

-- a batch still stands after a change that keeps its acts possible rests and its due followers due
pub in_act-stands : (c : Setup) (b : Batch) (p : Place) (f : Rest → Rest) → IsStandingBatch c b → KeepsActs p f (acts b.rest)
    → ((held : InAdvance) → Has b.in_advance held → (name : Name) → KeepsDue p f (name, held.place) (acts b.rest)) → is_resting b.state ≡ false → IsStandingBatch c (in_act p f b)
in_act-stands c b p f k keep keep_due busy =
    let mo : Moment = moment_of b in
    record {
      known = k.known;
      stands = advance-IsRestOf mo b.recipe.procedure (changed_at p f b.rest) (changed_at-IsRestOf p f b.recipe.procedure b.rest keep k.stands);
      advanced = advance-advanced mo (changed_at p f b.rest);
      awaited =
          still-awaited (advance mo (changed_at p f b.rest)) b.in_advance
          (λ held i.
          let at = Each-Has (λ held. IsAwaited b.rest held.place) b.in_advance held k.awaited i in
          elim (advance-next mo is_procedure [] (changed_at p f b.rest) (at.0, held.place) (changed-due p f (at.0, held.place) is_procedure [] b.rest (keep_due held i at.0) at.1))
          [ inl stands ↦ inl stands | inr due_followers ↦ inr (at.0, due_followers) ]);
      given_up = λ e. ap (filter (λ held. not (is_act_reached (advance mo (changed_at p f b.rest)) held.place))) (k.given_up e);
      unbegun = λ e. absurd cc;
    }

-- a batch that holds in advance also the unit that a move passes on
passing-stands : (c : Setup) (b : Batch) (a : Rest) (m : Move) → IsPlaced (0 ∷ []) b.recipe.procedure → IsStandingBatch c b → Has (acts b.rest) a → IsMoveOf b a m
    → IsStandingBatch c (passing m b)
passing-stands c b a (pass number place to need) placed k h t =
    let from = t.coming in
    record {
      known = k.known;
      stands = k.stands;
      advanced = k.advanced;
      awaited = (
        follower-due b.recipe.procedure b.rest from.0 from.1 from.2 to placed k.stands (subst (Has (acts b.rest)) from.3 h) from.4,
        k.awaited,
      );
      given_up = λ e. ap (λ z. z.in_advance) (t.passes e) ∙ k.given_up e;
      unbegun = k.unbegun;
    }
passing-stands c b a m placed k h t = k

move-stands : (c : Setup) (b : Batch) (a : Rest) (m : Move) → is_resting b.state ≡ false → IsPlaced (0 ∷ []) b.recipe.procedure → Rises (acts b.rest) → IsStandingBatch c b → Has (acts b.rest) a → IsMoveOf b a m
    → IsStandingBatch c (in_act (place_of_move m) (act_after (moment_of b) m) (passing m b))
move-stands c b a m busy placed rises k h t =
    let f : Rest → Rest = act_after (moment_of b) m in
    let this : (d : Rest) → Has (acts (passing m b).rest) d → place_of d ≡ place_of_move m → a ≡ d =
    λ d i p. one_act (acts b.rest) a d rises h (subst (λ r. Has (acts r) d) (same-rest m b) i) (sym t.place ∙ sym p) in
    in_act-stands c (passing m b) (place_of_move m) f (passing-stands c b a m placed k h t)
    (λ d i p. subst (λ z. RemainsAs z (f z)) (this d i p) t.remains)
    (λ held j name d i p. subst (λ z. DueStaysFor (name, held.place) z (f z)) (this d i p) (λ level next. t.due_stays (on held j) level next (name, held.place)))
    (ap is_resting (same-state m b) ∙ busy)
  where
    on : (held : InAdvance) → Has (passing m b).in_advance held → goes_on b.state ≡ true
    on held j = go (goes_on b.state) refl
      where
        go : (x : Bool) → goes_on b.state ≡ x → x ≡ true
        go true e = refl
        go false e = absurd (subst (λ xs. Has xs held) (ap (λ z. z.in_advance) (t.passes e) ∙ k.given_up e) j)

-- no act of a batch that rests has a move
resting-moves : (c : Setup) (s : Plant) (b : Batch) (a : Rest) (m : Move) → is_resting b.state ≡ true → IsUnbegun a → act_move c s b a ≡ Some m → ⊥
resting-moves c s b (ready p w k) m rests h e = go b.state (is_quiet b.rest) rests e
  where
    go : (x : State) (quiet : Bool) → is_resting x ≡ true
        → elim (is_running x) [ true ↦ entering b p w k | false ↦ elim (is_stopping x && quiet) [ true ↦ giving_back b p k | false ↦ None ] ] ≡ Some m → ⊥
    go Idle quiet rests e = cc
    go Complete quiet rests e = cc
    go x quiet rests e = grind arith
resting-moves c s b a m rests h e = grind arith

moves-busy : (c : Setup) (s : Plant) (b : Batch) (a : Rest) (m : Move) → IsStandingBatch c b → Has (acts b.rest) a → act_move c s b a ≡ Some m → is_resting b.state ≡ false
moves-busy c s b a m k h e = go (is_resting b.state) refl
  where
    go : (t : Bool) → is_resting b.state ≡ t → t ≡ false
    go false f = refl
    go true f = absurd (resting-moves c s b a m f (Each-Has IsUnbegun (acts b.rest) a (k.unbegun f) h) e)

batch_moves-stand : (c : Setup) (s : Plant) (b : Batch) (m : Move) → HasPlacedTrees c → IsStandingBatch c b → Has (batch_moves c s b) m
    → IsStandingBatch c (batch_after m b)
batch_moves-stand c s b m placed k h =
    elim (Has-batch_moves c s b m h) [
      | inl e ↦
          let t : IsStateMove b.number b.state b.rest m = state_move-is b m e in
          subst (λ z. IsStandingBatch c (batch_after z b)) (sym t.1)
          (record { known = k.known; stands = k.stands; advanced = k.advanced; awaited = k.awaited; given_up = λ e. k.given_up (t.3 e); unbegun = t.4 })
      | inr e ↦
          let t : IsMoveOf b e.0 m = act_move-is b c s e.0 m e.2 in
          subst (IsStandingBatch c) (sym t.changes) (move-stands c b e.0 m (moves-busy c s b e.0 m k e.1 e.2) (placed b.recipe k.known) (batch-rises c b placed k) k e.1 t)
    ]

-- a move leaves the number of its batch
after-number : (m : Move) (b : Batch) → (batch_after m b).number ≡ b.number
after-number m b = grind arith

pub possible-stands : (c : Setup) (s : Plant) (m : Move) → HasPlacedTrees c → IsStanding c s → Has (possible c s) m → IsStanding c (after_move s m)
possible-stands c s m placed k h =
    let d = Has-flat_map (batch_moves c s) s.batches m h in
    let number = batch_moves-number c s d.0 m d.2 in
    let stands = batch_moves-stand c s d.0 m placed (Each-Has (IsStandingBatch c) s.batches d.0 k.batches d.1) d.2 in
    record {
      batches =
          Each-only (IsStandingBatch c) (batch_of m) (batch_after m) s.batches
          (λ b i e old. subst (λ z. IsStandingBatch c (batch_after m z)) (one_batch s.next_number s.batches d.0 b k.numbers d.1 i (sym number ∙ sym e)) stands)
          k.batches;
      numbers = AreNumbered-only s.next_number (batch_of m) (batch_after m) s.batches (after-number m) k.numbers;
    }
