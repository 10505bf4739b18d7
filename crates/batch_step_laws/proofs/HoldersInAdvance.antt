-- A batch that holds something in advance has a move.
use Rattle.std.proofs.Common.{◌≡◌, refl, sym, ◌∙◌, ap, subst, ℕ, zero, suc, ◌<◌, ◌≤◌, length, List, [], ◌∷◌, Bool, true, false, Some, None, arith, inl, inr}
use Rattle.std.{specs.Prelude.Option, specs.Prelude.flat_map, specs.Prelude.option_map, specs.Prelude.option_to_list, specs.Prelude.pred, specs.Prelude.◌&&◌, specs.Prelude.◌||◌, specs.Prelude.not, specs.List.filter_map, specs.List.cons_option, proofs.lemmas.Option.slice_get_cases}
use Rattle.batch_recipe.specs.{declared.need.Need.Need, Tree.Place, Tree.Step, Levels.is_procedure}
use Rattle.batch_model.{specs.Lists.Has, specs.Lists.Each, specs.Rest.Rest, specs.Rest.ready, specs.Rest.open_act, specs.Rest.freeing, specs.Rest.acts, specs.Rest.is_done, specs.Plant.Setup, specs.Plant.InAdvance, specs.Plant.Batch, specs.Plant.Plant, specs.Plant.held_in, specs.Moves.Move, specs.Moves.release, specs.Moves.pass, specs.Moves.end, specs.Moves.is_stopping, specs.Moves.is_stopped, specs.Moves.is_quiet, specs.Moves.is_empty, specs.Moves.when, specs.Moves.last_held, specs.Moves.giving_back, specs.Moves.reserved_place, specs.Moves.act_move, specs.Moves.state_move, specs.Moves.batch_moves, specs.Moves.possible, specs.Moves.next, specs.Runs.goes_on, specs.Standing.is_resting, specs.Standing.IsUnbegun, specs.Standing.IsAwaited, specs.Standing.HasPlacedTrees, specs.Standing.IsStandingBatch, specs.Standing.IsStanding, proofs.Members.Has-left, proofs.Members.Has-right, proofs.Members.Each-Has}
use Rattle.batch_step_laws.{specs.Laws.IsOnTheWay, proofs.DueUnitProcedures.IsLeaving, proofs.DueUnitProcedures.leaving_in, proofs.DueUnitProcedures.leaves, proofs.MoveOrder.none_least}

pub flat_map-Has : {X Y : Type 0} (f : X → List Y) (xs : List X) (x : X) (y : Y) → Has xs x → Has (f x) y → Has (flat_map f xs) y
flat_map-Has f [] x y i j = absurd i
flat_map-Has f (z ∷ xs) x y (inl e) j = Has-left (f z) (flat_map f xs) y (subst (λ w. Has (f w) y) (sym e) j)
flat_map-Has f (z ∷ xs) x y (inr i) j = Has-right (f z) (flat_map f xs) y (flat_map-Has f xs x y i j)

pub filter_map-Has : {X Y : Type 0} (h : X → Option Y) (xs : List X) (x : X) (y : Y) → Has xs x → h x ≡ Some y → Has (filter_map h xs) y
filter_map-Has h [] x y m e = absurd m
filter_map-Has {X = X} {Y = Y} h (z ∷ xs) x y (inl q) e = go (h z) (ap h q ∙ e)
  where
    go : (o : Option Y) → o ≡ Some y → Has (cons_option o (filter_map h xs)) y
    go None f = absurd cc
    go (Some w) f = inl cc
filter_map-Has {X = X} {Y = Y} h (z ∷ xs) x y (inr m) e = go (h z) (filter_map-Has h xs x y m e)
  where
    go : (o : Option Y) → Has (filter_map h xs) y → Has (cons_option o (filter_map h xs)) y
    go None k = k
    go (Some w) k = inr k

-- the last of the needs that an act holds
last-held : (s : Step) (k : ℕ) → 0 < k → k ≤ length s.needs → (need : Need) × (last_held s k ≡ Some need)
last-held s zero some within = absurd (omega (arith, some))
last-held s (suc k) some within = elim (slice_get_cases s.needs k).1 [ inl found ↦ (found.0, found.2) | inr past ↦ absurd (omega (arith, within, past.0)) ]

module _ (c : Setup) (s : Plant) (b : Batch) (on : goes_on b.state ≡ true) where
  -- the act has a move of these kinds
  abbrev HasMove : Rest → Type 0
  HasMove a = (m : Move) × (act_move c s b a ≡ Some m) × IsOnTheWay m

  still_on : (is_stopping b.state || is_stopped b.state) ≡ false
  still_on = go (is_stopping b.state || is_stopped b.state) on
    where
      go : (t : Bool) → not t ≡ true → t ≡ false
      go true e = absurd cc
      go false e = refl

  freeing-moves : (t : Step) (k : ℕ) → 0 < k → k ≤ length t.needs → HasMove (freeing t k)
  freeing-moves t k some within =
      pick (is_stopping b.state || is_stopped b.state) still_on (reserved_place b.recipe.procedure t (pred k)) (last_held t k) (last-held t k some within)
    where
      pick : (u : Bool) → u ≡ false → (o : Option Place) (q : Option Need) → (need : Need) × (q ≡ Some need)
          → (m : Move)
          × (elim u [
            | true ↦ option_map (release b.number t.place) q
            | false ↦ elim o [ None ↦ option_map (release b.number t.place) q | Some to ↦ option_map (pass b.number t.place to) q ]
          ] ≡ Some m)
          × IsOnTheWay m
      pick true e o q h = absurd cc
      pick false e o None h = absurd (let none : None ≡ Some h.0 = h.1 in cc)
      pick false e None (Some need) h = (release b.number t.place need, refl, (omega arith, omega arith))
      pick false e (Some to) (Some need) h = (pass b.number t.place to need, refl, (omega arith, omega arith))

  open-moves : (t : Step) (r : Rest) → is_done r ≡ true → HasMove (open_act t r)
  open-moves t r e = pick (is_stopping b.state || is_stopped b.state) still_on (is_done r) e (is_stopping b.state && is_quiet b.rest && is_empty (held_in r))
    where
      pick : (u : Bool) → u ≡ false → (v : Bool) → v ≡ true → (w : Bool)
          → (m : Move)
          × (elim u [
            | false ↦ when v (end b.number t.place)
            | true ↦ elim w [ true ↦ giving_back b t (length t.needs) | false ↦ None ]
          ] ≡ Some m)
          × IsOnTheWay m
      pick true e v f w = absurd cc
      pick false e false f w = absurd cc
      pick false e true f w = (end b.number t.place, refl, (omega arith, omega arith))

-- a batch that holds something in advance isn't on its way to Stopped or Aborted, nor there
pub holding-goes_on : (c : Setup) (b : Batch) (held : InAdvance) → IsStandingBatch c b → Has b.in_advance held → goes_on b.state ≡ true
holding-goes_on c b held k i = go (goes_on b.state) refl
  where
    go : (t : Bool) → goes_on b.state ≡ t → t ≡ true
    go true e = refl
    go false e = absurd (subst (λ xs. Has xs held) (k.given_up e) i)

-- and has a move that gives back, passes on or ends
pub holding-moves : (c : Setup) (s : Plant) (b : Batch) (held : InAdvance) → HasPlacedTrees c → IsStandingBatch c b → Has b.in_advance held
    → (m : Move) × Has (batch_moves c s b) m × IsOnTheWay m
holding-moves c s b held placed k i =
    let on = holding-goes_on c b held k i in
    let found = leaving_in b.rest held.place k.advanced (Each-Has (λ h. IsAwaited b.rest h.place) b.in_advance held k.awaited i) in
    let moves = has-move on found.0 found.1 found.2 in
    (moves.0, Has-right (option_to_list (state_move b)) _ moves.0 (filter_map-Has (act_move c s b) (acts b.rest) found.0 moves.0 found.1 moves.1), moves.2)
  where
    has-move : goes_on b.state ≡ true → (a : Rest) → Has (acts b.rest) a → IsLeaving a → (m : Move) × (act_move c s b a ≡ Some m) × IsOnTheWay m
    has-move on (freeing t n) j h =
        let l = leaves t n is_procedure [] (0 ∷ []) b.recipe.procedure b.rest (placed b.recipe k.known) k.stands j in
        freeing-moves c s b on t n l.some l.within
    has-move on (open_act t r) j h = open-moves c s b on t r h
    has-move on a j h = absurd (grind arith)

-- an act among these has begun
abbrev pub HasBegun : List Rest → Type 0
HasBegun reached = (a : Rest) × Has reached a × (IsUnbegun a → ⊥)

-- a batch with an act that has begun isn't idle, nor complete
pub begun-busy : (c : Setup) (b : Batch) → IsStandingBatch c b → HasBegun (acts b.rest) → is_resting b.state ≡ false
begun-busy c b k h = go (is_resting b.state) refl
  where
    go : (t : Bool) → is_resting b.state ≡ t → t ≡ false
    go false e = refl
    go true e = absurd (h.2 (Each-Has IsUnbegun (acts b.rest) h.0 (k.unbegun e) h.1))

leaving-begun : (a : Rest) → IsLeaving a → IsUnbegun a → ⊥
leaving-begun (ready s w n) h u = h
leaving-begun a h u = u

-- nor is one that holds something in advance
pub holding-busy : (c : Setup) (b : Batch) (held : InAdvance) → IsStandingBatch c b → Has b.in_advance held → is_resting b.state ≡ false
holding-busy c b held k i =
    let found = leaving_in b.rest held.place k.advanced (Each-Has (λ h. IsAwaited b.rest h.place) b.in_advance held k.awaited i) in
    begun-busy c b k (found.0, found.1, leaving-begun found.0 found.2)

-- so in a plant without a next move nothing is held in advance
pub settled-none : (c : Setup) → HasPlacedTrees c → (s : Plant) → IsStanding c s → next c s ≡ None → (b : Batch) → Has s.batches b → b.in_advance ≡ []
settled-none c placed s k e b i = go b.in_advance refl
  where
    go : (xs : List InAdvance) → b.in_advance ≡ xs → xs ≡ []
    go [] h = refl
    go (held ∷ xs) h =
        let m = holding-moves c s b held placed (Each-Has (IsStandingBatch c) s.batches b k.batches i) (subst (λ ys. Has ys held) (sym h) (inl refl)) in
        absurd (subst (λ ms. Has ms m.0) (none_least (possible c s) e) (flat_map-Has (batch_moves c s) s.batches b m.0 i m.1))

pub each-none : (bs : List Batch) → ((b : Batch) → Has bs b → b.in_advance ≡ []) → Each (λ b. b.in_advance ≡ []) bs
each-none [] h = tt
each-none (b ∷ bs) h = (h b (inl refl), each-none bs (λ d i. h d (inr i)))
