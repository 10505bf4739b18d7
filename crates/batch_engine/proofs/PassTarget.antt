-- The act that a pass goes to isn't reached, and holds nothing in advance.
use Rattle.std.proofs.Common.{arith, ◌≡◌, refl, sym, ◌∙◌, ap, ap₂, subst, ℕ, zero, suc, List, [], ◌∷◌, ◌++◌, length, map, take, Bool, true, false, Option, Some, None, inl, inr, ⊎_elim, append-nil, find, nat_eq}
use Rattle.std.specs.{Prelude.⊤, Prelude.◌&&◌, Prelude.◌||◌, Prelude.slice_get, Prelude.option_and_then, List.list_any}
use Rattle.batch_matrix.specs.{declared.command.Command.Command, declared.state.State.State, Matrix.accepts}
use Rattle.batch_recipe.specs.{Conditions.Name, Conditions.same_name, declared.need.Need.Need, Following.follower, Tree.Place, Tree.Reserve, Tree.Step, Tree.Task, Tree.runs, Tree.follows}
use Rattle.batch_model.{specs.ActStates.steps, specs.Cleared.Ranking, specs.Lists.Has, specs.Lists.Each, specs.Moves.Move, specs.Moves.send, specs.Moves.state, specs.Moves.release, specs.Moves.pass, specs.Moves.end, specs.Moves.ask, specs.Moves.grant, specs.Moves.is_running, specs.Moves.is_stopping, specs.Moves.is_stopped, specs.Moves.is_quiet, specs.Moves.is_empty, specs.Moves.is_served, specs.Moves.command_passed_on, specs.Moves.beginning, specs.Moves.entering, specs.Moves.giving_back, specs.Moves.reserved_place, specs.Moves.handing_over, specs.Moves.when, specs.Moves.act_move, specs.Moves.batch_moves, specs.Moves.released, specs.Plant.Setup, specs.Plant.BatchAct, specs.Plant.InAdvance, specs.Plant.Batch, specs.Plant.Share, specs.Plant.Plant, specs.Plant.held_in, specs.Plant.is_act_reached, specs.Plant.units_in, specs.Plant.without, specs.Records.holders_after, specs.Records.holders_told, specs.Rest.Rest, specs.Rest.Rests, specs.Rest.ready, specs.Rest.asking, specs.Rest.open_act, specs.Rest.live, specs.Rest.freeing, specs.Rest.in_seq, specs.Rest.in_par, specs.Rest.in_loop, specs.Rest.done, specs.Rest.no_rests, specs.Rest.rest, specs.Rest.is_done, specs.Rest.acts, specs.Rest.acts_of_each, specs.Rest.changed_at, specs.Rest.place_of, specs.Rest.same_place, specs.Runs.Out, specs.Runs.move, specs.Standing.IsAwaited, specs.Standing.IsStanding, specs.Standing.IsStandingBatch, proofs.Members.Each-Has, proofs.Members.Has-left, proofs.Members.Has-right, proofs.Members.Has-split}
use Rattle.batch_step_laws.proofs.{WorkAfterChange.to_same_place, WorkAfterMove.Has-batch_moves, WorkAfterMove.batch_moves-number, DueUnitProcedures.follower-due}
use Rattle.batch_record_laws.proofs.{ActChanges.IsChange, ActChanges.Becomes, ActChanges.also, ActChanges.nothing, DuePlaces.awaited-nowhere, Batches.of-entry, Entries.holders-Has, Entries.name_same, Entries.nat_same, Entries.sums-without_once, Entries.units-append, Entries.units-one, PlantFacts.Standing, PlantFacts.entries, PlantFacts.facts, PlantFacts.facts_of_each, PlantFacts.held_at, PlantFacts.holding, Invariant.IsFirstNeed, Invariant.IsKept, Invariant.IsSound, Invariant.standing-of, InvariantAfterChange.not-held-yet, ActMoves.freed-facts, ActMoves.no_move, ActMoves.some_move, ActMoves.held-next, BatchProgress.act-step_in, HoldingsInAdvance.Nowhere, HoldingsInAdvance.places, HoldingsInAdvance.reached-at, UnitProcedures.find-passes}

-- The act that passes something on

abbrev IsPassedBy : Batch → Rest → Move → Type 0
IsPassedBy b a (pass n p to r) = (s : Step) × (l : ℕ) × (a ≡ freeing s (suc l)) × (slice_get s.needs l ≡ Some r) × (reserved_place b.recipe.procedure s l ≡ Some to) × (p ≡ s.place)
IsPassedBy b a _ = ⊤

-- shares where one leaves or joins, or neither
abbrev pub laid_down : BatchAct → Bool → List Share → List Share
laid_down a t hs = elim t [ true ↦ without a hs | false ↦ hs ]

abbrev pub taken_up : Share → Bool → List Share → List Share
taken_up new t hs = elim t [ true ↦ hs ++ new ∷ [] | false ↦ hs ]

module _ (b : Batch) where
  begins : (s : Step) (w : Task) (a : Rest) (m : Move) → beginning b s w ≡ m → IsPassedBy b a m
  begins s (runs y) a m e = subst (IsPassedBy b a) e tt
  begins s (follows name c) a m e = subst (IsPassedBy b a) e tt

  enters : (s : Step) (w : Task) (k : ℕ) (a : Rest) (m : Move) → entering b s w k ≡ Some m → IsPassedBy b a m
  enters s w k a m e = go (slice_get s.needs k) e
    where
      go : (o : Option Need) → ◌≡◌ {A = Option Move} (elim o [ Some r ↦ Some (ask b.number s.place r) | None ↦ Some (beginning b s w) ]) (Some m) → IsPassedBy b a m
      go (Some r) h = subst (IsPassedBy b a) (some_move (ask b.number s.place r) m h) tt
      go None h = begins s w a m (some_move (beginning b s w) m h)

  gives : (s : Step) (k : ℕ) (a : Rest) (m : Move) → giving_back b s k ≡ Some m → IsPassedBy b a m
  gives s zero a m e = absurd (no_move m e)
  gives s (suc k) a m e = go (slice_get s.needs k) e
    where
      go : (o : Option Need) → ◌≡◌ {A = Option Move} (elim o [ None ↦ None | Some r ↦ Some (release b.number s.place r) ]) (Some m) → IsPassedBy b a m
      go None h = absurd (no_move m h)
      go (Some r) h = subst (IsPassedBy b a) (some_move (release b.number s.place r) m h) tt

  hands : (s : Step) (k : ℕ) (m : Move) → handing_over b s k ≡ Some m → IsPassedBy b (freeing s k) m
  hands s zero m e = none (reserved_place b.recipe.procedure s 0) e
    where
      none : (o : Option Place) → ◌≡◌ {A = Option Move} (elim o [ None ↦ None | Some to ↦ None ]) (Some m) → IsPassedBy b (freeing s zero) m
      none None h = absurd (no_move m h)
      none (Some to) h = absurd (no_move m h)
  hands s (suc k) m e = go (reserved_place b.recipe.procedure s k) refl (slice_get s.needs k) refl e
    where
      go : (o : Option Place) → reserved_place b.recipe.procedure s k ≡ o → (q : Option Need) → slice_get s.needs k ≡ q
          → ◌≡◌ {A = Option Move}
          (elim o [
            | None ↦ elim q [ None ↦ None | Some r ↦ Some (release b.number s.place r) ]
            | Some to ↦ elim q [ None ↦ None | Some r ↦ Some (pass b.number s.place to r) ]
          ])
          (Some m)
          → IsPassedBy b (freeing s (suc k)) m
      go None is None at h = absurd (no_move m h)
      go (Some to) is None at h = absurd (no_move m h)
      go None is (Some r) at h = subst (IsPassedBy b (freeing s (suc k))) (some_move (release b.number s.place r) m h) tt
      go (Some to) is (Some r) at h = subst (IsPassedBy b (freeing s (suc k))) (some_move (pass b.number s.place to r) m h) (s, k, refl, at, is, refl)

  made-when : (t : Bool) (made m : Move) (a : Rest) → IsPassedBy b a made → when t made ≡ Some m → IsPassedBy b a m
  made-when true made m a h e = subst (IsPassedBy b a) (some_move made m e) h
  made-when false made m a h e = absurd (no_move m e)

  passed-by : (c : Setup) (s : Plant) (a : Rest) (m : Move) → act_move c s b a ≡ Some m → IsPassedBy b a m
  passed-by c s (ready p w k) m e = go (is_running b.state) (is_stopping b.state && is_quiet b.rest) e
    where
      go : (t u : Bool) → ◌≡◌ {A = Option Move} (elim t [ true ↦ entering b p w k | false ↦ elim u [ true ↦ giving_back b p k | false ↦ None ] ]) (Some m) → IsPassedBy b (ready p w k) m
      go true true g = enters p w k (ready p w k) m g
      go true false g = enters p w k (ready p w k) m g
      go false true g = gives p k (ready p w k) m g
      go false false g = absurd (no_move m g)
  passed-by c s (asking p w k) m e = go (slice_get p.needs k) e
    where
      go : (o : Option Need) → ◌≡◌ {A = Option Move} (elim o [ None ↦ None | Some r ↦ when (is_served c s r (b.number, p.place)) (grant b.number p.place r) ]) (Some m) → IsPassedBy b (asking p w k) m
      go None h = absurd (no_move m h)
      go (Some r) h = made-when (is_served c s r (b.number, p.place)) (grant b.number p.place r) m (asking p w k) tt h
  passed-by c s (open_act p r) m e = go (is_stopping b.state || is_stopped b.state) (is_stopping b.state && is_quiet b.rest && is_empty (held_in r)) e
    where
      go : (t u : Bool)
          → ◌≡◌ {A = Option Move}
          (elim t [ false ↦ when (is_done r) (end b.number p.place) | true ↦ elim u [ true ↦ giving_back b p (length p.needs) | false ↦ None ] ])
          (Some m)
          → IsPassedBy b (open_act p r) m
      go true true f = gives p (length p.needs) (open_act p r) m f
      go true false f = absurd (no_move m f)
      go false true f = made-when (is_done r) (end b.number p.place) m (open_act p r) tt f
      go false false f = made-when (is_done r) (end b.number p.place) m (open_act p r) tt f
  passed-by c s (live p y t) m e = go (command_passed_on b.state) e
    where
      go : (o : Option Command) → ◌≡◌ {A = Option Move} (elim o [ None ↦ None | Some x ↦ when (accepts t x) (send b.number p.place y x) ]) (Some m) → IsPassedBy b (live p y t) m
      go None f = absurd (no_move m f)
      go (Some x) f = made-when (accepts t x) (send b.number p.place y x) m (live p y t) tt f
  passed-by c s (freeing p k) m e = go (is_stopping b.state || is_stopped b.state) e
    where
      go : (t : Bool) → ◌≡◌ {A = Option Move} (elim t [ true ↦ giving_back b p k | false ↦ handing_over b p k ]) (Some m) → IsPassedBy b (freeing p k) m
      go true f = gives p k (freeing p k) m f
      go false f = hands p k m f
  passed-by c s a m e = absurd (grind arith)

  state-no_pass : (m : Move) (n : ℕ) (p to : Place) (r : Need) → Rattle.batch_model.specs.Moves.state_move b ≡ Some m → m ≡ pass n p to r → ⊥
  state-no_pass m n p to r e f = go (Rattle.batch_matrix.specs.Matrix.ends_as b.state) e
    where
      one : (x : State) (t : Bool) → when t (state b.number x) ≡ Some m → ⊥
      one x true g = (let bad : state b.number x ≡ pass n p to r = some_move (state b.number x) m g ∙ f in cc)
      one x false g = no_move m g

      go : (o : Option State) → ◌≡◌ {A = Option Move} (elim o [ None ↦ None | Some x ↦ when (Rattle.batch_model.specs.Moves.is_reached x b.rest) (state b.number x) ]) (Some m) → ⊥
      go None g = no_move m g
      go (Some x) g = one x (Rattle.batch_model.specs.Moves.is_reached x b.rest) g

  -- the freeing act that makes a pass
  pass-act : (c : Setup) (s : Plant) (n : ℕ) (p to : Place) (r : Need) → Has (batch_moves c s b) (pass n p to r) → (a : Rest) × Has (acts b.rest) a × IsPassedBy b a (pass n p to r)
  pass-act c s n p to r h = elim (Has-batch_moves c s b (pass n p to r) h) [
    | inl e ↦ absurd (state-no_pass (pass n p to r) n p to r e refl)
    | inr m ↦ (m.0, m.1, passed-by c s m.0 (pass n p to r) m.2)
  ]

-- Lists

same_need : (x y : Need) → ◌≡◌ {A = Option Need} (Some x) (Some y) → x ≡ y
same_need x y e = cc

-- a fact of an act is one of the rest
mutual
  act-fact : (r a : Rest) (e : Standing) → Has (acts r) a → Has (facts a) e → Has (facts r) e
  act-fact (ready s w k) a e (inl q) m = subst (λ z. Has (facts z) e) (sym q) m
  act-fact (ready s w k) a e (inr j) m = absurd j
  act-fact (asking s w k) a e (inl q) m = subst (λ z. Has (facts z) e) (sym q) m
  act-fact (asking s w k) a e (inr j) m = absurd j
  act-fact (open_act s r) a e (inl q) m = subst (λ z. Has (facts z) e) (sym q) m
  act-fact (open_act s r) a e (inr j) m = Has-right (held_at s.place s.needs) (facts r) e (act-fact r a e j m)
  act-fact (live s x t) a e (inl q) m = subst (λ z. Has (facts z) e) (sym q) m
  act-fact (live s x t) a e (inr j) m = absurd j
  act-fact (freeing s k) a e (inl q) m = subst (λ z. Has (facts z) e) (sym q) m
  act-fact (freeing s k) a e (inr j) m = absurd j
  act-fact (in_seq r cs) a e j m = act-fact r a e j m
  act-fact (in_par rs) a e j m = act-fact_each rs a e j m
  act-fact (in_loop n c body r) a e j m = act-fact r a e j m
  act-fact done a e j m = absurd j

  act-fact_each : (rs : Rests) (a : Rest) (e : Standing) → Has (acts_of_each rs) a → Has (facts a) e → Has (facts_of_each rs) e
  act-fact_each no_rests a e j m = absurd j
  act-fact_each (rest r rs) a e j m =
      ⊎_elim (λ h. Has-left (facts r) (facts_of_each rs) e (act-fact r a e h m)) (λ h. Has-right (facts r) (facts_of_each rs) e (act-fact_each rs a e h m)) (Has-split (acts r) (acts_of_each rs) a j)

none-any : (to : Place) (ps : List Place) → ((q : Place) → Has ps q → q ≡ to → ⊥) → list_any (same_place to) ps ≡ false
none-any to [] h = refl
none-any to (q ∷ ps) h = go (same_place to q) refl (none-any to ps (λ z i. h z (inr i)))
  where
    go : (t : Bool) → same_place to q ≡ t → list_any (same_place to) ps ≡ false → (t || list_any (same_place to) ps) ≡ false
    go true e f = absurd (h q (inl refl) (sym (to_same_place to q e)))
    go false e f = f

mapped-held : (xs : List InAdvance) (q : Place) → Has (places xs) q → (held : InAdvance) × Has xs held × (held.place ≡ q)
mapped-held [] q h = absurd h
mapped-held (x ∷ xs) q (inl e) = (x, inl refl, e)
mapped-held (x ∷ xs) q (inr h) = let m = mapped-held xs q h in (m.0, inr m.1, m.2)

-- at a place without an act none is reached
pub nowhere-reached : (r : Rest) (p : Place) → Nowhere p (acts r) → is_act_reached r p ≡ false
nowhere-reached r p none = go (is_act_reached r p) refl
  where
    go : (t : Bool) → is_act_reached r p ≡ t → t ≡ false
    go true e = absurd (let m = reached-at p r e in none m.0 m.1 m.2)
    go false e = refl

module _ (d : Setup) (rank : Ranking) (outs : List Out) (s : Plant) (sd : IsStanding d s) (k : IsKept d rank outs s) (b : Batch) (i : Has s.batches b) where
  sound : IsSound d rank b
  sound = k.sound b i

  here : IsStandingBatch d b
  here = standing-of d s sd b i

  -- a place of a batch that holds in advance isn't reached
  pub held-waits : (held : InAdvance) → Has b.in_advance held → is_act_reached b.rest held.place ≡ false
  held-waits held j =
      nowhere-reached b.rest held.place
      (awaited-nowhere b.recipe.procedure b.rest sound.cleared.placed here.stands held.place (Each-Has (λ held. IsAwaited b.rest held.place) b.in_advance held here.awaited j))

  -- the unit procedure that a need is reserved for
  record IsFor (p : Step) (l : ℕ) (r : Need) (to : Place) : Type 0 where
    awaited : IsAwaited b.rest to
    single : (r.units ≡ 1) × (d.capacity r.resource ≡ 1)
    unit_is : (held : InAdvance) → IsFirstNeed b.recipe.procedure held → held.place ≡ to → held.unit ≡ r

  is-for : (p : Step) (l : ℕ) (r : Need) (to : Place) → Has (acts b.rest) (freeing p (suc l)) → slice_get p.needs l ≡ Some r → reserved_place b.recipe.procedure p l ≡ Some to → IsFor p l r to
  is-for p l r to j e q = go (find (λ (x : Reserve). nat_eq x.need l) p.reserves) refl q
    where
      go : (o : Option Reserve) → find (λ (x : Reserve). nat_eq x.need l) p.reserves ≡ o
          → option_and_then (λ (x : Reserve). follower b.recipe.procedure p.place x.name) o ≡ Some to → IsFor p l r to
      go None f g = let bad : None ≡ Some to = g in absurd cc
      go (Some x) f g =
          let found = find-passes (λ (y : Reserve). nat_eq y.need l) p.reserves x f in
          let number : x.need ≡ l = nat_same x.need l found.1 in
          let need : slice_get p.needs x.need ≡ Some r = ap (slice_get p.needs) number ∙ e in
          let step : Has (steps b.recipe.procedure) p = act-step_in b.recipe.procedure b.rest (freeing p (suc l)) p here.stands j refl in
          let firsts = Each-Has (λ reserve. (place : Place) → follower b.recipe.procedure p.place reserve.name ≡ Some place → Each (λ other. other.place ≡ place → slice_get p.needs reserve.need ≡ slice_get other.needs 0) (steps b.recipe.procedure)) p.reserves x
          (Each-Has (λ step. Each (λ reserve. (place : Place) → follower b.recipe.procedure step.place reserve.name ≡ Some place → Each (λ other. other.place ≡ place → slice_get step.needs reserve.need ≡ slice_get other.needs 0) (steps b.recipe.procedure)) step.reserves)
          (steps b.recipe.procedure) p sound.cleared.reserved step) found.0 to g in
          let match : (t : Step) → Has (steps b.recipe.procedure) t → t.place ≡ to → slice_get t.needs 0 ≡ Some r
          = λ t h at. sym (Each-Has (λ (other : Step). other.place ≡ to → slice_get p.needs x.need ≡ slice_get other.needs 0) (steps b.recipe.procedure) t firsts h at) ∙ need in
          let alone = sound.cleared.followed p.place x.name to g in
          let own : ◌≡◌ {A = Option Need} (Some alone.3.0) (Some r) = sym alone.3.1 ∙ match alone.0 alone.1 alone.2 in
          let same : alone.3.0 ≡ r = cc in
          record {
            awaited = follower-due b.recipe.procedure b.rest p (suc l) x.name to sound.cleared.placed here.stands j g;
            single = subst (λ (z : Need). (z.units ≡ 1) × (d.capacity z.resource ≡ 1)) same (alone.3.2, alone.3.3);
            unit_is = λ held h at. same_need held.unit r (sym (h alone.0 alone.1 (alone.2 ∙ sym at)) ∙ match alone.0 alone.1 alone.2);
          }

  -- the act that passes on a need holds it
  pub pass-told : (n : ℕ) (p to : Place) (r : Need) → Has (batch_moves d s b) (pass n p to r) → Has (holders_told outs r.resource) (record { act = (n, p); units = r.units })
  pass-told n p to r h =
      let m = pass-act b d s n p to r h in
      let x : Step = m.2.0 in
      let l : ℕ = m.2.1 in
      let a : Rest = freeing x (suc l) in
      let j : Has (acts b.rest) a = subst (λ (z : Rest). Has (acts b.rest) z) m.2.2 m.1 in
      let number : b.number ≡ n = sym (batch_moves-number d s b (pass n p to r) h) in
      let own : Has (facts a) (x.place, holding r) = subst (λ zs. Has zs (x.place, holding r)) (sym (held-next x.place l x.needs r m.2.3)) (Has-right (held_at x.place (take l x.needs)) ((x.place, holding r) ∷ []) (x.place, holding r) (inl refl)) in
      let there : Has (entries s.batches) ((b.number, x.place), holding r) = of-entry s.batches b x.place (holding r) i (act-fact b.rest a (x.place, holding r) j own) in
      (k.held r.resource).2 (record { act = (n, p); units = r.units })
      (holders-Has r.resource (entries s.batches) (record { act = (n, p); units = r.units })
      (subst (λ (z : BatchAct). Has (entries s.batches) (z, holding r)) (ap₂ (λ y z. let w : BatchAct = (y, z) in w) number (sym m.2.5)) there))

  -- as much is held after a pass as before
  pub pass-even : (n : ℕ) (p to : Place) (r : Need) → Has (batch_moves d s b) (pass n p to r) → (q : Name)
      → units_in (holders_after q (holders_told outs q) (move (pass n p to r))) ≡ units_in (holders_told outs q)
  pass-even n p to r h q = go (same_name q r.resource) refl
    where
      old : Share
      old = record { act = (n, p); units = r.units }

      new : Share
      new = record { act = (n, to); units = r.units }

      go : (t : Bool) → same_name q r.resource ≡ t → units_in (taken_up new t (laid_down (n, p) t (holders_told outs q))) ≡ units_in (holders_told outs q)
      go false e = refl
      go true e =
          let has : Has (holders_told outs q) old = subst (λ z. Has (holders_told outs z) old) (sym (name_same q r.resource e)) (pass-told n p to r h) in
          omega (
            arith,
            units-append (without (n, p) (holders_told outs q)) (new ∷ []),
            units-one new,
            sums-without_once (λ (z : Share). z.units) old (holders_told outs q) (k.held q).3 has,
          )

  -- the act that a move of the batch passes a unit to isn't reached, and holds nothing in advance
  pub pass-awaits : (n : ℕ) (p to : Place) (r : Need) → Has (batch_moves d s b) (pass n p to r)
      → (is_act_reached b.rest to ≡ false) × (list_any (same_place to) (map (λ (x : InAdvance). x.place) b.in_advance) ≡ false)
  pass-awaits n p to r h =
      let m = pass-act b d s n p to r h in
      let x : Step = m.2.0 in
      let l : ℕ = m.2.1 in
      let a : Rest = freeing x (suc l) in
      let j : Has (acts b.rest) a = subst (λ (z : Rest). Has (acts b.rest) z) m.2.2 m.1 in
      let t = is-for x l r to j m.2.3 m.2.4 in
      let free : Nowhere to (acts b.rest) = awaited-nowhere b.recipe.procedure b.rest sound.cleared.placed here.stands to t.awaited in
      let becomes : Becomes a released (take l x.needs) (also (holding r)) nothing
      = record { was = held-next x.place l x.needs r m.2.3; is = freed-facts x l ∙ sym (append-nil (held_at x.place (take l x.needs))) } in
      let changed : IsChange b a (λ (z : Batch). record z { rest = changed_at (place_of a) released z.rest }) released = record { number = refl; recipe = refl; changed = refl; early = refl } in (
        nowhere-reached b.rest to free,
        none-any to (places b.in_advance)
            (λ q g e. (let held = mapped-held b.in_advance q g in
            not-held-yet d rank outs s sd k b i a j (λ (z : Batch). record z { rest = changed_at (place_of a) released z.rest }) released changed (take l x.needs) r becomes to free t.single.0 t.single.1
            (λ z w. t.unit_is z (sound.units z w)) held.0 held.1 (held.2 ∙ e))),
      )
