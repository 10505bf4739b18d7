-- The notes on resources of capacity 1 name their holders, after every move and every event.
use Rattle.std.proofs.Common.{◌≡◌, ◌≤◌, ◌<◌, ⊎_elim, refl, sym, ◌∙◌, ap, subst, ℕ, zero, suc, List, [], ◌∷◌, ◌++◌, Bool, true, false, ◌&&◌, Option, Some, None, inl, inr, arith, length, nat_eq}
use Rattle.std.{specs.Prelude.slice_get, specs.Prelude.slice_set, proofs.lemmas.Bool.and_parts, proofs.lemmas.List.length-set}
use Rattle.batch_matrix.specs.declared.state.State.{State}
use Rattle.batch_recipe.specs.{Conditions.Name, Conditions.same_name, Needs.one_unit, Tree.Place, Tree.Phase, Tree.Step, declared.need.Need.Need}
use Rattle.batch_model.{specs.Cleared.Ranking, specs.Cleared.phases, specs.Events.Event, specs.Events.Reply, specs.Events.LivePhase, specs.Events.live_in, specs.Lists.Has, specs.Moves.Move, specs.Moves.send, specs.Moves.state, specs.Moves.release, specs.Moves.pass, specs.Moves.begin, specs.Moves.start, specs.Moves.end, specs.Moves.ask, specs.Moves.grant, specs.Moves.after_move, specs.Moves.batch_moves, specs.Moves.next, specs.Plant.Setup, specs.Plant.Batch, specs.Plant.BatchAct, specs.Plant.Share, specs.Plant.units_in, specs.Plant.Plant, specs.Plant.opening, specs.Plant.holders, specs.Plant.without, specs.Records.holders_told, specs.Records.holders_after, specs.Rest.Rest, specs.Rest.ready, specs.Rest.asking, specs.Rest.open_act, specs.Rest.live, specs.Rest.freeing, specs.Rest.in_seq, specs.Rest.in_par, specs.Rest.in_loop, specs.Rest.done, specs.Rest.acts, specs.Runs.Out, specs.Runs.move, specs.Runs.reply, specs.Runs.Reacts, specs.Runs.Leads, specs.Standing.IsStanding, specs.Standing.IsStandingBatch, proofs.Members.Each-Has, proofs.Members.Has-flat_map, proofs.Members.Has-split, proofs.Members.Has-right}
use Rattle.batch_step_laws.proofs.{WorkAfterMove.next-possible, RecordGrowth.Leads-move, RecordGrowth.Leads-reply, PlantAlongRecord.led-stands, PlantAlongRecord.opening-stands, LastLineEffect.holders_told-last}
use Rattle.batch_record_laws.{specs.Telling.IsTold, specs.Telling.IsLiveAt, proofs.InvariantAlongRecord.kept-along, proofs.InvariantAlongRecord.kept-at_first, proofs.InvariantAlongRecord.placed-trees, proofs.Batches.of-entry, proofs.Batches.performing-of, proofs.Batches.holders-entries, proofs.ClearanceDownTrees.AreClearedDown, proofs.Entries.Has-without, proofs.Entries.holders-Has, proofs.Entries.nat_same, proofs.Entries.name_same, proofs.Entries.name_self, proofs.Entries.units-cons, proofs.PlantFacts.holding, proofs.PlantFacts.performing, proofs.PlantFacts.entries, proofs.PlantFacts.share, proofs.Invariant.IsKept, proofs.Invariant.IsSound, proofs.Invariant.standing-of, proofs.PlantByRecord.tells_the_plant, proofs.Units.performed-phase, proofs.Units.unit-held, proofs.PhaseStarts.member-units}
use Rattle.batch_engine.{specs.Marked.AreNotedBy, specs.Marking.noted, specs.Marking.noted_for, proofs.MovesAcrossPlants.IsEven, proofs.PassTarget.laid_down, proofs.PassTarget.pass-even, proofs.PassTarget.pass-told, proofs.PassTarget.taken_up}

-- Lists

set-same : {X : Type 0} (xs : List X) (i : ℕ) (x : X) → i < length xs → slice_get (slice_set xs i x) i ≡ Some x
set-same [] i x l = absurd (omega (arith, l))
set-same (y ∷ xs) zero x l = refl
set-same (y ∷ xs) (suc i) x l = set-same xs i x (omega (arith, l))

set-other : {X : Type 0} (xs : List X) (i j : ℕ) (x : X) → (i ≡ j → ⊥) → slice_get (slice_set xs i x) j ≡ slice_get xs j
set-other [] i j x d = refl
set-other (y ∷ xs) zero zero x d = absurd (d refl)
set-other (y ∷ xs) zero (suc j) x d = refl
set-other (y ∷ xs) (suc i) zero x d = refl
set-other (y ∷ xs) (suc i) (suc j) x d = set-other xs i j x (λ e. d (ap (λ n. suc n) e))

-- of one unit there is one holder
alone : (xs : List Share) (a b : Share) → units_in xs ≤ 1 → Has xs a → Has xs b → a.units ≡ 1 → b.units ≡ 1 → a.act ≡ b.act
alone [] a b l h k e f = absurd h
alone (x ∷ xs) a b l (inl p) (inl q) e f = ap (λ (z : Share). z.act) (sym p ∙ q)
alone (x ∷ xs) a b l (inl p) (inr k) e f = absurd (omega (arith, units-cons x xs, ap (λ (z : Share). z.units) p, member-units xs b k, l, e, f))
alone (x ∷ xs) a b l (inr h) (inl q) e f = absurd (omega (arith, units-cons x xs, ap (λ (z : Share). z.units) q, member-units xs a h, l, e, f))
alone (x ∷ xs) a b l (inr h) (inr k) e f = alone xs a b (omega (arith, units-cons x xs, l)) h k e f

-- a live phase that is found is one of the acts, and of the unit
found-live : (b : Batch) (unit name : Name) (rs : List Rest) (l : LivePhase) → live_in b unit name rs ≡ Some l → (step : Step) × (phase : Phase) × (now : State) × Has rs (live step phase now) × (phase.unit ≡ unit)
found-live b unit name [] l e = absurd cc
found-live b unit name (live p y x ∷ rs) l e = go (same_name y.unit unit && same_name y.name name) refl e (λ g. found-live b unit name rs l g)
  where
    go : (t : Bool) → (same_name y.unit unit && same_name y.name name) ≡ t
        → ◌≡◌ {A = Option LivePhase} (elim t [ true ↦ Some (record { batch = b; place = p.place; phase = y; state = x }) | false ↦ live_in b unit name rs ]) (Some l)
        → (live_in b unit name rs ≡ Some l → (step : Step) × (phase : Phase) × (now : State) × Has rs (live step phase now) × (phase.unit ≡ unit))
        → (step : Step) × (phase : Phase) × (now : State) × Has (live p y x ∷ rs) (live step phase now) × (phase.unit ≡ unit)
    go true f g later = (p, y, x, inl refl, name_same y.unit unit (and_parts (same_name y.unit unit) (same_name y.name name) f).0)
    go false f g later = let m = later g in (m.0, m.1, m.2, inr m.3, m.4)
found-live b unit name (ready p w k ∷ rs) l e = let m = found-live b unit name rs l e in (m.0, m.1, m.2, inr m.3, m.4)
found-live b unit name (asking p w k ∷ rs) l e = let m = found-live b unit name rs l e in (m.0, m.1, m.2, inr m.3, m.4)
found-live b unit name (open_act p r ∷ rs) l e = let m = found-live b unit name rs l e in (m.0, m.1, m.2, inr m.3, m.4)
found-live b unit name (freeing p k ∷ rs) l e = let m = found-live b unit name rs l e in (m.0, m.1, m.2, inr m.3, m.4)
found-live b unit name (in_seq r cs ∷ rs) l e = let m = found-live b unit name rs l e in (m.0, m.1, m.2, inr m.3, m.4)
found-live b unit name (in_par ps ∷ rs) l e = let m = found-live b unit name rs l e in (m.0, m.1, m.2, inr m.3, m.4)
found-live b unit name (in_loop n c body r ∷ rs) l e = let m = found-live b unit name rs l e in (m.0, m.1, m.2, inr m.3, m.4)
found-live b unit name (done ∷ rs) l e = let m = found-live b unit name rs l e in (m.0, m.1, m.2, inr m.3, m.4)

-- The notes and the record

module _ (c : Setup) (rank : Ranking) (down : AreClearedDown c rank) (events : List Event) (outs : List Out) (s : Plant) (leads : Leads c opening events outs s) where
  safe : IsKept c rank outs s
  safe = kept-along c rank down [] opening (opening-stands c) (kept-at_first c rank) events outs s leads

  stands : IsStanding c s
  stands = led-stands c (placed-trees c rank down) events outs s leads

  told : IsTold outs s
  told = tells_the_plant c rank down events outs s leads

  one-held : (name : Name) → c.capacity name ≡ 1 → units_in (holders s name) ≤ 1
  one-held name one = subst (λ n. units_in (holders s name) ≤ n) one (subst (λ hs. units_in hs ≤ c.capacity name) (sym (holders-entries s name)) (safe.within name))

  module _ (number : Name → Option ℕ) (hs : List ℕ) (are : AreNotedBy number c s hs) where
    told-noted : (name : Name) (q : ℕ) → number name ≡ Some q → c.capacity name ≡ 1 → (a : Share) → Has (holders_told outs name) a → a.units ≡ 1 → slice_get hs q ≡ Some a.act.0
    told-noted name q e one a h = are name q e one a ((told.held name).0 a h)

    -- the batch of a live phase is noted for its unit
    pub live-noted : ((name : Name) → c.capacity name ≡ 1 → (q : ℕ) × (number name ≡ Some q)) → (b : Batch) → Has s.batches b → (unit name : Name) (l : LivePhase) → live_in b unit name (acts b.rest) ≡ Some l
        → (q : ℕ) × (number unit ≡ Some q) × (slice_get hs q ≡ Some b.number)
    live-noted known b here unit name l found =
        let f = found-live b unit name (acts b.rest) l found in
        let act : BatchAct = (b.number, f.0.place) in
        let at : IsLiveAt s act f.1 = (b, here, refl, f.0, f.2, f.3, refl) in
        let entry : Has (entries s.batches) (act, performing f.1) = safe.active (record { act = act; phase = f.1 }) (told.runs act f.1 at) in
        let e = performing-of s.batches act f.1 entry in
        let sound : IsSound c rank e.0 = safe.sound e.0 e.1 in
        let stood : IsStandingBatch c e.0 = standing-of c s stands e.0 e.1 in
        let one : c.capacity f.1.unit ≡ 1 =
        Each-Has (λ (w : Phase). c.capacity w.unit ≡ 1) (phases e.0.recipe.procedure) f.1 sound.cleared.single (performed-phase e.0.recipe.procedure e.0.rest stood.stands f.0.place f.1 e.3) in
        let q = known f.1.unit one in
        ⊎_elim (λ m. absurd m)
        (λ m. (
          q.0,
          subst (λ z. number z ≡ Some q.0) f.4 q.1,
          are f.1.unit q.0 q.1 one (share (e.0.number, m.0) 1)
              (subst (λ hs. Has hs (share (e.0.number, m.0) 1)) (sym (holders-entries s f.1.unit))
              (holders-Has f.1.unit (entries s.batches) (share (e.0.number, m.0) 1) (of-entry s.batches e.0 m.0 (holding (one_unit f.1.unit)) e.1 m.1)))
              refl ∙ ap Some e.2,
        ))
        (unit-held [] (0 ∷ []) e.0.recipe.procedure e.0.rest sound.cleared.placed sound.cleared.in_units stood.stands f.0.place f.1 e.3)

-- The next move

module _ (c : Setup) (rank : Ranking) (outs : List Out) (s : Plant) (sd : IsStanding c s) (k : IsKept c rank outs s) where
  -- is one of a batch
  mover : (m : Move) → next c s ≡ Some m → (b : Batch) × Has s.batches b × Has (batch_moves c s b) m
  mover m is = Has-flat_map (batch_moves c s) s.batches m (next-possible c s m is)

  -- the act that passes on a need holds it
  next-told : (n : ℕ) (p to : Place) (r : Need) → next c s ≡ Some (pass n p to r) → Has (holders_told outs r.resource) (record { act = (n, p); units = r.units })
  next-told n p to r is = let d = mover (pass n p to r) is in pass-told c rank outs s sd k d.0 d.1 n p to r d.2

  -- and as much is held after a pass as before
  pub next-even : (m : Move) → next c s ≡ Some m → IsEven outs m
  next-even (pass n p to r) is = let d = mover (pass n p to r) is in pass-even c rank outs s sd k d.0 d.1 n p to r d.2
  next-even (send n p x y) is = tt
  next-even (state n x) is = tt
  next-even (release n p r) is = tt
  next-even (begin n p x) is = tt
  next-even (start n p x y) is = tt
  next-even (end n p) is = tt
  next-even (ask n p r) is = tt
  next-even (grant n p r) is = tt

-- After a move

module _ (c : Setup) (rank : Ranking) (down : AreClearedDown c rank) (events : List Event) (outs : List Out) (s : Plant) (leads : Leads c opening events outs s)
    (number : Name → Option ℕ) (apart : (x y : Name) (q : ℕ) → number x ≡ Some q → number y ≡ Some q → x ≡ y) (hs : List ℕ) (are : AreNotedBy number c s hs) where
  module _ (m : Move) (is : next c s ≡ Some m) where
    later : Leads c opening events (outs ++ move m ∷ []) (after_move s m)
    later = Leads-move c opening s m events outs leads is

    old : (name : Name) (q : ℕ) → number name ≡ Some q → c.capacity name ≡ 1 → (a : Share) → Has (holders_told outs name) a → a.units ≡ 1 → slice_get hs q ≡ Some a.act.0
    old = told-noted c rank down events outs s leads number hs are

    module _ (within : (name : Name) (q : ℕ) → number name ≡ Some q → q < length hs) where
      -- the note on a resource that the move is not of stays
      untouched : (r : Need) (n : ℕ) (name : Name) (q : ℕ) → number name ≡ Some q → same_name name r.resource ≡ false
          → slice_get (elim (nat_eq r.units 1) [ true ↦ noted_for (number r.resource) n hs | false ↦ hs ]) q ≡ slice_get hs q
      untouched r n name q e f = go (nat_eq r.units 1) (number r.resource) refl
        where
          differs : (p : ℕ) → number r.resource ≡ Some p → p ≡ q → ⊥
          differs p g same =
              absurd (let z : ◌≡◌ {A = Bool} true false = sym (name_self name) ∙ ap (same_name name) (apart name r.resource q e (g ∙ ap Some same)) ∙ f in cc)

          go : (t : Bool) (o : Option ℕ) → number r.resource ≡ o → slice_get (elim t [ true ↦ noted_for o n hs | false ↦ hs ]) q ≡ slice_get hs q
          go false o g = refl
          go true None g = refl
          go true (Some p) g = set-other hs p q n (differs p g)

      -- of one unit that is granted, the batch is noted
      granted-noted : (r : Need) (n : ℕ) (q : ℕ) → number r.resource ≡ Some q → r.units ≡ 1
          → slice_get (elim (nat_eq r.units 1) [ true ↦ noted_for (number r.resource) n hs | false ↦ hs ]) q ≡ Some n
      granted-noted r n q e one =
          ap (λ (t : Bool). slice_get (elim t [ true ↦ noted_for (number r.resource) n hs | false ↦ hs ]) q) (subst (λ k. nat_eq k 1 ≡ true) (sym one) refl)
          ∙ ap (λ (o : Option ℕ). slice_get (noted_for o n hs) q) e
          ∙ set-same hs q n (within r.resource q e)

      granted : (n : ℕ) (p : Place) (r : Need) → m ≡ grant n p r → AreNotedBy number c (after_move s m) (noted number m hs)
      granted n p r m_is name q e one a h units =
          subst (λ (g : Move). slice_get (noted number g hs) q ≡ Some a.act.0) (sym m_is)
          (go (same_name name r.resource) refl (subst (λ (g : Move). Has (holders_after name (holders_told outs name) (move g)) a) m_is now))
        where
          seen : IsTold (outs ++ move m ∷ []) (after_move s m)
          seen = told c rank down events (outs ++ move m ∷ []) (after_move s m) later

          now : Has (holders_after name (holders_told outs name) (move m)) a
          now = subst (λ xs. Has xs a) (holders_told-last outs (move m) name) ((seen.held name).1 a h)

          new : Share
          new = record { act = (n, p); units = r.units }

          -- the new share is there
          there : same_name name r.resource ≡ true → Has (holders (after_move s m) name) new
          there f =
              (seen.held name).0 new
              (subst (λ xs. Has xs new) (sym (holders_told-last outs (move m) name))
              (subst (λ (g : Move). Has (holders_after name (holders_told outs name) (move g)) new) (sym m_is)
              (subst (λ (t : Bool). Has (elim t [ true ↦ holders_told outs name ++ new ∷ [] | false ↦ holders_told outs name ]) new) (sym f)
              (Has-right (holders_told outs name) (new ∷ []) new (inl refl)))))

          number_is : same_name name r.resource ≡ true → number r.resource ≡ Some q
          number_is f = subst (λ z. number z ≡ Some q) (name_same name r.resource f) e

          earlier : same_name name r.resource ≡ true → Has (holders_told outs name) a → (t : Bool) → nat_eq r.units 1 ≡ t
              → slice_get (elim t [ true ↦ noted_for (number r.resource) n hs | false ↦ hs ]) q ≡ Some a.act.0
          earlier f i false g = old name q e one a i units
          earlier f i true g =
              let both : a.act ≡ (n, p) =
              alone (holders (after_move s m) name) a new (one-held c rank down events (outs ++ move m ∷ []) (after_move s m) later name one) h (there f) units (nat_same r.units 1 g) in
              ap (λ (o : Option ℕ). slice_get (noted_for o n hs) q) (number_is f) ∙ set-same hs q n (within name q e) ∙ ap (λ (z : BatchAct). Some z.0) (sym both)

          go : (t : Bool) → same_name name r.resource ≡ t
              → Has (elim t [ true ↦ holders_told outs name ++ new ∷ [] | false ↦ holders_told outs name ]) a
              → slice_get (elim (nat_eq r.units 1) [ true ↦ noted_for (number r.resource) n hs | false ↦ hs ]) q ≡ Some a.act.0
          go false f i = untouched r n name q e f ∙ old name q e one a i units
          go true f i =
              ⊎_elim (λ j. earlier f j (nat_eq r.units 1) refl)
              (λ j. ⊎_elim
              (λ g. granted-noted r n q (number_is f) (ap (λ (z : Share). z.units) g ∙ units) ∙ ap (λ (z : Share). Some z.act.0) g)
              (λ g. absurd g) j)
              (Has-split (holders_told outs name) (new ∷ []) a i)

      -- no act holds more after a move that is no grant
      fewer : ((name : Name) (a : Share) → Has (holders_after name (holders_told outs name) (move m)) a → Has (holders_told outs name) a) → AreNotedBy number c (after_move s m) hs
      fewer held name q e one a h units =
          let seen : IsTold (outs ++ move m ∷ []) (after_move s m) = told c rank down events (outs ++ move m ∷ []) (after_move s m) later in
          old name q e one a (held name a (subst (λ xs. Has xs a) (holders_told-last outs (move m) name) ((seen.held name).1 a h))) units

  -- after a pass
  passed-noted : (n : ℕ) (p to : Place) (r : Need) → next c s ≡ Some (pass n p to r) → AreNotedBy number c (after_move s (pass n p to r)) hs
  passed-noted n p to r is name q e one a h units = go (same_name name r.resource) refl (subst (λ xs. Has xs a) (holders_told-last outs (move (pass n p to r)) name) ((seen.held name).1 a h))
    where
      new : Share
      new = record { act = (n, to); units = r.units }

      seen : IsTold (outs ++ move (pass n p to r) ∷ []) (after_move s (pass n p to r))
      seen = told c rank down events (outs ++ move (pass n p to r) ∷ []) (after_move s (pass n p to r)) (later (pass n p to r) is)

      before : (b : Share) → Has (holders_told outs name) b → b.units ≡ 1 → slice_get hs q ≡ Some b.act.0
      before b i u = old (pass n p to r) is name q e one b i u

      -- the act that passed it on held it
      passed : same_name name r.resource ≡ true → new ≡ a → slice_get hs q ≡ Some a.act.0
      passed f g =
          before (record { act = (n, p); units = r.units })
          (subst (λ z. Has (holders_told outs z) (record { act = (n, p); units = r.units })) (sym (name_same name r.resource f)) (next-told c rank outs s (stands c rank down events outs s leads) (safe c rank down events outs s leads) n p to r is))
          (ap (λ (z : Share). z.units) g ∙ units)
          ∙ ap (λ (z : Share). Some z.act.0) g

      go : (t : Bool) → same_name name r.resource ≡ t
          → Has (taken_up new t (laid_down (n, p) t (holders_told outs name))) a
          → slice_get hs q ≡ Some a.act.0
      go false f i = before a i units
      go true f i =
          ⊎_elim (λ j. before a (Has-without (n, p) (holders_told outs name) a j).0 units) (λ j. ⊎_elim (λ g. passed f g) (λ g. absurd g) j)
          (Has-split (without (n, p) (holders_told outs name)) (new ∷ []) a i)

  -- after each move
  pub move-noted : (m : Move) → next c s ≡ Some m → ((name : Name) (q : ℕ) → number name ≡ Some q → q < length hs) → AreNotedBy number c (after_move s m) (noted number m hs)
  move-noted (grant n p r) is within = granted (grant n p r) is within n p r refl
  move-noted (release n p r) is within = fewer (release n p r) is within (λ name a h. gone name a (same_name name r.resource) h)
    where
      gone : (name : Name) (a : Share) (t : Bool) → Has (elim t [ true ↦ without (n, p) (holders_told outs name) | false ↦ holders_told outs name ]) a → Has (holders_told outs name) a
      gone name a true h = (Has-without (n, p) (holders_told outs name) a h).0
      gone name a false h = h
  move-noted (pass n p to r) is within = passed-noted n p to r is
  move-noted (send n p x y) is within = fewer (send n p x y) is within (λ name a h. h)
  move-noted (state n x) is within = fewer (state n x) is within (λ name a h. h)
  move-noted (begin n p x) is within = fewer (begin n p x) is within (λ name a h. h)
  move-noted (start n p x y) is within = fewer (start n p x y) is within (λ name a h. h)
  move-noted (end n p) is within = fewer (end n p) is within (λ name a h. h)
  move-noted (ask n p r) is within = fewer (ask n p r) is within (λ name a h. h)

  -- and after each event
  pub reply-noted : (e : Event) (r : Reply) (t : Plant) → Reacts c s e r t → AreNotedBy number c t hs
  reply-noted e r t reacts name q f one a h units =
      let seen : IsTold (outs ++ reply r ∷ []) t = told c rank down (events ++ e ∷ []) (outs ++ reply r ∷ []) t (Leads-reply c opening s t e r events outs leads reacts) in
      told-noted c rank down events outs s leads number hs are name q f one a (subst (λ xs. Has xs a) (holders_told-last outs (reply r) name) ((seen.held name).1 a h)) units

-- a note changes no count
pub noted-length : (number : Name → Option ℕ) (m : Move) (hs : List ℕ) → length (noted number m hs) ≡ length hs
noted-length number (grant n p r) hs = go (nat_eq r.units 1) (number r.resource)
  where
    go : (t : Bool) (o : Option ℕ) → length {A = ℕ} (elim t [ true ↦ noted_for o n hs | false ↦ hs ]) ≡ length hs
    go false o = refl
    go true None = refl
    go true (Some q) = length-set hs q n
noted-length number (release n p r) hs = refl
noted-length number (pass n p to r) hs = refl
noted-length number (send n p x y) hs = refl
noted-length number (state n x) hs = refl
noted-length number (begin n p x) hs = refl
noted-length number (start n p x y) hs = refl
noted-length number (end n p) hs = refl
noted-length number (ask n p r) hs = refl
