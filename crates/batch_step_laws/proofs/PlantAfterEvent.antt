-- A plant that stands does so after each event.
use Rattle.std.proofs.Common.{arith, ◌≡◌, refl, sym, ◌∙◌, ap, subst, inl, inr, ◌&&◌, ℕ, List, [], ◌∷◌, Bool, true, false, Some, None}
use Rattle.std.specs.{Prelude.Option, Prelude.find, Prelude.not, Prelude.nat_eq, Option.option_or}
use Rattle.batch_matrix.specs.{declared.state.State.State, declared.state.State.TheVariants.Idle, declared.state.State.TheVariants.Holding, declared.command.Command.Command, declared.report.Report.Report, declared.report.ReportOutcome.ReportOutcome, declared.command.Command.TheVariants.Hold, Matrix.same_state, Matrix.same_report, Matrix.accepts, Matrix.target, Matrix.after_report}
use Rattle.batch_recipe.specs.{Conditions.Name, Conditions.ValueList, Conditions.same_name, Tree.Place, Values.with_values, Values.with_outputs_zero, Values.are_outputs, Values.left_out}
use Rattle.batch_model.{specs.Lists.Has, specs.Lists.Each, specs.Rest.Rest, specs.Rest.ready, specs.Rest.asking, specs.Rest.open_act, specs.Rest.live, specs.Rest.freeing, specs.Rest.in_seq, specs.Rest.in_par, specs.Rest.in_loop, specs.Rest.done, specs.Rest.Moment, specs.Rest.acts, specs.Rest.withdrawn, specs.Plant.Formula, specs.Plant.size_out_of_range, specs.Plant.value_out_of_range, specs.Plant.scaled, specs.Plant.Recipe, specs.Plant.Setup, specs.Plant.InAdvance, specs.Plant.Batch, specs.Plant.Share, specs.Plant.Plant, specs.Plant.batch_at, specs.Plant.in_batch, specs.Plant.Master, specs.Moves.Move, specs.Moves.next, specs.Events.Event, specs.Events.create, specs.Events.order, specs.Events.remove, specs.Events.report, specs.Events.ordered, specs.Events.removed, specs.Events.refused, specs.Events.unknown_recipe, specs.Events.bad_binding, specs.Events.binding, specs.Events.is_binding, specs.Events.bound_by, specs.Events.creating_for, specs.Events.roles_told, specs.Events.unknown_batch, specs.Events.command_not_accepted, specs.Events.no_live_phase, specs.Events.report_not_expected, specs.Events.bad_output, specs.Events.owed, specs.Events.accepting, specs.Events.full, specs.Events.not_idle, specs.Events.moves_pending, specs.Events.Answer, specs.Events.is_full, specs.Events.new_batch, specs.Events.with_batch, specs.Events.creating, specs.Events.reset, specs.Events.ends_asks, specs.Events.commanded, specs.Events.lines_under, specs.Events.ordering, specs.Events.without_batch, specs.Events.removing, specs.Events.LivePhase, specs.Events.live_in, specs.Events.live_phase, specs.Events.phase_after, specs.Events.batch_state_after, specs.Events.outputs_of, specs.Events.batch_reported, specs.Events.reporting, specs.Events.judged, specs.Events.react, specs.Standing.is_resting, specs.Standing.IsAwaited, specs.Standing.IsControl, specs.Standing.HasPlacedTrees, specs.Standing.IsStandingBatch, specs.Standing.IsStanding, proofs.Members.Each-append, proofs.Members.Each-filter, proofs.Members.find-Has}
use Rattle.batch_step_laws.proofs.{AdvancedRests.reach-advanced, AdvancedRests.withdrawn-advanced, NodesOfRests.reach-IsRestOf, RestsAfterChange.withdrawn-IsRestOf, RestsAfterChange.phase_after-remains, ListsOverActs.reach-unbegun, Batches.one_batch, Batches.Each-only, Batches.AreNumbered-only, Batches.AreNumbered-new, Batches.AreNumbered-filter, PlantAfterMove.in_act-stands, HoldersInAdvance.HasBegun, HoldersInAdvance.begun-busy, HoldersInAdvance.settled-none}

-- One batch

-- if nothing is held in advance, nothing of it is awaited
none-awaited : (r : Rest) (xs : List InAdvance) → xs ≡ [] → Each (λ held. IsAwaited r held.place) xs
none-awaited r xs e = subst (Each (λ held. IsAwaited r held.place)) (sym e) tt

-- a batch of a recipe of which everything is reached anew
anew-stands : (c : Setup) (number : ℕ) (recipe : Recipe) (size : ℕ) (values : ValueList) → IsControl c recipe → IsStandingBatch c (new_batch number recipe size values)
anew-stands c number recipe size values known =
    let mo : Moment = record { values = values; early = [] } in
    record { known = known; stands = reach-IsRestOf mo recipe.procedure; advanced = reach-advanced mo recipe.procedure; awaited = tt; given_up = λ e. refl; unbegun = λ e. reach-unbegun mo recipe.procedure }

in_state-stands : (c : Setup) (b : Batch) (x : State) (ends : Bool) → is_resting x ≡ false → IsStandingBatch c b → b.in_advance ≡ []
    → IsStandingBatch c (record b { state = x; rest = elim ends [ true ↦ withdrawn b.rest | false ↦ b.rest ] })
in_state-stands c b x true busy k none =
    record {
      known = k.known;
      stands = withdrawn-IsRestOf b.recipe.procedure b.rest k.stands;
      advanced = withdrawn-advanced b.rest k.advanced;
      awaited = none-awaited (withdrawn b.rest) b.in_advance none;
      given_up = λ e. none;
      unbegun = λ e. absurd cc;
    }
in_state-stands c b x false busy k none =
    record { known = k.known; stands = k.stands; advanced = k.advanced; awaited = k.awaited; given_up = λ e. none; unbegun = λ e. absurd cc }

-- no command completes a batch
commanded-busy : (command : Command) → same_state (target command) Idle ≡ false → is_resting (target command) ≡ false
commanded-busy command e = grind arith

commanded-stands : (c : Setup) (command : Command) (b : Batch) → IsStandingBatch c b → b.in_advance ≡ [] → IsStandingBatch c (commanded command b)
commanded-stands c command b k none = go (same_state (target command) Idle) refl
  where
    go : (t : Bool) → same_state (target command) Idle ≡ t → IsStandingBatch c (elim t [ true ↦ reset b | false ↦ record b { state = target command; rest = elim (ends_asks command) [ true ↦ withdrawn b.rest | false ↦ b.rest ] } ])
    go true e = anew-stands c b.number b.recipe b.size (with_outputs_zero b.recipe.outputs b.values) k.known
    go false e = in_state-stands c b (target command) (ends_asks command) (commanded-busy command e) k none

pub commanded-number : (command : Command) (b : Batch) → (commanded command b).number ≡ b.number
commanded-number command b = grind arith

reported-busy : (word : Report) (x : State) → is_resting x ≡ false → is_resting (batch_state_after word x) ≡ false
reported-busy word x e = go (same_report word Report.Fault && accepts x Hold)
  where
    go : (t : Bool) → is_resting (elim t [ true ↦ Holding | false ↦ x ]) ≡ false
    go true = refl
    go false = e

later-begun : (a : Rest) (xs : List Rest) → HasBegun xs → HasBegun (a ∷ xs)
later-begun a xs h = (h.0, inr h.1, h.2)

some_live : (y z : LivePhase) → Some y ≡ Some z → y ≡ z
some_live y z f = cc

-- a live phase is an act of its batch that has begun
live_in-found : (b : Batch) (unit name : Name) (xs : List Rest) (l : LivePhase) → live_in b unit name xs ≡ Some l → (l.batch ≡ b) × HasBegun xs
live_in-found b unit name [] l e = absurd cc
live_in-found b unit name (live p x t ∷ xs) l e = go (same_name x.unit unit && same_name x.name name) e (live_in-found b unit name xs l)
  where
    go : (test : Bool) → elim test [ true ↦ Some (record { batch = b; place = p.place; phase = x; state = t }) | false ↦ live_in b unit name xs ] ≡ Some l
        → (live_in b unit name xs ≡ Some l → (l.batch ≡ b) × HasBegun xs)
        → (l.batch ≡ b) × HasBegun (live p x t ∷ xs)
    go true f more =
        (ap (λ (z : LivePhase). z.batch) (sym (some_live (record { batch = b; place = p.place; phase = x; state = t }) l f)), (live p x t, inl refl, λ u. u))
    go false f more = let found = more f in (found.0, later-begun (live p x t) xs found.1)
live_in-found b unit name (ready s w k ∷ xs) l e = let found = live_in-found b unit name xs l e in (found.0, later-begun (ready s w k) xs found.1)
live_in-found b unit name (asking s w k ∷ xs) l e = let found = live_in-found b unit name xs l e in (found.0, later-begun (asking s w k) xs found.1)
live_in-found b unit name (open_act s r ∷ xs) l e = let found = live_in-found b unit name xs l e in (found.0, later-begun (open_act s r) xs found.1)
live_in-found b unit name (freeing s k ∷ xs) l e = let found = live_in-found b unit name xs l e in (found.0, later-begun (freeing s k) xs found.1)
live_in-found b unit name (in_seq r cs ∷ xs) l e = let found = live_in-found b unit name xs l e in (found.0, later-begun (in_seq r cs) xs found.1)
live_in-found b unit name (in_par rs ∷ xs) l e = let found = live_in-found b unit name xs l e in (found.0, later-begun (in_par rs) xs found.1)
live_in-found b unit name (in_loop n d body r ∷ xs) l e = let found = live_in-found b unit name xs l e in (found.0, later-begun (in_loop n d body r) xs found.1)
live_in-found b unit name (done ∷ xs) l e = let found = live_in-found b unit name xs l e in (found.0, later-begun done xs found.1)

live_phase-found : (bs : List Batch) (unit name : Name) (l : LivePhase) → live_phase bs unit name ≡ Some l → Has bs l.batch × HasBegun (acts l.batch.rest)
live_phase-found [] unit name l e = absurd cc
live_phase-found (b ∷ bs) unit name l e = go (live_in b unit name (acts b.rest)) refl e (live_phase-found bs unit name l)
  where
    go : (o : Option LivePhase) → live_in b unit name (acts b.rest) ≡ o → option_or o (live_phase bs unit name) ≡ Some l
        → (live_phase bs unit name ≡ Some l → Has bs l.batch × HasBegun (acts l.batch.rest))
        → Has (b ∷ bs) l.batch × HasBegun (acts l.batch.rest)
    go None h f more = let found = more f in (inr found.0, found.1)
    go (Some x) h f more =
        let found = live_in-found b unit name (acts b.rest) l (h ∙ f) in
        (inl (sym found.0), subst (λ (z : Batch). HasBegun (acts z.rest)) (sym found.0) found.1)

reported-stands : (c : Setup) (word : Report) (outputs : ValueList) (p : Place) (e : ReportOutcome) (b : Batch) → is_resting b.state ≡ false → IsStandingBatch c b → b.in_advance ≡ []
    → IsStandingBatch c (batch_reported word outputs p e b)
reported-stands c word outputs p e b busy k none =
    in_act-stands c (record b { values = with_values outputs b.values; state = batch_state_after word b.state }) p (phase_after e)
    (record { known = k.known; stands = k.stands; advanced = k.advanced; awaited = k.awaited; given_up = λ d. none; unbegun = λ d. absurd (let still = reported-busy word b.state busy in cc) })
    (λ a i at. phase_after-remains e a)
    (λ held i. absurd (subst (λ xs. Has xs held) none i))
    (reported-busy word b.state busy)

-- The plant

module _ (c : Setup) (s : Plant) (k : IsStanding c s) (none : (b : Batch) → Has s.batches b → b.in_advance ≡ []) where
  -- the plant after the answer stands
  abbrev Stands : Answer → Type 0
  Stands a = IsStanding c a.1

  in_batch-stands : (n : ℕ) (f : Batch → Batch) (line : Name → List Share) → ((b : Batch) → Has s.batches b → b.number ≡ n → IsStandingBatch c b → b.in_advance ≡ [] → IsStandingBatch c (f b))
      → ((b : Batch) → (f b).number ≡ b.number) → IsStanding c (record (in_batch n f s) { line = line })
  in_batch-stands n f line keep same =
      record {
        batches = Each-only (IsStandingBatch c) n f s.batches (λ b i e h. keep b i e h (none b i)) k.batches;
        numbers = AreNumbered-only s.next_number n f s.batches same k.numbers;
      }

  with_batch-stands : (r : Recipe) (size : ℕ) (vs : ValueList) → IsControl c r → IsStanding c (with_batch s r size vs)
  with_batch-stands r size vs known =
      record {
        batches =
            Each-append (IsStandingBatch c) s.batches (new_batch s.next_number r size vs ∷ []) k.batches
            (anew-stands c s.next_number r size vs known, tt);
        numbers = AreNumbered-new s.next_number s.batches (new_batch s.next_number r size vs) refl k.numbers;
      }

  creating-stands : (r : Recipe) (size : ℕ) (told : List (Name × Name)) (f : Formula) → IsControl c r → Stands (creating s r size told f)
  creating-stands r size told size_out_of_range known = k
  creating-stands r size told (value_out_of_range name) known = k
  creating-stands r size told (scaled vs) known = with_batch-stands r size vs known

  binding-stands : (m : Master) (size : ℕ) (pairs : List (Name × Name)) → Has c.recipes m → Stands (binding s m size pairs)
  binding-stands m size pairs h = go (is_binding m.roles pairs) refl
    where
      r : Recipe
      r = m.control (bound_by pairs)

      go : (t : Bool) → is_binding m.roles pairs ≡ t
          → Stands (elim t [ false ↦ (refused bad_binding, s) | true ↦ creating_for s m size (bound_by pairs) ])
      go false e = k
      go true e = creating-stands r size (roles_told m.roles (bound_by pairs)) (r.formula size) (m, h, (pairs, e, refl))

  ordering-stands : (command : Command) (b : Batch) → Stands (ordering s command b)
  ordering-stands command b = go (accepts b.state command)
    where
      go : (t : Bool) → Stands
          (elim t [
            | false ↦ (refused (command_not_accepted b.state), s)
            | true ↦ (ordered command b.number (target command), record (in_batch b.number (commanded command) s) { line = lines_under command b.number s.line })
          ])
      go false = k
      go true = in_batch-stands b.number (commanded command) (lines_under command b.number s.line) (λ d i e. commanded-stands c command d) (commanded-number command)

  removing-stands : (b : Batch) → Stands (removing s b)
  removing-stands b = go (same_state b.state Idle)
    where
      gone : IsStanding c (without_batch b.number s)
      gone =
          record {
            batches = Each-filter (IsStandingBatch c) (λ d. not (nat_eq d.number b.number)) s.batches k.batches;
            numbers = AreNumbered-filter s.next_number (λ d. not (nat_eq d.number b.number)) s.batches k.numbers;
          }

      go : (t : Bool) → Stands (elim t [ true ↦ (removed b.number, without_batch b.number s) | false ↦ (refused (not_idle b.state), s) ])
      go true = gone
      go false = k

  reporting-stands : (unit name : Name) (word : Report) (outputs : ValueList) (l : LivePhase) → Has s.batches l.batch → HasBegun (acts l.batch.rest)
      → Stands (reporting s unit name word outputs l)
  reporting-stands unit name word outputs l i has = go (after_report l.state word)
    where
      busy : (b : Batch) → Has s.batches b → b.number ≡ l.batch.number → IsStandingBatch c b → is_resting b.state ≡ false
      busy b j e h =
          begun-busy c b h (subst (λ (z : Batch). HasBegun (acts z.rest)) (one_batch s.next_number s.batches l.batch b k.numbers i j (sym e)) has)

      accepted : (e : ReportOutcome) (o : Option Name) → Stands (accepting s unit name word outputs l e o)
      accepted e (Some output) = k
      accepted e None = in_batch-stands l.batch.number (batch_reported word outputs l.place e) s.line
          (λ b j n h. reported-stands c word outputs l.place e b (busy b j n h) h) (λ b. refl)

      taken : (e : ReportOutcome) (t : Bool) → Stands
          (elim t [ false ↦ (refused bad_output, s) | true ↦ accepting s unit name word outputs l e (left_out (owed l.state word l.phase.reports) outputs) ])
      taken e false = k
      taken e true = accepted e (left_out (owed l.state word l.phase.reports) outputs)

      go : (o : Option ReportOutcome) → Stands
          (elim o [
            | None ↦ (refused (report_not_expected l.state), s)
            | Some e ↦
                elim (are_outputs l.batch.recipe.outputs outputs) [
                  | false ↦ (refused bad_output, s)
                  | true ↦ accepting s unit name word outputs l e (left_out (owed l.state word l.phase.reports) outputs)
                ]
          ])
      go None = k
      go (Some e) = taken e (are_outputs l.batch.recipe.outputs outputs)

  judged-stands : (e : Event) → Stands (judged c s e)
  judged-stands (create name size pairs) = go (find (λ m. same_name m.name name) c.recipes) refl
    where
      room : (m : Master) → Has c.recipes m → (t : Bool) → Stands (elim t [ true ↦ (refused full, s) | false ↦ binding s m size pairs ])
      room m h true = k
      room m h false = binding-stands m size pairs h

      go : (o : Option Master) → find (λ m. same_name m.name name) c.recipes ≡ o
          → Stands (elim o [ None ↦ (refused unknown_recipe, s) | Some m ↦ elim (is_full c s) [ true ↦ (refused full, s) | false ↦ binding s m size pairs ] ])
      go None e = k
      go (Some m) e = room m (find-Has (λ d. same_name d.name name) c.recipes m e) (is_full c s)
  judged-stands (order command n) = go (batch_at s n)
    where
      go : (o : Option Batch) → Stands (elim o [ None ↦ (refused unknown_batch, s) | Some b ↦ ordering s command b ])
      go None = k
      go (Some b) = ordering-stands command b
  judged-stands (remove n) = go (batch_at s n)
    where
      go : (o : Option Batch) → Stands (elim o [ None ↦ (refused unknown_batch, s) | Some b ↦ removing s b ])
      go None = k
      go (Some b) = removing-stands b
  judged-stands (report unit name word outputs) = go (live_phase s.batches unit name) refl
    where
      go : (o : Option LivePhase) → live_phase s.batches unit name ≡ o → Stands (elim o [ None ↦ (refused no_live_phase, s) | Some l ↦ reporting s unit name word (outputs_of word outputs) l ])
      go None e = k
      go (Some l) e =
          let found = live_phase-found s.batches unit name l e in reporting-stands unit name word (outputs_of word outputs) l found.0 found.1

-- a plant that stands does so after each event, which comes only if no move is possible
pub react-stands : (c : Setup) → HasPlacedTrees c → (s : Plant) → IsStanding c s → (e : Event) → IsStanding c (react c s e).1
react-stands c placed s k e = go (next c s) refl
  where
    go : (o : Option Move) → next c s ≡ o → (let answer : Answer = elim o [ Some m ↦ (refused moves_pending, s) | None ↦ judged c s e ] in IsStanding c answer.1)
    go None h = judged-stands c s k (settled-none c placed s k h) e
    go (Some m) h = k
