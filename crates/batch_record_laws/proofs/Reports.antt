-- Each report keeps the invariant, and so does each event.
use Rattle.std.proofs.Common.{arith, ◌≡◌, refl, sym, ◌∙◌, ap, subst, subst₂, ℕ, List, [], ◌∷◌, ◌++◌, Bool, true, false, ◌&&◌, find, Option, Some, None, inl, inr, nat_eq, length, bytes_eq}
use Rattle.batch_matrix.specs.{declared.state.State.State, declared.state.State.TheVariants.Holding, declared.command.Command.TheVariants.Hold, declared.report.Report.Report, declared.report.ReportOutcome.ReportOutcome, declared.report.ReportOutcome.TheVariants.Ended, declared.report.ReportOutcome.TheVariants.Now, declared.report.ReportOutcome.TheVariants.Same, Matrix.accepts, Matrix.after_report}
use Rattle.std.{specs.Option.option_or, proofs.lemmas.List.append-nil}
use Rattle.batch_model.{specs.Lists.Has, specs.Rest.Rest, specs.Rest.ready, specs.Rest.asking, specs.Rest.open_act, specs.Rest.live, specs.Rest.freeing, specs.Rest.in_seq, specs.Rest.in_par, specs.Rest.in_loop, specs.Rest.done, specs.Rest.acts, specs.Rest.place_of, specs.Rest.changed_at, specs.Plant.Formula, specs.Plant.size_out_of_range, specs.Plant.value_out_of_range, specs.Plant.scaled, specs.Plant.Recipe, specs.Plant.Master, specs.Plant.Setup, specs.Plant.Batch, specs.Plant.Plant, specs.Plant.batch_at, specs.Plant.in_batch, specs.Moves.Move, specs.Moves.ended, specs.Moves.next, specs.Events.Event, specs.Events.create, specs.Events.order, specs.Events.remove, specs.Events.report, specs.Events.Reply, specs.Events.reported, specs.Events.refused, specs.Events.unknown_recipe, specs.Events.bad_binding, specs.Events.binding, specs.Events.is_binding, specs.Events.bound_by, specs.Events.roles_told, specs.Events.creating_for, specs.Events.unknown_batch, specs.Events.no_live_phase, specs.Events.report_not_expected, specs.Events.bad_output, specs.Events.output_left_out, specs.Events.owed, specs.Events.accepting, specs.Events.bad_size, specs.Events.bad_value, specs.Events.full, specs.Events.moves_pending, specs.Events.no_memory, specs.Events.is_full, specs.Events.creating, specs.Events.ordering, specs.Events.removing, specs.Events.LivePhase, specs.Events.live_in, specs.Events.live_phase, specs.Events.phase_after, specs.Events.batch_state_after, specs.Events.outputs_of, specs.Events.batch_reported, specs.Events.reporting, specs.Events.judged, specs.Events.react, specs.Runs.Out, specs.Runs.reply, specs.Runs.Reacts, specs.Records.Active, specs.Records.active_after, specs.Records.ends_phase, proofs.Members.Each-Has, specs.Cleared.Ranking, specs.Standing.IsAwaited, specs.Standing.IsControl, specs.Standing.IsStandingBatch, specs.Standing.IsStanding}
use Rattle.batch_recipe.specs.{Conditions.Name, Conditions.ValueList, Tree.Place, Tree.Phase, Tree.Step, Values.with_values, Values.are_outputs, Values.left_out}
use Rattle.batch_record_laws.proofs.{PlantFacts.Standing, PlantFacts.held_at, PlantFacts.facts, PlantFacts.early_facts, DuePlaces.awaited-nowhere, EffectsOnActs.stays-steady, EffectsOnActs.stays-tidy, EffectsOnActs.phase_after-stays, BatchProgress.kept-on, BatchProgress.is_under_way, BatchProgress.early-none, ClearanceDownTrees.AreClearedDown, Invariant.IsFitting, Invariant.IsSound, Invariant.IsKept, Invariant.standing-of, ActChanges.changed_plant, ActChanges.IsChange, ActChanges.change-sound, InvariantAfterChange.kept-quiet, InvariantAfterChange.kept-finished, InvariantAfterChange.act_frame, InvariantAfterChange.TellsState, ActMoves.freed-facts, ActMoves.take-length, Events.Answered, Events.kept-refused, Events.kept-created, Events.ordering-step, Events.removing-step, InvariantAfterMove.tells-other, InvariantAfterMove.tells-own, UnitProcedures.find-passes}
use Rattle.batch_step_laws.proofs.RestsAfterChange.{RemainsAs, phase_after-remains}

-- Reports

ended-word : (t : State) (word : Report) → after_report t word ≡ Some Ended → ends_phase word ≡ true
ended-word t word e = grind arith

now-word : (t y : State) (word : Report) → after_report t word ≡ Some (Now y) → ends_phase word ≡ false
now-word t y word e = grind arith

same-word : (t : State) (word : Report) → after_report t word ≡ Some Same → ends_phase word ≡ false
same-word t word e = grind arith

ended-state : (word : Report) (x : State) → ends_phase word ≡ true → batch_state_after word x ≡ x
ended-state word x e = grind arith

fit-fault : (x : State) (es : List Standing) (t : Bool) → IsFitting x es → IsFitting (elim t [ true ↦ Holding | false ↦ x ]) es
fit-fault x es true h = tt
fit-fault x es false h = h

fit-reported : (word : Report) (x : State) (es : List Standing) → IsFitting x es → IsFitting (batch_state_after word x) es
fit-reported Report.Done x es h = h
fit-reported Report.Paused x es h = h
fit-reported Report.Held x es h = h
fit-reported Report.Running x es h = h
fit-reported Report.Stopped x es h = h
fit-reported Report.Aborted x es h = h
fit-reported Report.Fault x es h = fit-fault x es (accepts x Hold) h

-- a batch that isn't under way after a report wasn't before
under_way-fault : (x : State) (t : Bool) → is_under_way (elim t [ true ↦ Holding | false ↦ x ]) ≡ false → is_under_way x ≡ false
under_way-fault x true e = let bad : true ≡ false = e in absurd cc
under_way-fault x false e = e

under_way-before : (word : Report) (x : State) → is_under_way (batch_state_after word x) ≡ false → is_under_way x ≡ false
under_way-before Report.Done x e = e
under_way-before Report.Paused x e = e
under_way-before Report.Held x e = e
under_way-before Report.Running x e = e
under_way-before Report.Stopped x e = e
under_way-before Report.Aborted x e = e
under_way-before Report.Fault x e = under_way-fault x (accepts x Hold) e

-- A live phase that is found

abbrev IsFound : Batch → List Rest → LivePhase → Type 0
IsFound b as' l = (p : Step) × (x : Phase) × Has as' (live p x l.state) × (p.place ≡ l.place) × (l.batch ≡ b)

found-later : (b : Batch) (a : Rest) (as' : List Rest) (l : LivePhase) → IsFound b as' l → IsFound b (a ∷ as') l
found-later b a as' l h = (h.0, h.1, inr h.2, h.3, h.4)

live_in-found : (b : Batch) (unit name : Name) (as' : List Rest) (l : LivePhase) → live_in b unit name as' ≡ Some l → IsFound b as' l
live_in-found b unit name [] l e = absurd cc
live_in-found b unit name (live p x t ∷ as') l e = go (bytes_eq x.unit unit && bytes_eq x.name name) e (live_in-found b unit name as' l)
  where
    same : (y z : LivePhase) → ◌≡◌ {A = Option LivePhase} (Some y) (Some z) → y ≡ z
    same y z q = cc

    go : (u : Bool) → ◌≡◌ {A = Option LivePhase} (elim u [ true ↦ Some (record { batch = b; place = p.place; phase = x; state = t }) | false ↦ live_in b unit name as' ]) (Some l)
        → (live_in b unit name as' ≡ Some l → IsFound b as' l) → IsFound b (live p x t ∷ as') l
    go true q f =
        let w : record { batch = b; place = p.place; phase = x; state = t } ≡ l = same (record { batch = b; place = p.place; phase = x; state = t }) l q in
        subst (IsFound b (live p x t ∷ as')) w (p, x, inl refl, refl, refl)
    go false q f = found-later b (live p x t) as' l (f q)
live_in-found b unit name (ready p w n ∷ as') l e = found-later b (ready p w n) as' l (live_in-found b unit name as' l e)
live_in-found b unit name (asking p w n ∷ as') l e = found-later b (asking p w n) as' l (live_in-found b unit name as' l e)
live_in-found b unit name (open_act p r ∷ as') l e = found-later b (open_act p r) as' l (live_in-found b unit name as' l e)
live_in-found b unit name (freeing p n ∷ as') l e = found-later b (freeing p n) as' l (live_in-found b unit name as' l e)
live_in-found b unit name (in_seq r cs ∷ as') l e = found-later b (in_seq r cs) as' l (live_in-found b unit name as' l e)
live_in-found b unit name (in_par rs ∷ as') l e = found-later b (in_par rs) as' l (live_in-found b unit name as' l e)
live_in-found b unit name (in_loop n c body r ∷ as') l e = found-later b (in_loop n c body r) as' l (live_in-found b unit name as' l e)
live_in-found b unit name (done ∷ as') l e = found-later b done as' l (live_in-found b unit name as' l e)

live_phase-found : (bs : List Batch) (unit name : Name) (l : LivePhase) → live_phase bs unit name ≡ Some l → (b : Batch) × Has bs b × IsFound b (acts b.rest) l
live_phase-found [] unit name l e = absurd cc
live_phase-found (b ∷ bs) unit name l e = go (live_in b unit name (acts b.rest)) refl e (live_phase-found bs unit name l)
  where
    same : (y z : LivePhase) → ◌≡◌ {A = Option LivePhase} (Some y) (Some z) → y ≡ z
    same y z q = cc

    go : (o : Option LivePhase) → live_in b unit name (acts b.rest) ≡ o → option_or o (live_phase bs unit name) ≡ Some l
        → (live_phase bs unit name ≡ Some l → (c : Batch) × Has bs c × IsFound c (acts c.rest) l) → (c : Batch) × Has (b ∷ bs) c × IsFound c (acts c.rest) l
    go (Some y) q f h = (b, inl refl, live_in-found b unit name (acts b.rest) l (q ∙ f))
    go None q f h = let m = h f in (m.0, inr m.1, m.2)

not_ending : (word : Report) (unit name : Name) (n : ℕ) (p : Place) (x : State) (xs : List Active) → ends_phase word ≡ false → active_after xs (reply (reported unit name word n p x)) ≡ xs
not_ending word unit name n p x xs e = grind arith

module _ (d : Setup) (rank : Ranking) (outs : List Out) (s : Plant) (sd : IsStanding d s) (k : IsKept d rank outs s) (b : Batch) (i : Has s.batches b)
    (unit name : Name) (word : Report) (outputs : ValueList) (p : Step) (x : Phase) (t : State) (j : Has (acts b.rest) (live p x t)) where
  abbrev then_state : State
  then_state = batch_state_after word b.state

  tells : TellsState (reply (reported unit name word b.number p.place then_state)) b.number b.state then_state
  tells = (λ m old q. tells-other b.number m (Some then_state) old q, tells-own b.number (Some then_state) (Some b.state))

  -- the batch to which the phase has reported, before its charts go on
  abbrev told : (Rest → Rest) → Batch → Batch
  told f z = record z { values = with_values outputs z.values; state = batch_state_after word z.state; rest = changed_at p.place f z.rest }

  change : (f : Rest → Rest) → IsChange b (live p x t) (told f) f
  change f = record { number = refl; recipe = refl; changed = refl; early = refl }

  fine : IsSound d rank b
  fine = k.sound b i

  here : IsStandingBatch d b
  here = standing-of d s sd b i

  only_act : (e : ReportOutcome) → (a : Rest) → Has (acts b.rest) a → place_of a ≡ p.place → RemainsAs a (phase_after e a)
  only_act e a j' q = phase_after-remains e a

  -- it goes on from there
  gone_on : (o : List Out) (e : ReportOutcome) → IsKept d rank o (changed_plant s b.number (told (phase_after e)) s.line) → IsKept d rank o (changed_plant s b.number (batch_reported word outputs p.place e) s.line)
  gone_on o e =
      kept-on d rank o s sd b i fine here p.place (λ moment. phase_after e) (with_values outputs b.values) b.in_advance (told (phase_after e)) (batch_reported word outputs p.place e)
      (record { number = refl; changed = refl; early = refl; same_number = refl; same_recipe = refl; same_state = refl; advanced = refl; left = refl })
      (record {
        apart = fine.apart;
        units = fine.units;
        nowhere = λ held h. awaited-nowhere b.recipe.procedure b.rest fine.cleared.placed here.stands held.place (Each-Has (λ held. IsAwaited b.rest held.place) b.in_advance held here.awaited h);
      })
      (stays-steady (phase_after e) (phase_after-stays e)) (stays-tidy (phase_after e) (phase_after-stays e)) (only_act e)
      (λ z. early-none d b here (under_way-before word b.state z)) s.line

  -- a report that leaves the phase live
  kept-reported : (e : ReportOutcome) → facts (phase_after e (live p x t)) ≡ facts (live p x t) → ends_phase word ≡ false
      → IsKept d rank (outs ++ reply (reported unit name word b.number p.place then_state) ∷ []) (changed_plant s b.number (batch_reported word outputs p.place e) s.line)
  kept-reported e same ends =
      let f : Rest → Rest = phase_after e in
      let g : Batch → Batch = told f in
      let fr = act_frame d rank outs s sd k b i (live p x t) j g f (change f) in
      let quiet : facts (g b).rest ≡ facts b.rest = fr.3 f ∙ ap (λ z. fr.0 ++ (z ++ fr.1)) same ∙ sym fr.2 in
      gone_on (outs ++ reply (reported unit name word b.number p.place then_state) ∷ []) e
      (kept-quiet d rank outs s sd k b i (reply (reported unit name word b.number p.place then_state)) g refl
      (change-sound d rank b (live p x t) g f fine (change f)
      (fit-reported word b.state (facts (g b).rest) (subst (IsFitting b.state) (sym quiet) fine.fits)))
      (ap (λ z. early_facts b.in_advance ++ z) quiet) tells (λ q hs. refl) (λ q ws. refl) (λ xs. not_ending word unit name b.number p.place then_state xs ends))

  reported-step : (e : ReportOutcome) → after_report t word ≡ Some e
      → IsKept d rank (outs ++ reply (reported unit name word b.number p.place then_state) ∷ []) (changed_plant s b.number (batch_reported word outputs p.place e) s.line)
  reported-step Ended q =
      let ends : ends_phase word ≡ true = ended-word t word q in
      gone_on (outs ++ reply (reported unit name word b.number p.place then_state) ∷ []) Ended
      (kept-finished d rank outs s sd k b i (live p x t) j (told (phase_after Ended)) ended (change ended)
      p.needs x unit name word then_state
      (record { was = refl; is = freed-facts p (length p.needs) ∙ ap (held_at p.place) (take-length p.needs) ∙ sym (append-nil (held_at p.place p.needs)) })
      ends (ended-state word b.state ends) tells)
  reported-step (Now y) q = kept-reported (Now y) refl (now-word t y word q)
  reported-step Same q = kept-reported Same refl (same-word t word q)

module _ (d : Setup) (rank : Ranking) (cleared : AreClearedDown d rank) (outs : List Out) (s : Plant) (sd : IsStanding d s) (k : IsKept d rank outs s) where
  reporting-step : (unit name : Name) (word : Report) (outputs : ValueList) (b : Batch) → Has s.batches b → (l : LivePhase) → IsFound b (acts b.rest) l
      → Answered d rank outs (reporting s unit name word outputs l)
  reporting-step unit name word outputs b i l h = go (after_report l.state word) refl
    where
      at_place : (e : ReportOutcome) → after_report l.state word ≡ Some e
          → Answered d rank outs (reported unit name word l.batch.number l.place (batch_state_after word l.batch.state), in_batch l.batch.number (batch_reported word outputs l.place e) s)
      at_place e q =
          subst (λ z. Answered d rank outs (reported unit name word z.number l.place (batch_state_after word z.state), in_batch z.number (batch_reported word outputs l.place e) s)) (sym h.4)
          (subst (λ z. Answered d rank outs (reported unit name word b.number z (batch_state_after word b.state), in_batch b.number (batch_reported word outputs z e) s)) h.3
          (reported-step d rank outs s sd k b i unit name word outputs h.0 h.1 l.state h.2 e q))

      accepted : (e : ReportOutcome) → after_report l.state word ≡ Some e → (o : Option Name) → Answered d rank outs (accepting s unit name word outputs l e o)
      accepted e q (Some output) = kept-refused d rank outs s (output_left_out output) k
      accepted e q None = at_place e q

      outs_of : (e : ReportOutcome) → after_report l.state word ≡ Some e → (t : Bool)
          → Answered d rank outs (elim t [ false ↦ (refused bad_output, s) | true ↦ accepting s unit name word outputs l e (left_out (owed l.state word l.phase.reports) outputs) ])
      outs_of e q false = kept-refused d rank outs s bad_output k
      outs_of e q true = accepted e q (left_out (owed l.state word l.phase.reports) outputs)

      go : (o : Option ReportOutcome) → after_report l.state word ≡ o
          → Answered d rank outs
          (elim o [
            | None ↦ (refused (report_not_expected l.state), s)
            | Some e ↦
                elim (are_outputs l.batch.recipe.outputs outputs) [
                  | false ↦ (refused bad_output, s)
                  | true ↦ accepting s unit name word outputs l e (left_out (owed l.state word l.phase.reports) outputs)
                ]
          ])
      go None q = kept-refused d rank outs s (report_not_expected l.state) k
      go (Some e) q = outs_of e q (are_outputs l.batch.recipe.outputs outputs)

  creating-step : (r : Recipe) (size : ℕ) (told : List (Name × Name)) → IsControl d r → (f : Formula) → Answered d rank outs (creating s r size told f)
  creating-step r size told h size_out_of_range = kept-refused d rank outs s bad_size k
  creating-step r size told h (value_out_of_range name) = kept-refused d rank outs s (bad_value name) k
  creating-step r size told h (scaled vs) = kept-created d rank outs s r r.name size told vs (cleared.recipes r h) sd k

  binding-step : (m : Master) (size : ℕ) (pairs : List (Name × Name)) → Has d.recipes m → Answered d rank outs (binding s m size pairs)
  binding-step m size pairs h = go (is_binding m.roles pairs) refl
    where
      go : (t : Bool) → is_binding m.roles pairs ≡ t
          → Answered d rank outs (elim t [ false ↦ (refused bad_binding, s) | true ↦ creating_for s m size (bound_by pairs) ])
      go false e = kept-refused d rank outs s bad_binding k
      go true e =
          let r : Recipe = m.control (bound_by pairs) in
          creating-step r size (roles_told m.roles (bound_by pairs)) (m, h, (pairs, e, refl)) (r.formula size)

  judged-step : (e : Event) → Answered d rank outs (judged d s e)
  judged-step (create name size pairs) = go (find (λ m. bytes_eq m.name name) d.recipes) refl
    where
      room : (m : Master) → Has d.recipes m → (t : Bool) → Answered d rank outs (elim t [ true ↦ (refused full, s) | false ↦ binding s m size pairs ])
      room m h true = kept-refused d rank outs s full k
      room m h false = binding-step m size pairs h

      go : (o : Option Master) → find (λ m. bytes_eq m.name name) d.recipes ≡ o
          → Answered d rank outs (elim o [ None ↦ (refused unknown_recipe, s) | Some m ↦ elim (is_full d s) [ true ↦ (refused full, s) | false ↦ binding s m size pairs ] ])
      go None q = kept-refused d rank outs s unknown_recipe k
      go (Some m) q = room m ((find-passes (λ m. bytes_eq m.name name) d.recipes m q).0) (is_full d s)
  judged-step (order command n) = go (batch_at s n) refl
    where
      go : (o : Option Batch) → batch_at s n ≡ o → Answered d rank outs (elim o [ None ↦ (refused unknown_batch, s) | Some b ↦ ordering s command b ])
      go None q = kept-refused d rank outs s unknown_batch k
      go (Some b) q = ordering-step d rank outs s sd k b ((find-passes (λ b. nat_eq b.number n) s.batches b q).0) command
  judged-step (remove n) = go (batch_at s n) refl
    where
      go : (o : Option Batch) → batch_at s n ≡ o → Answered d rank outs (elim o [ None ↦ (refused unknown_batch, s) | Some b ↦ removing s b ])
      go None q = kept-refused d rank outs s unknown_batch k
      go (Some b) q = removing-step d rank outs s sd k b ((find-passes (λ b. nat_eq b.number n) s.batches b q).0)
  judged-step (report unit name word outputs) = go (live_phase s.batches unit name) refl
    where
      go : (o : Option LivePhase) → live_phase s.batches unit name ≡ o
          → Answered d rank outs (elim o [ None ↦ (refused no_live_phase, s) | Some l ↦ reporting s unit name word (outputs_of word outputs) l ])
      go None q = kept-refused d rank outs s no_live_phase k
      go (Some l) q = let m = live_phase-found s.batches unit name l q in reporting-step unit name word (outputs_of word outputs) m.0 m.1 l m.2

  react-step : (e : Event) → Answered d rank outs (react d s e)
  react-step e = go (next d s)
    where
      go : (o : Option Move) → Answered d rank outs (elim o [ Some m ↦ (refused moves_pending, s) | None ↦ judged d s e ])
      go (Some m) = kept-refused d rank outs s moves_pending k
      go None = judged-step e

  -- every reply keeps the invariant
  pub reply-step : (e : Event) (r : Reply) (t : Plant) → Reacts d s e r t → IsKept d rank (outs ++ reply r ∷ []) t
  reply-step e r t (inl q) = subst (Answered d rank outs) q (react-step e)
  reply-step e r t (inr q) = subst₂ (λ y z. IsKept d rank (outs ++ reply y ∷ []) z) (sym q.1) (sym q.2) (kept-refused d rank outs s no_memory k)
