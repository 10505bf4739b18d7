-- A record is right about the units that are passed on or reserved, after every reply.
use Rattle.std.proofs.Common.{arith, ◌≡◌, ⊎_elim, refl, sym, ◌∙◌, ap, ap₂, subst, subst₂, ℕ, ◌≤◌, List, [], ◌∷◌, ◌++◌, Bool, true, false, not, nat_eq, map, find, Option, Some, None, inl, inr, bytes_eq}
use Rattle.batch_matrix.specs.{declared.command.Command.Command, declared.command.Command.TheVariants.Start, declared.command.Command.TheVariants.Pause, declared.command.Command.TheVariants.Resume, declared.command.Command.TheVariants.Hold, declared.command.Command.TheVariants.Restart, declared.command.Command.TheVariants.Stop, declared.command.Command.TheVariants.Abort, declared.command.Command.TheVariants.Reset, declared.report.ReportOutcome.ReportOutcome, declared.report.Report.Report, declared.state.State.State, declared.state.State.TheVariants.Idle, declared.state.State.TheVariants.Holding, Matrix.same_state, Matrix.accepts, Matrix.target, Matrix.after_report}
use Rattle.batch_matrix.specs.declared.command.Command.TheVariants as commands
use Rattle.batch_recipe.specs.{Conditions.Name, Conditions.ValueList, Tree.Place, Tree.Tree, Values.with_values, Values.are_outputs, Values.left_out}
use Rattle.batch_model.{specs.Cleared.Ranking, specs.Events.Event, specs.Events.create, specs.Events.order, specs.Events.remove, specs.Events.report, specs.Events.Refusal, specs.Events.Reply, specs.Events.created, specs.Events.ordered, specs.Events.removed, specs.Events.reported, specs.Events.refused, specs.Events.unknown_recipe, specs.Events.unknown_batch, specs.Events.command_not_accepted, specs.Events.no_live_phase, specs.Events.report_not_expected, specs.Events.bad_output, specs.Events.output_left_out, specs.Events.bad_binding, specs.Events.bad_size, specs.Events.bad_value, specs.Events.full, specs.Events.not_idle, specs.Events.moves_pending, specs.Events.no_memory, specs.Events.Answer, specs.Events.is_full, specs.Events.new_batch, specs.Events.with_batch, specs.Events.creating, specs.Events.creating_for, specs.Events.binding, specs.Events.is_binding, specs.Events.bound_by, specs.Events.roles_told, specs.Events.reset, specs.Events.commanded, specs.Events.lines_under, specs.Events.ordering, specs.Events.without_batch, specs.Events.removing, specs.Events.LivePhase, specs.Events.live_phase, specs.Events.phase_after, specs.Events.batch_state_after, specs.Events.outputs_of, specs.Events.batch_reported, specs.Events.owed, specs.Events.accepting, specs.Events.reporting, specs.Events.judged, specs.Events.react, specs.Lists.Has, specs.Lists.Each, specs.Moves.Move, specs.Moves.next, specs.Plant.Formula, specs.Plant.size_out_of_range, specs.Plant.value_out_of_range, specs.Plant.scaled, specs.Plant.Recipe, specs.Plant.Master, specs.Plant.Setup, specs.Plant.Batch, specs.Plant.Share, specs.Plant.Plant, specs.Plant.batch_at, specs.Plant.moment_of, specs.Plant.in_batch, specs.Rest.Rest, specs.Rest.changed_at, specs.Records.holders_told, specs.Runs.Out, specs.Runs.reply, specs.Runs.Reacts, specs.Runs.goes_on, specs.Standing.IsStanding, specs.Transfers.Kept, specs.Transfers.kept_until, specs.Transfers.passed_told, specs.Transfers.reserved_told, proofs.Members.Has-split, proofs.Members.Each-Has}
use Rattle.batch_record_laws.proofs.{Batches.only, Batches.same-batch, Batches.below-next, Batches.entry-of, Entries.nat_same, Entries.nat_self, Entries.Has-filter, Entries.Has-holders, Events.reset-rests, Events.reset-nothing, PlantFacts.facts, PlantFacts.early_facts, PlantFacts.batch_facts, PlantFacts.entries, PlantFacts.holding, PlantFacts.need, Invariant.IsKept, Invariant.standing-of, Invariant.numbers-of, Members.Has-map, BatchProgress.early-none, UnitProcedures.find-passes}
use Rattle.batch_safety.proofs.{KeptUnits.IsOfOther, KeptUnits.Holds, KeptUnits.passed_told-last, KeptUnits.reserved_told-last, KeptUnits.passed_told-others, KeptUnits.reserved_told-others, UnbegunActs.advance-unbegun, UnbegunActs.changed-unbegun, UnbegunActs.phase_after-unbegun, UnitsAfterMove.IsHeldFor, UnitsAfterMove.IsHeldByStep, UnitsAfterMove.IsStillKept, UnitsAfterMove.KeepsAs, UnitsAfterMove.KeepsIn, UnitsAfterMove.KeepsAll, UnitsAfterMove.keeps-on, UnitsAfterMove.other-keeps, UnitsAfterMove.still-fresh}

-- where nothing is told, nothing is to be kept
nothing-kept : (outs : List Out) (n : ℕ) (c : Tree) (r : Rest) (x : State) → (passed_told n outs ≡ []) × (reserved_told n c outs ≡ []) → KeepsAs outs n c r x
nothing-kept outs n c r x h = record {
  passed = subst (Each (IsHeldFor outs n c r)) (sym h.0) tt;
  reserved = subst (Each (IsStillKept outs n c r)) (sym h.1) tt;
  over = λ e. h;
}

-- a reply that is no command which ends that keeps all of a batch
reply-keeps : (outs : List Out) (r : Reply) (b : Batch) → IsOfOther b.number (reply r) → KeepsIn outs b → KeepsIn (outs ++ reply r ∷ []) b
reply-keeps outs r b other h = other-keeps outs (reply r) b other h

abbrev AnsweredBy : List Out → Answer → Type 0
AnsweredBy outs a = KeepsAll (outs ++ reply a.0 ∷ []) a.1

-- the batch with this number is changed
keeps-only : (outs : List Out) (o : Out) (s : Plant) (n : ℕ) (f : Batch → Batch)
    → ((b : Batch) → Has s.batches b → b.number ≡ n → KeepsIn (outs ++ o ∷ []) (f b)) → ((b : Batch) → Has s.batches b → (b.number ≡ n → ⊥) → KeepsIn (outs ++ o ∷ []) b)
    → (z : Batch) → Has (map (only n f) s.batches) z → KeepsIn (outs ++ o ∷ []) z
keeps-only outs o s n f own other z h =
    let w = Has-map (only n f) s.batches z h in
    subst (KeepsIn (outs ++ o ∷ [])) w.2 (go w.0 w.1 (nat_eq w.0.number n) refl)
  where
    differs : (b : Batch) → nat_eq b.number n ≡ false → b.number ≡ n → ⊥
    differs b e q = let bad : true ≡ false = sym (subst (λ m. nat_eq b.number m ≡ true) q (nat_self b.number)) ∙ e in cc

    go : (b : Batch) → Has s.batches b → (t : Bool) → nat_eq b.number n ≡ t → KeepsIn (outs ++ o ∷ []) (elim t [ true ↦ f b | false ↦ b ])
    go b i true e = own b i (nat_same b.number n e)
    go b i false e = other b i (differs b e)

-- States that a report leads to

still-off : (x : State) (t : Bool) → goes_on (elim t [ true ↦ Holding | false ↦ x ]) ≡ false → goes_on x ≡ false
still-off x true e = let bad : true ≡ false = e in absurd cc
still-off x false e = e

reported-off : (word : Report) (x : State) → goes_on (batch_state_after word x) ≡ false → goes_on x ≡ false
reported-off Report.Done x e = e
reported-off Report.Paused x e = e
reported-off Report.Held x e = e
reported-off Report.Running x e = e
reported-off Report.Stopped x e = e
reported-off Report.Aborted x e = e
reported-off Report.Fault x e = still-off x (accepts x commands.Hold) e

module _ (d : Setup) (rank : Ranking) (outs : List Out) (s : Plant) (sd : IsStanding d s) (k : IsKept d rank outs s) (all : KeepsAll outs s) where
  same-keeps : (r : Reply) → ((n : ℕ) → IsOfOther n (reply r)) → KeepsAll (outs ++ reply r ∷ []) s
  same-keeps r other = record {
    each = λ b h. reply-keeps outs r b (other b.number) (all.each b h);
    fresh = λ n le. still-fresh outs (reply r) n (other n) (all.fresh n le);
  }

  refused-keeps : (x : Refusal) → AnsweredBy outs (refused x, s)
  refused-keeps x = same-keeps (refused x) (λ n. tt)

  created-keeps : (r : Recipe) (name : Name) (size : ℕ) (told : List (Name × Name)) (vs : ValueList) → AnsweredBy outs (created s.next_number name size told, with_batch s r size vs)
  created-keeps r name size told vs =
      let o : Reply = created s.next_number name size told in
      let b : Batch = new_batch s.next_number r size vs in
      record {
        each = λ z h.
            ⊎_elim (λ m. reply-keeps outs o z tt (all.each z m))
            (λ m. ⊎_elim
            (λ e.
            subst (KeepsIn (outs ++ reply o ∷ [])) e
            (let w = still-fresh outs (reply o) s.next_number tt (all.fresh s.next_number (omega arith)) in
            nothing-kept (outs ++ reply o ∷ []) s.next_number r.procedure b.rest Idle (w.0, w.1 r.procedure)))
            (λ e. absurd e) m)
            (Has-split s.batches (b ∷ []) z h);
        fresh = λ n le. still-fresh outs (reply o) n tt (all.fresh n (omega (arith, le)));
      }

  removed-keeps : (n : ℕ) → AnsweredBy outs (removed n, without_batch n s)
  removed-keeps n = record {
    each = λ z h. reply-keeps outs (removed n) z tt (all.each z (Has-filter (λ b. not (nat_eq b.number n)) s.batches z h).0);
    fresh = λ m le. still-fresh outs (reply (removed n)) m tt (all.fresh m le);
  }

  -- Commands

  -- a batch that has no facts keeps nothing
  module _ (b : Batch) (i : Has s.batches b) (none : batch_facts b ≡ []) where
    holds-none : (unit : Name) (p : Place) → Holds outs unit b.number p → ⊥
    holds-none unit p h =
        let m = Has-map (λ (z : Share). z.act) (holders_told outs unit) (b.number, p) h in
        let e = entry-of s.batches m.0.act (holding (need unit m.0.units)) (Has-holders unit (entries s.batches) m.0 ((k.held unit).1 m.0 m.1)) in
        let same : e.0 ≡ b = same-batch s.next_number s.batches e.0 b (numbers-of d s sd) e.1 i (e.2 ∙ ap (λ z. z.0) m.2) in
        subst (λ xs. Has xs (m.0.act.1, holding (need unit m.0.units))) (ap batch_facts same ∙ none) e.3

    lists-none : (passed_told b.number outs ≡ []) × (reserved_told b.number b.recipe.procedure outs ≡ [])
    lists-none =
        let q = all.each b i in (
          empty (passed_told b.number outs)
              (λ kept h. let w = Each-Has (IsHeldFor outs b.number b.recipe.procedure b.rest) (passed_told b.number outs) kept q.passed h in holds-none kept.unit kept.place w.held),
          empty (reserved_told b.number b.recipe.procedure outs)
              (λ kept h.
              ⊎_elim (λ (w : IsHeldFor outs b.number b.recipe.procedure b.rest kept). holds-none kept.unit kept.place w.held)
              (λ (w : IsHeldByStep outs b.number b.recipe.procedure kept). holds-none kept.unit w.step.place w.held)
              (Each-Has (IsStillKept outs b.number b.recipe.procedure b.rest) (reserved_told b.number b.recipe.procedure outs) kept q.reserved h)),
        )
      where
        empty : (xs : List Kept) → ((kept : Kept) → Has xs kept → ⊥) → xs ≡ []
        empty [] h = refl
        empty (x ∷ xs) h = absurd (h x (inl refl))

  module _ (b : Batch) (i : Has s.batches b) where
    this : (z : Batch) → Has s.batches z → z.number ≡ b.number → b ≡ z
    this z h e = sym (same-batch s.next_number s.batches z b (numbers-of d s sd) h i e)

    -- a command that changes the state alone
    quiet-keeps : (c : Command) → ((n : ℕ) → IsOfOther n (reply (ordered c b.number (target c)))) → (goes_on (target c) ≡ false → ⊥)
        → (z : Batch) → Has (map (only b.number (λ w. record w { state = target c })) s.batches) z → KeepsIn (outs ++ reply (ordered c b.number (target c)) ∷ []) z
    quiet-keeps c other on =
        let o : Out = reply (ordered c b.number (target c)) in
        keeps-only outs o s b.number (λ w. record w { state = target c })
        (λ w h e.
        keeps-on outs o w.number w.recipe.procedure w.rest w.rest (λ unit p t. t) w.state (target c)
        (passed_told-others w.number outs o (other w.number)) (reserved_told-others w.number w.recipe.procedure outs o (other w.number))
        (λ p u. u) (λ f. absurd (on f)) (all.each w h))
        (λ w h e. reply-keeps outs (ordered c b.number (target c)) w (other w.number) (all.each w h))

    -- a command that ends the keeping of units
    ended-keeps : (c : Command) (f : Batch → Batch) → ((w : Batch) → (f w).number ≡ w.number) → ((w : Batch) → (f w).recipe ≡ w.recipe)
        → ((n : ℕ) → (b.number ≡ n → ⊥) → IsOfOther n (reply (ordered c b.number (target c))))
        → ((n : ℕ) (kept : List Kept) → kept_until n kept (reply (ordered c b.number (target c))) ≡ elim (nat_eq b.number n) [ true ↦ [] | false ↦ kept ])
        → (z : Batch) → Has (map (only b.number f) s.batches) z → KeepsIn (outs ++ reply (ordered c b.number (target c)) ∷ []) z
    ended-keeps c f number recipe other ends =
        let o : Out = reply (ordered c b.number (target c)) in
        keeps-only outs o s b.number f
        (λ w h e.
        nothing-kept (outs ++ o ∷ []) (f w).number (f w).recipe.procedure (f w).rest (f w).state (
          passed_told-last (f w).number outs o ∙ over (f w).number (passed_told (f w).number outs) (sym (number w ∙ e)),
          reserved_told-last (f w).number (f w).recipe.procedure outs o ∙ over (f w).number (reserved_told (f w).number (f w).recipe.procedure outs) (sym (number w ∙ e)),
        ))
        (λ w h e. reply-keeps outs (ordered c b.number (target c)) w (other w.number (λ q. e (sym q))) (all.each w h))
      where
        over : (n : ℕ) (kept : List Kept) → b.number ≡ n → kept_until n kept (reply (ordered c b.number (target c))) ≡ []
        over n kept e = ends n kept ∙ ap (λ t. elim t [ true ↦ [] | false ↦ kept ]) (subst (λ m. nat_eq b.number m ≡ true) e (nat_self b.number))

    reset-keeps : accepts b.state Reset ≡ true → (z : Batch) → Has (map (only b.number reset) s.batches) z → KeepsIn (outs ++ reply (ordered Reset b.number Idle) ∷ []) z
    reset-keeps e =
        let o : Out = reply (ordered Reset b.number Idle) in
        let none : batch_facts b ≡ []
        = ap₂ (λ xs ys. early_facts xs ++ ys) (early-none d b (standing-of d s sd b i) (reset-rests b.state e)) (reset-nothing b.state (facts b.rest) e (k.sound b i).fits) in
        let lists = lists-none b i none in
        let made : KeepsIn (outs ++ o ∷ []) (reset b)
        = nothing-kept (outs ++ o ∷ []) b.number b.recipe.procedure (reset b).rest Idle (
          passed_told-others b.number outs o tt ∙ lists.0,
          reserved_told-others b.number b.recipe.procedure outs o tt ∙ lists.1,
        ) in
        keeps-only outs o s b.number reset (λ w h q. subst (λ y. KeepsIn (outs ++ o ∷ []) (reset y)) (this w h q) made)
        (λ w h q. reply-keeps outs (ordered Reset b.number Idle) w tt (all.each w h))

    with-fresh : (c : Command) (f : Batch → Batch) → ((n : ℕ) → s.next_number ≤ n → IsOfOther n (reply (ordered c b.number (target c))))
        → ((z : Batch) → Has (map (only b.number f) s.batches) z → KeepsIn (outs ++ reply (ordered c b.number (target c)) ∷ []) z)
        → KeepsAll (outs ++ reply (ordered c b.number (target c)) ∷ []) (record (in_batch b.number f s) { line = lines_under c b.number s.line })
    with-fresh c f other each = record {
      each = each;
      fresh = λ n le. still-fresh outs (reply (ordered c b.number (target c))) n (other n le) (all.fresh n le);
    }

    new-number : (n : ℕ) → s.next_number ≤ n → b.number ≡ n → ⊥
    new-number n le e = let less = below-next s.next_number s.batches b (numbers-of d s sd) i in omega (arith, less, le, e)

    ordered-keeps : (c : Command) → accepts b.state c ≡ true → AnsweredBy outs (ordered c b.number (target c), record (in_batch b.number (commanded c) s) { line = lines_under c b.number s.line })
    ordered-keeps Start e = with-fresh Start (commanded Start) (λ n le. tt) (quiet-keeps Start (λ n. tt) (λ f. let bad : true ≡ false = f in cc))
    ordered-keeps Pause e = with-fresh Pause (commanded Pause) (λ n le. tt) (quiet-keeps Pause (λ n. tt) (λ f. let bad : true ≡ false = f in cc))
    ordered-keeps Resume e = with-fresh Resume (commanded Resume) (λ n le. tt) (quiet-keeps Resume (λ n. tt) (λ f. let bad : true ≡ false = f in cc))
    ordered-keeps Hold e = with-fresh Hold (commanded Hold) (λ n le. tt) (quiet-keeps Hold (λ n. tt) (λ f. let bad : true ≡ false = f in cc))
    ordered-keeps Restart e = with-fresh Restart (commanded Restart) (λ n le. tt) (quiet-keeps Restart (λ n. tt) (λ f. let bad : true ≡ false = f in cc))
    ordered-keeps Stop e = with-fresh Stop (commanded Stop) (λ n le. new-number n le) (ended-keeps Stop (commanded Stop) (λ w. refl) (λ w. refl) (λ n not_so. not_so) (λ n kept. refl))
    ordered-keeps Abort e = with-fresh Abort (commanded Abort) (λ n le. new-number n le) (ended-keeps Abort (commanded Abort) (λ w. refl) (λ w. refl) (λ n not_so. not_so) (λ n kept. refl))
    ordered-keeps Reset e = with-fresh Reset (commanded Reset) (λ n le. tt) (reset-keeps e)

    ordering-keeps : (c : Command) → AnsweredBy outs (ordering s c b)
    ordering-keeps c = go (accepts b.state c) refl
      where
        go : (t : Bool) → accepts b.state c ≡ t
            → AnsweredBy outs
            (elim t [
              | false ↦ (refused (command_not_accepted b.state), s)
              | true ↦ (ordered c b.number (target c), record (in_batch b.number (commanded c) s) { line = lines_under c b.number s.line })
            ])
        go false e = refused-keeps (command_not_accepted b.state)
        go true e = ordered-keeps c e

    removing-keeps : AnsweredBy outs (removing s b)
    removing-keeps = go (same_state b.state Idle)
      where
        go : (t : Bool) → AnsweredBy outs (elim t [ true ↦ (removed b.number, without_batch b.number s) | false ↦ (refused (not_idle b.state), s) ])
        go true = removed-keeps b.number
        go false = refused-keeps (not_idle b.state)

  -- Reports

  reported-keeps : (unit name : Name) (word : Report) (outputs : ValueList) (n : ℕ) (p : Place) (e : ReportOutcome) (x : State)
      → AnsweredBy outs (reported unit name word n p x, in_batch n (batch_reported word outputs p e) s)
  reported-keeps unit name word outputs n p e x =
      let r : Reply = reported unit name word n p x in
      record {
        each = keeps-only outs (reply r) s n (batch_reported word outputs p e)
            (λ b h q.
            let later : Batch = batch_reported word outputs p e b in
            keeps-on outs (reply r) b.number b.recipe.procedure b.rest later.rest (λ at m t. t) b.state (batch_state_after word b.state)
            (passed_told-others b.number outs (reply r) tt) (reserved_told-others b.number b.recipe.procedure outs (reply r) tt)
            (λ at u.
            advance-unbegun at (moment_of (record b { values = with_values outputs b.values; state = batch_state_after word b.state })) (changed_at p (phase_after e) b.rest)
            (changed-unbegun at p (phase_after e) (λ a same. phase_after-unbegun at e a) b.rest u))
            (reported-off word b.state) (all.each b h))
            (λ b h q. reply-keeps outs r b tt (all.each b h));
        fresh = λ m le. still-fresh outs (reply r) m tt (all.fresh m le);
      }

  reporting-keeps : (unit name : Name) (word : Report) (outputs : ValueList) (l : LivePhase) → AnsweredBy outs (reporting s unit name word outputs l)
  reporting-keeps unit name word outputs l = go (after_report l.state word)
    where
      accepted : (e : ReportOutcome) (o : Option Name) → AnsweredBy outs (accepting s unit name word outputs l e o)
      accepted e (Some output) = refused-keeps (output_left_out output)
      accepted e None = reported-keeps unit name word outputs l.batch.number l.place e (batch_state_after word l.batch.state)

      outs_of : (e : ReportOutcome) (t : Bool)
          → AnsweredBy outs (elim t [ false ↦ (refused bad_output, s) | true ↦ accepting s unit name word outputs l e (left_out (owed l.state word l.phase.reports) outputs) ])
      outs_of e false = refused-keeps bad_output
      outs_of e true = accepted e (left_out (owed l.state word l.phase.reports) outputs)

      go : (o : Option ReportOutcome)
          → AnsweredBy outs
          (elim o [
            | None ↦ (refused (report_not_expected l.state), s)
            | Some e ↦
                elim (are_outputs l.batch.recipe.outputs outputs) [
                  | false ↦ (refused bad_output, s)
                  | true ↦ accepting s unit name word outputs l e (left_out (owed l.state word l.phase.reports) outputs)
                ]
          ])
      go None = refused-keeps (report_not_expected l.state)
      go (Some e) = outs_of e (are_outputs l.batch.recipe.outputs outputs)

  -- Events

  creating-keeps : (r : Recipe) (size : ℕ) (told : List (Name × Name)) (f : Formula) → AnsweredBy outs (creating s r size told f)
  creating-keeps r size told size_out_of_range = refused-keeps bad_size
  creating-keeps r size told (value_out_of_range name) = refused-keeps (bad_value name)
  creating-keeps r size told (scaled vs) = created-keeps r r.name size told vs

  binding-keeps : (m : Master) (size : ℕ) (pairs : List (Name × Name)) → AnsweredBy outs (binding s m size pairs)
  binding-keeps m size pairs = go (is_binding m.roles pairs)
    where
      go : (t : Bool) → AnsweredBy outs (elim t [ false ↦ (refused bad_binding, s) | true ↦ creating_for s m size (bound_by pairs) ])
      go false = refused-keeps bad_binding
      go true = let r : Recipe = m.control (bound_by pairs) in creating-keeps r size (roles_told m.roles (bound_by pairs)) (r.formula size)

  judged-keeps : (e : Event) → AnsweredBy outs (judged d s e)
  judged-keeps (create name size pairs) = go (find (λ m. bytes_eq m.name name) d.recipes)
    where
      room : (m : Master) (t : Bool) → AnsweredBy outs (elim t [ true ↦ (refused full, s) | false ↦ binding s m size pairs ])
      room m true = refused-keeps full
      room m false = binding-keeps m size pairs

      go : (o : Option Master) → AnsweredBy outs (elim o [ None ↦ (refused unknown_recipe, s) | Some m ↦ elim (is_full d s) [ true ↦ (refused full, s) | false ↦ binding s m size pairs ] ])
      go None = refused-keeps unknown_recipe
      go (Some m) = room m (is_full d s)
  judged-keeps (order command n) = go (batch_at s n) refl
    where
      go : (o : Option Batch) → batch_at s n ≡ o → AnsweredBy outs (elim o [ None ↦ (refused unknown_batch, s) | Some b ↦ ordering s command b ])
      go None q = refused-keeps unknown_batch
      go (Some b) q = ordering-keeps b ((find-passes (λ b. nat_eq b.number n) s.batches b q).0) command
  judged-keeps (remove n) = go (batch_at s n) refl
    where
      go : (o : Option Batch) → batch_at s n ≡ o → AnsweredBy outs (elim o [ None ↦ (refused unknown_batch, s) | Some b ↦ removing s b ])
      go None q = refused-keeps unknown_batch
      go (Some b) q = removing-keeps b ((find-passes (λ b. nat_eq b.number n) s.batches b q).0)
  judged-keeps (report unit name word outputs) = go (live_phase s.batches unit name)
    where
      go : (o : Option LivePhase) → AnsweredBy outs (elim o [ None ↦ (refused no_live_phase, s) | Some l ↦ reporting s unit name word (outputs_of word outputs) l ])
      go None = refused-keeps no_live_phase
      go (Some l) = reporting-keeps unit name word (outputs_of word outputs) l

  react-keeps : (e : Event) → AnsweredBy outs (react d s e)
  react-keeps e = go (next d s)
    where
      go : (o : Option Move) → AnsweredBy outs (elim o [ Some m ↦ (refused moves_pending, s) | None ↦ judged d s e ])
      go (Some m) = refused-keeps moves_pending
      go None = judged-keeps e

  pub reply-keeps_all : (e : Event) (r : Reply) (t : Plant) → Reacts d s e r t → KeepsAll (outs ++ reply r ∷ []) t
  reply-keeps_all e r t (inl q) = subst (AnsweredBy outs) q (react-keeps e)
  reply-keeps_all e r t (inr q) = subst₂ (λ y z. KeepsAll (outs ++ reply y ∷ []) z) (sym q.1) (sym q.2) (refused-keeps no_memory)
