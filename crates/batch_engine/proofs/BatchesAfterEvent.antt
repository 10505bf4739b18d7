-- Events: which batches stay as they are, how many there are, and whom the plant serves after them.
use Rattle.std.proofs.Common.{◌≡◌, ⊎_elim, refl, sym, ◌∙◌, ap, subst, ℕ, ◌<◌, ◌≤◌, ◌||◌, List, [], ◌∷◌, ◌++◌, Bool, true, false, not, map, find, Option, Some, None, inl, inr, length, nat_eq, nat_lt, arith}
use Rattle.std.{specs.Prelude.nat_le, proofs.lemmas.List.length-append, proofs.lemmas.List.length-map}
use Rattle.batch_matrix.specs.{declared.state.State.TheVariants.Idle, declared.command.Command.Command, declared.report.Report.Report, declared.report.ReportOutcome.ReportOutcome, Matrix.same_state, Matrix.accepts, Matrix.target, Matrix.after_report}
use Rattle.batch_recipe.specs.{Conditions.Name, Conditions.ValueList, Conditions.same_name, Values.are_outputs, Values.left_out}
use Rattle.batch_model.{specs.Lists.Has, specs.Plant.Formula, specs.Plant.size_out_of_range, specs.Plant.value_out_of_range, specs.Plant.scaled, specs.Plant.Recipe, specs.Plant.Master, specs.Plant.Setup, specs.Plant.Batch, specs.Plant.Share, specs.Plant.Plant, specs.Plant.opening, specs.Plant.batch_at, specs.Plant.in_batch, specs.Moves.Move, specs.Moves.next, specs.Moves.after_move, specs.Moves.batch_of, specs.Moves.batch_after, specs.Moves.batch_moves, specs.Events.Event, specs.Events.create, specs.Events.order, specs.Events.remove, specs.Events.report, specs.Events.Reply, specs.Events.ordered, specs.Events.removed, specs.Events.refused, specs.Events.unknown_recipe, specs.Events.unknown_batch, specs.Events.command_not_accepted, specs.Events.no_live_phase, specs.Events.report_not_expected, specs.Events.bad_output, specs.Events.output_left_out, specs.Events.owed, specs.Events.accepting, specs.Events.bad_binding, specs.Events.full, specs.Events.not_idle, specs.Events.moves_pending, specs.Events.Answer, specs.Events.is_full, specs.Events.new_batch, specs.Events.creating, specs.Events.creating_for, specs.Events.binding, specs.Events.is_binding, specs.Events.bound_by, specs.Events.roles_told, specs.Events.commanded, specs.Events.lines_under, specs.Events.ordering, specs.Events.without_batch, specs.Events.removing, specs.Events.LivePhase, specs.Events.live_phase, specs.Events.outputs_of, specs.Events.batch_reported, specs.Events.reporting, specs.Events.judged, specs.Events.react, specs.Runs.Out, specs.Runs.reply, specs.Runs.move, specs.Runs.Reacts, specs.Runs.Leads, specs.Records.waiters_after, specs.declared.limits.TheConstants.LAST_NUMBER, proofs.Members.Has-split}
use Rattle.batch_step_laws.proofs.{LastLineEffect.waiters_told-last, PlantAfterEvent.commanded-number}
use Rattle.batch_record_laws.{specs.Telling.IsTold, proofs.Entries.nat_same, proofs.Entries.Has-filter, proofs.Entries.length-filter_le}
use Rattle.batch_engine.{specs.Marking.named, specs.Marking.withdraws, proofs.MovesAcrossPlants.ServesBefore, proofs.MovesAcrossPlants.lines-alone, proofs.MovesAcrossPlants.settled-none, proofs.MovesAcrossPlants.held-same, proofs.MovesAcrossPlants.as-before}

room : (m n : ℕ) (b : Bool) → (nat_le m n || b) ≡ false → n < m
room m n b e = go (nat_le m n) refl e
  where
    go : (t : Bool) → nat_le m n ≡ t → (t || b) ≡ false → n < m
    go true f g = absurd cc
    go false f g = grind arith

-- a change of batch n leaves the others
Has-other : (n : ℕ) (f : Batch → Batch) (bs : List Batch) (b : Batch) → ((c : Batch) → (f c).number ≡ c.number)
    → Has (map (λ c. elim (nat_eq c.number n) [ true ↦ f c | false ↦ c ]) bs) b → (b.number ≡ n → ⊥) → Has bs b
Has-other n f [] b h i other = absurd i
Has-other n f (c ∷ bs) b h (inl e) other = inl (go (nat_eq c.number n) refl e)
  where
    go : (t : Bool) → nat_eq c.number n ≡ t → ◌≡◌ {A = Batch} (elim t [ true ↦ f c | false ↦ c ]) b → c ≡ b
    go true q w = absurd (other (ap (λ (z : Batch). z.number) (sym w) ∙ h c ∙ nat_same c.number n q))
    go false q w = w
Has-other n f (c ∷ bs) b h (inr i) other = inr (Has-other n f bs b h i other)

-- the batches after an answer: no more than may be, and each but the one that the reply names was there before
record Leaves (c : Setup) (s : Plant) (a : Answer) : Type 0 where
  few : length s.batches ≤ c.batch_limit → length a.1.batches ≤ c.batch_limit
  others : (b : Batch) → Has a.1.batches b → (named a.0 ≡ Some b.number → ⊥) → Has s.batches b

module _ (c : Setup) (s : Plant) where
  same : (x : Reply) → Leaves c s (x, s)
  same x = record { few = λ h. h; others = λ b h other. h }

  changed-few : (n : ℕ) (f : Batch → Batch) → length s.batches ≤ c.batch_limit → length (in_batch n f s).batches ≤ c.batch_limit
  changed-few n f few = subst (λ k. k ≤ c.batch_limit) (sym (length-map s.batches (λ (b : Batch). let d : Batch = elim (nat_eq b.number n) [ true ↦ f b | false ↦ b ] in d))) few

  creating-leaves : (r : Recipe) (size : ℕ) (told : List (Name × Name)) (f : Formula) → is_full c s ≡ false → Leaves c s (creating s r size told f)
  creating-leaves r size told size_out_of_range e = record { few = λ h. h; others = λ b h other. h }
  creating-leaves r size told (value_out_of_range name) e = record { few = λ h. h; others = λ b h other. h }
  creating-leaves r size told (scaled vs) e =
      record {
        few = λ h. omega (arith, room c.batch_limit (length s.batches) (nat_lt LAST_NUMBER s.next_number) e, length-append s.batches (new_batch s.next_number r size vs ∷ []));
        others = λ b h other. ⊎_elim (λ k. k) (λ k. ⊎_elim (λ e. absurd (other (ap Some (ap (λ (z : Batch). z.number) e)))) (λ e. absurd e) k)
            (Has-split s.batches (new_batch s.next_number r size vs ∷ []) b h);
      }

  binding-leaves : (m : Master) (size : ℕ) (pairs : List (Name × Name)) → is_full c s ≡ false → Leaves c s (binding s m size pairs)
  binding-leaves m size pairs e = go (is_binding m.roles pairs)
    where
      r : Recipe
      r = m.control (bound_by pairs)

      go : (t : Bool) → Leaves c s (elim t [ false ↦ (refused bad_binding, s) | true ↦ creating_for s m size (bound_by pairs) ])
      go false = same (refused bad_binding)
      go true = creating-leaves r size (roles_told m.roles (bound_by pairs)) (r.formula size) e

  ordering-leaves : (command : Command) (b : Batch) → Leaves c s (ordering s command b)
  ordering-leaves command b = go (accepts b.state command)
    where
      go : (t : Bool) → Leaves c s
          (elim t [
            | false ↦ (refused (command_not_accepted b.state), s)
            | true ↦ (ordered command b.number (target command), record (in_batch b.number (commanded command) s) { line = lines_under command b.number s.line })
          ])
      go false = same (refused (command_not_accepted b.state))
      go true =
          record {
            few = changed-few b.number (commanded command);
            others = λ d h other. Has-other b.number (commanded command) s.batches d (commanded-number command) h (λ e. other (ap Some (sym e)));
          }

  removing-leaves : (b : Batch) → Leaves c s (removing s b)
  removing-leaves b = go (same_state b.state Idle)
    where
      go : (t : Bool) → Leaves c s (elim t [ true ↦ (removed b.number, without_batch b.number s) | false ↦ (refused (not_idle b.state), s) ])
      go true =
          record {
            few = λ h. omega (arith, length-filter_le (λ (e : Batch). not (nat_eq e.number b.number)) s.batches, h);
            others = λ d h other. (Has-filter (λ (e : Batch). not (nat_eq e.number b.number)) s.batches d h).0;
          }
      go false = same (refused (not_idle b.state))

  reporting-leaves : (unit name : Name) (word : Report) (outputs : ValueList) (l : LivePhase) → Leaves c s (reporting s unit name word outputs l)
  reporting-leaves unit name word outputs l = go (after_report l.state word)
    where
      accepted : (e : ReportOutcome) (o : Option Name) → Leaves c s (accepting s unit name word outputs l e o)
      accepted e (Some output) = same (refused (output_left_out output))
      accepted e None =
          record {
            few = changed-few l.batch.number (batch_reported word outputs l.place e);
            others = λ d h other. Has-other l.batch.number (batch_reported word outputs l.place e) s.batches d (λ b. refl) h (λ q. other (ap Some (sym q)));
          }

      taken : (e : ReportOutcome) (t : Bool) → Leaves c s
          (elim t [ false ↦ (refused bad_output, s) | true ↦ accepting s unit name word outputs l e (left_out (owed l.state word l.phase.reports) outputs) ])
      taken e false = same (refused bad_output)
      taken e true = accepted e (left_out (owed l.state word l.phase.reports) outputs)

      go : (o : Option ReportOutcome) → Leaves c s
          (elim o [
            | None ↦ (refused (report_not_expected l.state), s)
            | Some e ↦
                elim (are_outputs l.batch.recipe.outputs outputs) [
                  | false ↦ (refused bad_output, s)
                  | true ↦ accepting s unit name word outputs l e (left_out (owed l.state word l.phase.reports) outputs)
                ]
          ])
      go None = same (refused (report_not_expected l.state))
      go (Some e) = taken e (are_outputs l.batch.recipe.outputs outputs)

  judged-leaves : (e : Event) → Leaves c s (judged c s e)
  judged-leaves (create name size pairs) = go (find (λ m. same_name m.name name) c.recipes)
    where
      here : (m : Master) (t : Bool) → is_full c s ≡ t → Leaves c s (elim t [ true ↦ (refused full, s) | false ↦ binding s m size pairs ])
      here m true e = same (refused full)
      here m false e = binding-leaves m size pairs e

      go : (o : Option Master) → Leaves c s
          (elim o [ None ↦ (refused unknown_recipe, s) | Some m ↦ elim (is_full c s) [ true ↦ (refused full, s) | false ↦ binding s m size pairs ] ])
      go None = same (refused unknown_recipe)
      go (Some m) = here m (is_full c s) refl
  judged-leaves (order command n) = go (batch_at s n)
    where
      go : (o : Option Batch) → Leaves c s (elim o [ None ↦ (refused unknown_batch, s) | Some b ↦ ordering s command b ])
      go None = same (refused unknown_batch)
      go (Some b) = ordering-leaves command b
  judged-leaves (remove n) = go (batch_at s n)
    where
      go : (o : Option Batch) → Leaves c s (elim o [ None ↦ (refused unknown_batch, s) | Some b ↦ removing s b ])
      go None = same (refused unknown_batch)
      go (Some b) = removing-leaves b
  judged-leaves (report unit name word outputs) = go (live_phase s.batches unit name)
    where
      go : (o : Option LivePhase) → Leaves c s (elim o [ None ↦ (refused no_live_phase, s) | Some l ↦ reporting s unit name word (outputs_of word outputs) l ])
      go None = same (refused no_live_phase)
      go (Some l) = reporting-leaves unit name word (outputs_of word outputs) l

  react-leaves : (e : Event) → Leaves c s (react c s e)
  react-leaves e = go (next c s)
    where
      go : (o : Option Move) → Leaves c s (elim o [ Some m ↦ (refused moves_pending, s) | None ↦ judged c s e ])
      go (Some m) = same (refused moves_pending)
      go None = judged-leaves e

  reacts-leaves : (e : Event) (r : Reply) (t : Plant) → Reacts c s e r t → Leaves c s (r, t)
  reacts-leaves e r t (inl h) = subst (Leaves c s) h (react-leaves e)
  reacts-leaves e r t (inr h) = subst (λ (z : Plant). Leaves c s (r, z)) (sym h.2) (same r)

-- The number of batches

leads-few : (c : Setup) (s t : Plant) (es : List Event) (outs : List Out) → length s.batches ≤ c.batch_limit → Leads c s es outs t → length t.batches ≤ c.batch_limit
leads-few c s t [] [] k h = subst (λ (z : Plant). length z.batches ≤ c.batch_limit) h k
leads-few c s t es (move m ∷ outs) k h = leads-few c (after_move s m) t es outs (changed-few c s (batch_of m) (batch_after m) k) h.1
leads-few c s t (e ∷ es) (reply r ∷ outs) k h = leads-few c h.0 t es outs ((reacts-leaves c s e r h.0 h.1).few k) h.2
leads-few c s t es outs h e = absurd (grind arith)

-- there are never more batches than may be
pub batches-are-few : (c : Setup) (events : List Event) (outs : List Out) (s : Plant) → Leads c opening events outs s → length s.batches ≤ c.batch_limit
batches-are-few c events outs s h = leads-few c opening s events outs (omega arith) h

-- Whom the plant serves

-- if no asks are withdrawn, the lines stay
lines-stay : (q : Name) (line : List Share) (r : Reply) → withdraws r ≡ false → waiters_after q line (reply r) ≡ line
lines-stay q line r h = grind arith

module _ (c : Setup) (outs : List Out) (s : Plant) (told : IsTold outs s) (settled : next c s ≡ None) where
  -- after an event no batch has a move but the one that the reply names, and if asks were withdrawn, those that are served
  pub others-none : (e : Event) (r : Reply) (t : Plant) → Reacts c s e r t → IsTold (outs ++ reply r ∷ []) t → (b : Batch) → Has t.batches b → (named r ≡ Some b.number → ⊥)
      → (withdraws r ≡ true → ServesBefore c s t b) → batch_moves c t b ≡ []
  others-none e r t reacts after_told b here other withdrawn =
      lines-alone c s t b (serves (withdraws r) refl) (settled-none c s settled b ((reacts-leaves c s e r t reacts).others b here other))
    where
      serves : (w : Bool) → withdraws r ≡ w → ServesBefore c s t b
      serves true f = withdrawn f
      serves false f = λ step task held need i got served.
          as-before c outs s told t need (b.number, step.place) (held-same c outs s told (reply r) t after_told need.resource refl)
          (sym (after_told.lines need.resource) ∙ waiters_told-last outs (reply r) need.resource ∙ ap (λ ws. waiters_after need.resource ws (reply r)) (told.lines need.resource)
          ∙ lines-stay need.resource (s.line need.resource) r f) served
