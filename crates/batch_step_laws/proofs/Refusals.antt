-- A refused event leaves the plant as it was, and some refusals come only if they have a cause.
use Rattle.std.proofs.Common.{◌≡◌, ◌⊎◌, refl, sym, subst, ℕ, ◌<◌, ◌≤◌, arith, length, Bool, true, false, ◌||◌, ◌&&◌, ◌++◌, nat_le, nat_lt, Some, None, inl, inr, List, [], ◌∷◌, ap, cond}
use Rattle.std.specs.{Prelude.Option, Prelude.find, Prelude.not, Prelude.⊤, List.list_all}
use Rattle.batch_matrix.specs.{declared.state.State.TheVariants.Idle, declared.command.Command.Command, declared.report.Report.Report, declared.report.ReportOutcome.ReportOutcome, Matrix.same_state, Matrix.same_report, Matrix.accepts, Matrix.target, Matrix.after_report}
use Rattle.batch_recipe.specs.{Conditions.Name, Conditions.ValueList, Conditions.same_name, Values.are_outputs, Values.have_output, Values.left_out}
use Rattle.batch_model.specs.{Plant.Formula, Plant.size_out_of_range, Plant.value_out_of_range, Plant.scaled, Plant.Recipe, Plant.Setup, Plant.Batch, Plant.Plant, Plant.batch_at, Plant.in_batch, Plant.Master, Moves.Move, Moves.is_stopping, Moves.next, Events.Event, Events.create, Events.order, Events.remove, Events.report, Events.Reply, Events.created, Events.ordered, Events.removed, Events.refused, Events.Refusal, Events.unknown_recipe, Events.bad_binding, Events.binding, Events.is_binding, Events.bound_by, Events.creating_for, Events.roles_told, Events.unknown_batch, Events.command_not_accepted, Events.no_live_phase, Events.report_not_expected, Events.bad_output, Events.output_left_out, Events.owed, Events.accepting, Events.full, Events.not_idle, Events.moves_pending, Events.no_memory, Events.Answer, Events.is_full, Events.creating, Events.commanded, Events.lines_under, Events.ordering, Events.without_batch, Events.removing, Events.LivePhase, Events.live_phase, Events.outputs_of, Events.reporting, Events.judged, Events.react, Runs.IsCreated, Runs.Reacts, declared.limits.TheConstants.LAST_NUMBER}
use Rattle.batch_step_laws.specs.Laws.{IsCreate, IsFirstLeftOut, HasCause}

-- a refusal has a cause and changes nothing, and a batch is created by a create
abbrev IsJust : Setup → Plant → Event → Reply → Plant → Type 0
IsJust c s e (refused x) t = (t ≡ s) × HasCause c s e x
IsJust c s e (created n r size told) t = IsCreate e
IsJust c s e _ t = ⊤

either-limit : (a b : Bool) (m n k l : ℕ) → (a ≡ true → m ≤ n) → (b ≡ true → k < l) → (a || b) ≡ true → (m ≤ n) ⊎ (k < l)
either-limit a b m n k l f g e = grind arith

at-most : (m n : ℕ) → nat_le m n ≡ true → m ≤ n
at-most m n e = grind arith

less : (m n : ℕ) → nat_lt m n ≡ true → m < n
less m n e = grind arith

full-cause : (c : Setup) (s : Plant) → is_full c s ≡ true → (c.batch_limit ≤ length s.batches) ⊎ (LAST_NUMBER < s.next_number)
full-cause c s e = grind (arith, either-limit, at-most, less)

-- the names before the first that is left out, and those after it
record IsCutAt (outputs : ValueList) (names : List Name) (output : Name) : Type 0 where
  earlier : List Name
  later : List Name
  are : names ≡ earlier ++ output ∷ later
  is_missing : have_output outputs output ≡ false
  is_first : list_all (have_output outputs) earlier ≡ true

cut-at : (outputs : ValueList) (names : List Name) (output : Name) → left_out names outputs ≡ Some output → IsCutAt outputs names output
cut-at outputs [] output e = absurd cc
cut-at outputs (name ∷ names) output e = go (have_output outputs name) refl e (cut-at outputs names output)
  where
    go : (t : Bool) → have_output outputs name ≡ t → cond (not t) (Some name) (left_out names outputs) ≡ Some output
        → (left_out names outputs ≡ Some output → IsCutAt outputs names output) → IsCutAt outputs (name ∷ names) output
    go false h f further =
        let same : name ≡ output = cc in
        record { earlier = []; later = names; are = ap (λ (z : Name). z ∷ names) same; is_missing = subst (λ z. have_output outputs z ≡ false) same h; is_first = refl }
    go true h f further =
        let m = further f in
        record {
          earlier = name ∷ m.earlier;
          later = m.later;
          are = ap (λ (zs : List Name). name ∷ zs) m.are;
          is_missing = m.is_missing;
          is_first = subst (λ t. (t && list_all (have_output outputs) m.earlier) ≡ true) (sym h) m.is_first;
        }

done-word : (word : Report) → same_report word Report.Done ≡ true → word ≡ Report.Done
done-word word e = grind arith

both : (a b : Bool) → (a && not b) ≡ true → (a ≡ true) × (b ≡ false)
both a b e = grind arith

module _ (c : Setup) (s : Plant) where
  -- the output that is told is the first that is left out
  first-left_out : (unit name : Name) (word : Report) (outputs : ValueList) (l : LivePhase) → live_phase s.batches unit name ≡ Some l
      → (output : Name) → left_out (owed l.state word l.phase.reports) (outputs_of word outputs) ≡ Some output → IsFirstLeftOut s unit name word outputs output
  first-left_out unit name word outputs l live output e = go (same_report word Report.Done && not (is_stopping l.state)) refl e
    where
      go : (t : Bool) → (same_report word Report.Done && not (is_stopping l.state)) ≡ t
          → left_out (elim t [ true ↦ l.phase.reports | false ↦ [] ]) (outputs_of word outputs) ≡ Some output → IsFirstLeftOut s unit name word outputs output
      go false h f = absurd cc
      go true h f =
          let is = both (same_report word Report.Done) (is_stopping l.state) h in
          let done : word ≡ Report.Done = done-word word is.0 in
          let m = cut-at outputs l.phase.reports output (subst (λ w. left_out l.phase.reports (outputs_of w outputs) ≡ Some output) done f) in
          record { found = l; is_live = live; is_done = done; goes_on = is.1; earlier = m.earlier; later = m.later; reports = m.are; is_missing = m.is_missing; is_first = m.is_first }

  abbrev Just : Event → Answer → Type 0
  Just e a = IsJust c s e a.0 a.1

  creating-just : (name : Name) (size : ℕ) (pairs told : List (Name × Name)) (r : Recipe) (f : Formula) → Just (create name size pairs) (creating s r size told f)
  creating-just name size pairs told r size_out_of_range = (refl, tt)
  creating-just name size pairs told r (value_out_of_range v) = (refl, tt)
  creating-just name size pairs told r (scaled vs) = tt

  binding-just : (name : Name) (size : ℕ) (pairs : List (Name × Name)) (m : Master) → find (λ d. same_name d.name name) c.recipes ≡ Some m
      → Just (create name size pairs) (binding s m size pairs)
  binding-just name size pairs m found = go (is_binding m.roles pairs) refl
    where
      r : Recipe
      r = m.control (bound_by pairs)

      go : (t : Bool) → is_binding m.roles pairs ≡ t
          → Just (create name size pairs) (elim t [ false ↦ (refused bad_binding, s) | true ↦ creating_for s m size (bound_by pairs) ])
      go false e = (refl, (m, found, e))
      go true e = creating-just name size pairs (roles_told m.roles (bound_by pairs)) r (r.formula size)

  ordering-just : (e : Event) (command : Command) (b : Batch) → Just e (ordering s command b)
  ordering-just e command b = go (accepts b.state command)
    where
      go : (t : Bool) → Just e
          (elim t [
            | false ↦ (refused (command_not_accepted b.state), s)
            | true ↦ (ordered command b.number (target command), record (in_batch b.number (commanded command) s) { line = lines_under command b.number s.line })
          ])
      go false = (refl, tt)
      go true = tt

  removing-just : (e : Event) (b : Batch) → Just e (removing s b)
  removing-just e b = go (same_state b.state Idle)
    where
      go : (t : Bool) → Just e (elim t [ true ↦ (removed b.number, without_batch b.number s) | false ↦ (refused (not_idle b.state), s) ])
      go true = tt
      go false = (refl, tt)

  reporting-just : (e : Event) (unit name : Name) (word : Report) (outputs : ValueList) (l : LivePhase)
      → ((output : Name) → left_out (owed l.state word l.phase.reports) outputs ≡ Some output → HasCause c s e (output_left_out output))
      → Just e (reporting s unit name word outputs l)
  reporting-just e unit name word outputs l leaves = go (after_report l.state word)
    where
      accepted : (end : ReportOutcome) (o : Option Name) → left_out (owed l.state word l.phase.reports) outputs ≡ o → Just e (accepting s unit name word outputs l end o)
      accepted end (Some output) h = (refl, leaves output h)
      accepted end None h = tt

      taken : (end : ReportOutcome) (t : Bool) → Just e
          (elim t [ false ↦ (refused bad_output, s) | true ↦ accepting s unit name word outputs l end (left_out (owed l.state word l.phase.reports) outputs) ])
      taken end false = (refl, tt)
      taken end true = accepted end (left_out (owed l.state word l.phase.reports) outputs) refl

      go : (o : Option ReportOutcome) → Just e
          (elim o [
            | None ↦ (refused (report_not_expected l.state), s)
            | Some end ↦
                elim (are_outputs l.batch.recipe.outputs outputs) [
                  | false ↦ (refused bad_output, s)
                  | true ↦ accepting s unit name word outputs l end (left_out (owed l.state word l.phase.reports) outputs)
                ]
          ])
      go None = (refl, tt)
      go (Some end) = taken end (are_outputs l.batch.recipe.outputs outputs)

  judged-just : (e : Event) → Just e (judged c s e)
  judged-just (create name size pairs) = go (find (λ m. same_name m.name name) c.recipes) refl
    where
      room : (m : Master) → find (λ d. same_name d.name name) c.recipes ≡ Some m → (t : Bool) → is_full c s ≡ t
          → Just (create name size pairs) (elim t [ true ↦ (refused full, s) | false ↦ binding s m size pairs ])
      room m found true e = (refl, full-cause c s e)
      room m found false e = binding-just name size pairs m found

      go : (o : Option Master) → find (λ m. same_name m.name name) c.recipes ≡ o → Just (create name size pairs)
          (elim o [ None ↦ (refused unknown_recipe, s) | Some m ↦ elim (is_full c s) [ true ↦ (refused full, s) | false ↦ binding s m size pairs ] ])
      go None found = (refl, tt)
      go (Some m) found = room m found (is_full c s) refl
  judged-just (order command n) = go (batch_at s n)
    where
      go : (o : Option Batch) → Just (order command n) (elim o [ None ↦ (refused unknown_batch, s) | Some b ↦ ordering s command b ])
      go None = (refl, tt)
      go (Some b) = ordering-just (order command n) command b
  judged-just (remove n) = go (batch_at s n)
    where
      go : (o : Option Batch) → Just (remove n) (elim o [ None ↦ (refused unknown_batch, s) | Some b ↦ removing s b ])
      go None = (refl, tt)
      go (Some b) = removing-just (remove n) b
  judged-just (report unit name word outputs) = go (live_phase s.batches unit name) refl
    where
      go : (o : Option LivePhase) → live_phase s.batches unit name ≡ o → Just (report unit name word outputs) (elim o [ None ↦ (refused no_live_phase, s) | Some l ↦ reporting s unit name word (outputs_of word outputs) l ])
      go None found = (refl, tt)
      go (Some l) found = reporting-just (report unit name word outputs) unit name word (outputs_of word outputs) l (first-left_out unit name word outputs l found)

  react-just : (e : Event) → Just e (react c s e)
  react-just e = go (next c s) refl
    where
      go : (o : Option Move) → next c s ≡ o → Just e (elim o [ Some m ↦ (refused moves_pending, s) | None ↦ judged c s e ])
      go None f = judged-just e
      go (Some m) f = (refl, λ g. absurd cc)

  created-create : (e : Event) (a : Answer) → Just e a → IsCreated a.0 → IsCreate e
  created-create e (created n r size told, t) h k = h
  created-create e a h k = grind arith

  same-refusal : (x y : Refusal) → refused x ≡ refused y → x ≡ y
  same-refusal x y e = cc

  pub refusal-just : (e : Event) (x : Refusal) (t : Plant) → Reacts c s e (refused x) t → (t ≡ s) × HasCause c s e x
  refusal-just e x t (inl h) = subst (Just e) h (react-just e)
  refusal-just e x t (inr h) =
      (h.2, subst (HasCause c s e) (sym (same-refusal x no_memory h.1)) (created-create e (react c s e) (react-just e) h.0))
