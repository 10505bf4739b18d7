-- The answers to a report of a live phase.
use Rattle.std.proofs.Common.{◌≡◌, ◌≢◌, ◌<◌, refl, sym, ◌∙◌, ap, ap₂, subst, ℕ, zero, suc, List, [], ◌∷◌, Bool, true, false, ◌&&◌, Option, Some, None, inl, arith, get_or, map, set}
use Rattle.std.{specs.Prelude.length, specs.Prelude.not, specs.Prelude.position, specs.Prelude.slice_get, specs.Prelude.unwrap_or, proofs.lemmas.Option.slice_get-get_or, specs.Option.option_or}
use Rattle.batch_matrix.specs.{declared.state.State.State, declared.report.Report.Report, declared.report.ReportOutcome.ReportOutcome, Matrix.after_report, Matrix.same_report}
use Rattle.batch_recipe.{specs.Conditions.Name, specs.Conditions.ValueList, specs.Nodes.Node, specs.Nodes.reports_of, specs.Values.are_outputs, specs.Values.have_output, specs.Values.left_out, specs.Values.with_values, proofs.FirstMatch.find-nowhere, proofs.FirstMatch.find-position}
use Rattle.batch_recipe.specs.declared.recipe.Recipe as document
use Rattle.batch_model.specs.{Rest.acts, Plant.Master, Plant.Share, Plant.Plant, Plant.in_act, Plant.in_batch, Moves.Move, Moves.is_stopping, Moves.next, Events.refused, Events.moves_pending, Events.no_live_phase, Events.report_not_expected, Events.bad_output, Events.owed, Events.accepting, Events.reported, Events.reporting, Events.live_in, Events.live_phase, Events.phase_after, Events.batch_state_after, Events.outputs_of, Events.batch_reported, Events.judged, Events.react, Events.Answer, Runs.Reacts}
use Rattle.batch_model.specs.Plant as Model
use Rattle.batch_model.specs.Events as Events
use Rattle.batch_verify.proofs.ListLookups.{found_below}
use Rattle.batch_arbiter.specs.Allocation.{shares_at, line_of_asks}
use Rattle.batch_chart.specs.{NodesOf.phase_at, NodesOf.place_at, Charts.IsRunningOf, Charts.RunsAs, declared.running.Running.Running}
use Rattle.batch_engine.{specs.declared.batch.Batch.Batch, specs.declared.live_phase.LivePhase.LivePhase, specs.declared.refusal.Refusal.Refusal, specs.declared.reply.Reply.Reply, specs.Answered.IsAnswered, specs.Names.node_of, specs.Names.output_name, specs.Names.phase_name, specs.Names.resource_name, specs.Reports.IsLiveOf, specs.Reports.IsLivePhase, specs.Reports.told_of, specs.Surface.reply_of, specs.View.EngineView, specs.View.setup, specs.View.model_batch, specs.View.bound_to, specs.View.resource_number, specs.View.line_in, specs.View.line_at, specs.View.plant_of, specs.View.tree_of, specs.View.recipe_made, specs.Kept.IsRunningBatch, specs.Kept.IsKept, proofs.RecordOfPlant.standing, proofs.BatchLookups.batch-runs, proofs.BatchLookups.master-found, proofs.EngineAfterMove.as_left, proofs.EngineAfterMove.runs-as, proofs.BatchAfterMove.fun_ext, proofs.BatchAfterMove.acts-same, proofs.BatchAfterMove.batches-same, proofs.BatchAtIndex.IsSeat, proofs.BatchAtIndex.seat-of, proofs.InvariantAfterMove.changed, proofs.InvariantAfterMove.Each-set, proofs.Room.room-quiet, proofs.InvariantAfterEvent.event-kept, proofs.MoveLines.node-is, proofs.MoveLines.place-here, proofs.MoveLines.reports-read}
use Rattle.batch_engine.specs.Names as Names
use Rattle.batch_record_laws.proofs.Entries.{IsOnce}

-- The batch of a live phase, and its recipe

pub record IsReporting (v : EngineView) (unit name : Name) (l : LivePhase) (b : Batch) (x : document.Recipe) : Type 0 where
  pub seat : IsSeat v l.index b x
  pub phase : IsLiveOf v unit name l b
  pub found : live_phase (plant_of v).batches unit name ≡ Some (told_of v l b)

pub reporting-of : {v w : EngineView} {unit name : Name} {l : LivePhase} {x : document.Recipe} → w ≡ v → IsKept w → (g : IsLivePhase v unit name (Some l)) → slice_get w.cleared.recipes l.recipe ≡ Some x
    → IsReporting v unit name l g.0 x
reporting-of {v} {w} {unit} {name} {l} {x} e k g h =
    record {
      seat = seat-of e (record { kept = subst IsKept e k; at = g.1.at }) (subst (λ q. slice_get w.cleared.recipes q ≡ Some x) g.1.recipe_is h);
      phase = g.1;
      found = g.2;
    }

-- Outputs

none-left : (outputs : ValueList) → length outputs ≡ 0 → [] ≡ outputs
none-left [] none = refl
none-left (x ∷ xs) none = cc

-- a report whose outputs are empty unless its phase is done has no other outputs
outputs-own : (word : Report) (outputs : ValueList) → (word ≢ Report.Done → length outputs ≡ 0) → outputs_of word outputs ≡ outputs
outputs-own Report.Done outputs alone = refl
outputs-own Report.Paused outputs alone = none-left outputs (alone (λ e. let bad : Report.Paused ≡ Report.Done = e in cc))
outputs-own Report.Held outputs alone = none-left outputs (alone (λ e. let bad : Report.Held ≡ Report.Done = e in cc))
outputs-own Report.Running outputs alone = none-left outputs (alone (λ e. let bad : Report.Running ≡ Report.Done = e in cc))
outputs-own Report.Stopped outputs alone = none-left outputs (alone (λ e. let bad : Report.Stopped ≡ Report.Done = e in cc))
outputs-own Report.Aborted outputs alone = none-left outputs (alone (λ e. let bad : Report.Aborted ≡ Report.Done = e in cc))
outputs-own Report.Fault outputs alone = none-left outputs (alone (λ e. let bad : Report.Fault ≡ Report.Done = e in cc))

-- the number of the first that is left out
abbrev pub first_number : ValueList → List Name → Option ℕ
first_number outputs names = position (λ name. not (have_output outputs name)) names

-- the output with the number
named-left_out : (outputs : ValueList) (names : List Name) (i : ℕ) → first_number outputs names ≡ Some i → left_out names outputs ≡ Some (unwrap_or (slice_get names i) [])
named-left_out outputs names i e =
    let there : slice_get names i ≡ Some (get_or names i []) = slice_get-get_or names i [] (found_below (λ name. not (have_output outputs name)) names i e) in
    find-position (λ name. not (have_output outputs name)) names i e ∙ there ∙ ap Some (sym (ap (λ (o : Option Name). unwrap_or o []) there))

owed-left_out : (x : State) (word : Report) (names : List Name) (outputs : ValueList) (i : ℕ) → first_number outputs (owed x word names) ≡ Some i
    → left_out (owed x word names) outputs ≡ Some (unwrap_or (slice_get names i) [])
owed-left_out x word names outputs i e = go (same_report word Report.Done && not (is_stopping x)) e
  where
    go : (t : Bool) → first_number outputs (elim t [ true ↦ names | false ↦ [] ]) ≡ Some i
        → left_out (elim t [ true ↦ names | false ↦ [] ]) outputs ≡ Some (unwrap_or (slice_get names i) [])
    go true f = named-left_out outputs names i f
    go false f = absurd cc

-- The answer to a report that the phase's state expects

module _ {v : EngineView} {unit name : Name} {l : LivePhase} {b : Batch} {x : document.Recipe} (j : IsReporting v unit name l b x) (word : Report) (outputs : ValueList)
    (settled : next (setup v.cleared) (plant_of v) ≡ None) (alone : word ≢ Report.Done → length outputs ≡ 0) (end : ReportOutcome) (ends : after_report l.state word ≡ Some end) where
  abbrev given : Bool → Option Name → Answer
  given t o = elim t [ false ↦ (refused bad_output, plant_of v) | true ↦ accepting (plant_of v) unit name word outputs (told_of v l b) end o ]

  answer : (t : Bool) → are_outputs x.outputs.items outputs ≡ t
      → react (setup v.cleared) (plant_of v) (Events.report unit name word outputs) ≡ given t (left_out (owed l.state word (reports_of (node_of l.node x))) outputs)
  answer t is =
      ap (λ (m : Option Move). let a : Answer = elim m [ Some l ↦ (refused moves_pending, plant_of v) | None ↦ judged (setup v.cleared) (plant_of v) (Events.report unit name word outputs) ] in a) settled
      ∙ ap₂ (λ (set : ValueList) (o : Option Events.LivePhase). let a : Answer = elim o [ None ↦ (refused no_live_phase, plant_of v) | Some l ↦ reporting (plant_of v) unit name word set l ] in a)
      (outputs-own word outputs alone) j.found
      ∙ ap (λ (o : Option ReportOutcome). let a : Answer = elim o [
        | None ↦ (refused (report_not_expected l.state), plant_of v)
        | Some e ↦
            elim (are_outputs (recipe_made v.cleared b).outputs outputs) [
              | false ↦ (refused bad_output, plant_of v)
              | true ↦ accepting (plant_of v) unit name word outputs (told_of v l b) e (left_out (owed l.state word (phase_at (tree_of v.cleared b) l.node).reports) outputs)
            ]
      ] in a) ends
      ∙ ap₂ given (ap (λ (m : Master). are_outputs (m.control (bound_to v.cleared b.recipe b.units)).outputs outputs) (master-found v.cleared b.recipe x j.seat.listed) ∙ is)
      (ap (λ names. left_out (owed l.state word names) outputs) (sym (reports-read v.cleared b.recipe x j.seat.listed b.units l.node)))

  pub report-bad : are_outputs x.outputs.items outputs ≡ false → IsAnswered v (Events.report unit name word outputs) (Reply.Refused Refusal.BadOutput) v
  report-bad off = record { cleared = refl; reacts = inl (answer false off) }

  module _ (fine : are_outputs x.outputs.items outputs ≡ true) where
    pub report-left_out : (i : ℕ) → first_number outputs (owed l.state word (reports_of (node_of l.node x))) ≡ Some i
        → IsAnswered v (Events.report unit name word outputs) (Reply.Refused (Refusal.OutputLeftOut l.recipe l.node i)) v
    report-left_out i first =
        let named : output_name v.cleared l.recipe l.node i ≡ unwrap_or (slice_get (reports_of (node_of l.node x)) i) [] =
        ap (λ q. output_name v.cleared q l.node i) j.phase.recipe_is ∙ ap (λ (n : Option Node). unwrap_or (slice_get (reports_of n) i) []) (node-is v.cleared b.recipe x j.seat.listed l.node) in
        record { cleared = refl; reacts = inl (answer true fine ∙ ap (given true) (owed-left_out l.state word (reports_of (node_of l.node x)) outputs i first ∙ ap Some (sym named))) }

    module _ (complete : first_number outputs (owed l.state word (reports_of (node_of l.node x))) ≡ None) (vs : ValueList) (values : vs ≡ with_values outputs b.values) (r : Running)
        (runs : IsRunningOf (tree_of v.cleared b) r)
        (left : (d : Model.Batch) → d.values ≡ vs → RunsAs (tree_of v.cleared b) b.running d.rest d.in_advance
        → RunsAs (tree_of v.cleared b) r (in_act (place_at (tree_of v.cleared b) l.node) (phase_after end) d).rest (in_act (place_at (tree_of v.cleared b) l.node) (phase_after end) d).in_advance) where
      abbrev taken : State → EngineView
      taken y = changed v l.index (record b { values = vs; state = y; running = r }) v.allocation

      becomes : model_batch v.cleared (record b { values = vs; state = batch_state_after word b.state; running = r })
          ≡ batch_reported word outputs (place_at (tree_of v.cleared b) l.node) end (model_batch v.cleared b)
      becomes =
          let d : Model.Batch = record (model_batch v.cleared b) { values = vs; state = batch_state_after word b.state } in
          let now = left d refl (runs-as v j.seat.kept l.index b j.seat.at) in
          ap₂ (as_left d) (sym now.rest) (sym now.held)
          ∙ ap (λ ws. in_act (place_at (tree_of v.cleared b) l.node) (phase_after end) (let e : Model.Batch = record (model_batch v.cleared b) { values = ws; state = batch_state_after word b.state } in e)) values

      line : (n : Name) (m : Option ℕ) → line_at (taken (batch_state_after word b.state)) m ≡ line_at v m
      line n None = refl
      line n (Some q) =
          acts-same v.cleared v.next_number (record b { values = vs; state = batch_state_after word b.state; running = r }) v.batches l.index b j.seat.at refl refl (line_of_asks v.allocation q)

      plant : plant_of (taken (batch_state_after word b.state)) ≡ in_batch b.number (batch_reported word outputs (place_at (tree_of v.cleared b) l.node) end) (plant_of v)
      plant =
          ap₂ (λ (bs : List Model.Batch) (l : Name → List Share). let p : Plant = record { batches = bs; next_number = v.next_number; line = l } in p)
          (batches-same v.cleared v.next_number (record b { values = vs; state = batch_state_after word b.state; running = r }) v.batches l.index b
          (batch_reported word outputs (place_at (tree_of v.cleared b) l.node) end) (standing v j.seat.kept).numbers j.seat.at becomes)
          (let lines : (n : Name) → line_in (taken (batch_state_after word b.state)) n ≡ line_in v n = λ n. line n (resource_number v.cleared n) in fun_ext lines)

      abbrev reply : State → Reply
      reply y = Reply.Reported l.phase.unit l.phase.phase word b.number l.recipe l.node y

      words : reported unit name word b.number (place_at (tree_of v.cleared b) l.node) (batch_state_after word b.state) ≡ reply_of v.cleared (reply (batch_state_after word b.state))
      words =
          ap₂ (λ u n. reported u n word b.number (place_at (tree_of v.cleared b) l.node) (batch_state_after word b.state)) (sym j.phase.unit_is) (sym j.phase.name_is)
          ∙ ap (λ p. reported (resource_name v.cleared l.phase.unit) (phase_name v.cleared l.phase.unit l.phase.phase) word b.number p (batch_state_after word b.state))
          (sym (ap (λ q. Names.recipe_place_at v.cleared q l.node) j.phase.recipe_is ∙ place-here v j.seat.kept l.index b j.seat.at l.node))

      reacts : Reacts (setup v.cleared) (plant_of v) (Events.report unit name word outputs) (reply_of v.cleared (reply (batch_state_after word b.state))) (plant_of (taken (batch_state_after word b.state)))
      reacts =
          inl (answer true fine ∙ ap (given true) (find-nowhere (λ name. not (have_output outputs name)) (owed l.state word (reports_of (node_of l.node x))) complete)
          ∙ ap₂ (λ (q : Events.Reply) (s : Plant). let a : Answer = (q, s) in a) words (sym plant))

      kept : IsKept (taken (batch_state_after word b.state))
      kept =
          event-kept v j.seat.kept (set v.batches l.index (record b { values = vs; state = batch_state_after word b.state; running = r })) v.next_number v.allocation (Events.report unit name word outputs)
          (reply_of v.cleared (reply (batch_state_after word b.state))) reacts
          (λ n q f. acts-same v.cleared v.next_number (record b { values = vs; state = batch_state_after word b.state; running = r }) v.batches l.index b j.seat.at refl refl (shares_at v.allocation q))
          (Each-set (IsRunningBatch v.cleared) v.batches l.index (record b { values = vs; state = batch_state_after word b.state; running = r }) j.seat.kept.batches
          (record { known = (batch-runs v j.seat.kept l.index b j.seat.at).known; units = (batch-runs v j.seat.kept l.index b j.seat.at).units; runs = runs }))
          j.seat.kept.cell
          (λ n q f. subst IsOnce (sym (acts-same v.cleared v.next_number (record b { values = vs; state = batch_state_after word b.state; running = r }) v.batches l.index b j.seat.at refl refl (line_of_asks v.allocation q)))
          (j.seat.kept.once n q f))
          (room-quiet v l.index b (record b { values = vs; state = batch_state_after word b.state; running = r }) j.seat.at refl j.seat.kept.room)

      -- its effect on the engine, where the batch's state becomes y
      pub report-made : (y : State) → y ≡ batch_state_after word b.state → IsKept (taken y) × IsAnswered v (Events.report unit name word outputs) (reply y) (taken y)
      report-made y is = subst (λ z. IsKept (taken z) × IsAnswered v (Events.report unit name word outputs) (reply z) (taken z)) (sym is) (kept, record { cleared = refl; reacts = reacts })

-- The search for the live phase

pub live-here : (v : EngineView) (unit name : Name) (i : ℕ) (b : Batch) (bs : List Batch) (l : Events.LivePhase) → slice_get bs i ≡ Some b
    → ((j : ℕ) (d : Batch) → j < i → slice_get bs j ≡ Some d → live_in (model_batch v.cleared d) unit name (acts (model_batch v.cleared d).rest) ≡ None)
    → live_in (model_batch v.cleared b) unit name (acts (model_batch v.cleared b).rest) ≡ Some l → live_phase (map (model_batch v.cleared) bs) unit name ≡ Some l
live-here v unit name i b [] l e none here = absurd cc
live-here v unit name zero b (x ∷ bs) l e none here =
    let g : x ≡ b = cc in
    ap (λ (o : Option Events.LivePhase). option_or o (live_phase (map (model_batch v.cleared) bs) unit name))
    (ap (λ (z : Batch). live_in (model_batch v.cleared z) unit name (acts (model_batch v.cleared z).rest)) g ∙ here)
live-here v unit name (suc i) b (x ∷ bs) l e none here =
    ap (λ (o : Option Events.LivePhase). option_or o (live_phase (map (model_batch v.cleared) bs) unit name)) (none 0 x (omega arith) refl)
    ∙ live-here v unit name i b bs l e (λ j d lt f. none (suc j) d (omega arith) f) here

pub live-nowhere : (v : EngineView) (unit name : Name) (bs : List Batch)
    → ((j : ℕ) (d : Batch) → slice_get bs j ≡ Some d → live_in (model_batch v.cleared d) unit name (acts (model_batch v.cleared d).rest) ≡ None) → live_phase (map (model_batch v.cleared) bs) unit name ≡ None
live-nowhere v unit name [] none = refl
live-nowhere v unit name (x ∷ bs) none =
    ap (λ (o : Option Events.LivePhase). option_or o (live_phase (map (model_batch v.cleared) bs) unit name)) (none 0 x refl)
    ∙ live-nowhere v unit name bs (λ j d e. none (suc j) d e)
