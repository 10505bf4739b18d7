-- Runs that serve desks.
use Rattle.std.proofs.Common.{◌≡◌, ◌⊎◌, ◌∙◌, ℕ, Bool, List, Option, Some, None, Result, Ok, Err, IfOk, inl, inr, refl, subst, sym}
use Rattle.std.specs.{Prelude.IsOk, Prelude.OnOk, Prelude.String, Prelude.option_map, Prelude.string_bytes, Global.Global, Io.KnownBytes.Keeps}
use Rattle.clap.specs.Walk.{Text}
use Rattle.batch_model.specs.Plant.{Plant, opening}
use Rattle.batch_engine.specs.View.{EngineView, plant_of, setup}
use Rattle.batch_serve.specs.Served.{AreServed, ServiceIsSafe}
use Rattle.batch_verify.specs.ClearedSet.{ClearedSet}
use Rattle.batch_cli.specs.CommandLine.{Request, serve_desks}
use Rattle.batch_verdicts.{specs.DeskSets.AreDesksCleared, specs.Reading.Gives, specs.Running.AskFor, specs.Running.IsDone, specs.Running.IsRun, specs.Running.Stream, specs.Running.ask_quiet, specs.Running.fault_status, specs.Running.memory_status, specs.Running.success_status, specs.declared.course.Course.Course, specs.declared.desks.DeskSet.DeskSet, proofs.Successes.same_request}
use Rattle.batch_verdicts.specs.Running as running
use Rattle.batch_verdicts.specs.declared.course.Course.TheVariants as course_of
use Rattle.batch_reader.specs.{DeskNames.desk_names, declared.desk_set.Desks.Desks}
use Rattle.batch_pipes.specs.{Service.AreDesksServed, declared.fault.DesksFault.DesksFault, declared.fault.DesksFault.TheVariants.Memory, declared.fault.DesksFault.TheVariants.Thread, declared.fault.DesksFault.TheVariants.Journal, declared.fault.DesksFault.TheVariants.Record, declared.fault.DesksFault.TheVariants.RoundsOut}
use Rattle.batch_serve.specs.Serves as serving
use Rattle.batch_program.{specs.DeskRuns.AreDesksOn, specs.DeskRuns.AreDesksRun, specs.DeskRuns.IsDesksRecord, specs.DeskRuns.status_of_desks, specs.DeskRuns.status_of_fault, specs.JournalRuns.JournalFiles, specs.Programs.DesksAreSafe, specs.Programs.IsProgramRun, specs.Programs.audits, specs.Programs.draws, specs.Programs.keeps, specs.Programs.plants, specs.Programs.reads, specs.Programs.remarks, specs.Programs.serves, specs.Programs.serves_desks, specs.Programs.tells, specs.Programs.writes, specs.RecordRuns.Holds, specs.RecordRuns.output_of, proofs.ProgramRuns.kept_then_appended, proofs.ProgramRuns.run_over_kept, proofs.ProgramRuns.told_at_once}

-- the desks that are to be served, and nothing was written before
pub record AreToServe (gives : Gives) (words : List Text) (output errors : Stream) (served : DeskSet) (journal : Option (String Global)) (times : Bool) : Type 0 where
  pub path : Text
  pub cell : Text
  pub certificate : Text
  pub recipes : List Text
  pub asked : AskFor words (serve_desks (option_map string_bytes journal) path cell certificate recipes times)
  pub cleared : AreDesksCleared gives path cell certificate recipes served.desks served.digested.set served.digested.documents.text
  pub unwritten : Keeps output.before output.after

pub desks_to_serve : (gives : Gives) (words : List Text) (output errors : Stream) (course : Course) (served : DeskSet) (quiet : Bool) (journal : Option (String Global)) (times : Bool)
    → IsRun gives words output errors course → course ≡ course_of.ServesDesks served quiet journal times → AreToServe gives words output errors served journal times
desks_to_serve gives words output errors _ served quiet journal times (running.commands request course asked came) is = done request course asked came is
  where
    done : (request : Request) (course : Course) → AskFor words request → IsDone gives request (ask_quiet words) output errors course
        → course ≡ course_of.ServesDesks served quiet journal times → AreToServe gives words output errors served journal times
    done request _ asked (running.serves_desks named path cell certificate recipes own stamped is_asked cleared kept silent) is =
        let same : own ≡ served = cc in
        let names : named ≡ journal = cc in
        let stamps : stamped ≡ times = cc in
        record {
          path = path;
          cell = cell;
          certificate = certificate;
          recipes = recipes;
          asked = subst (λ t. AskFor words (serve_desks (option_map string_bytes journal) path cell certificate recipes t)) stamps
              (subst (λ (j : Option (String Global)). AskFor words (serve_desks (option_map string_bytes j) path cell certificate recipes stamped)) names (subst (AskFor words) is_asked asked));
          cleared = subst (λ (s : DeskSet). AreDesksCleared gives path cell certificate recipes s.desks s.digested.set s.digested.documents.text) same cleared;
          unwritten = kept;
        }
    done request _ asked (running.serves _ _ _ _ _ _) is = absurd cc
    done request _ asked (running.remarks _ _ _ _ _ _ _) is = absurd cc
    done request _ asked (running.judges _ _ _ _ _ _ _) is = absurd cc
    done request _ asked (running.writes _ _ _ _ _ _) is = absurd cc
    done request _ asked (running.explains _ _ _ _) is = absurd cc
    done request _ asked (running.halts _ _ _ _ _) is = absurd cc
    done request _ asked (running.keeps _ _ _ _ _ _ _ _ _ _) is = absurd cc
    done request _ asked (running.reads _ _ _ _) is = absurd cc
    done request _ asked (running.draws _ _ _ _) is = absurd cc
    done request _ asked (running.audits _ _ _ _ _ _) is = absurd cc
    done request _ asked (running.plants _ _ _ _ _ _ _) is = absurd cc
desks_to_serve gives words output errors _ served quiet journal times (running.helps _ _ _ _) is = absurd cc
desks_to_serve gives words output errors _ served quiet journal times (running.misuses _ _) is = absurd cc
desks_to_serve gives words output errors _ served quiet journal times (running.starves _) is = absurd cc

-- the record, after the writer was left as it was
record_on : (times : Bool) (set : ClearedSet) (names : List (List ℕ)) (before mid after : Option (List ℕ)) → Keeps before mid
    → IsDesksRecord times set names (record { before = mid; after = after }) → IsDesksRecord times set names (record { before = before; after = after })
record_on times set names before mid after kept r = record {
  runs = r.runs;
  answers = r.answers;
  new = r.new;
  safe = r.safe;
  written = record { all = r.written.all; appends = kept_then_appended before mid after r.written.all kept r.written.appends; timed = r.written.timed };
}

served_kept : (times : Bool) (set : ClearedSet) (names : List (List ℕ)) (before mid after : Option (List ℕ)) (served : Result ℕ DesksFault) → Keeps before mid
    → IfOk served (λ left. IsDesksRecord times set names (record { before = mid; after = after }))
    → IfOk served (λ left. IsDesksRecord times set names (record { before = before; after = after }))
served_kept times set names before mid after (Ok left) kept r = record_on times set names before mid after kept r
served_kept times set names before mid after (Err fault) kept r = tt

-- with a journal or without one
pub desks_kept : (files : JournalFiles) (set : ClearedSet) (digits : List ℕ) (names : List (List ℕ)) (journal : Option (List ℕ)) (times : Bool) (before mid after : Option (List ℕ)) (status : ℕ)
    → Keeps before mid → AreDesksRun files set digits names journal times (record { before = mid; after = after }) status
    → AreDesksRun files set digits names journal times (record { before = before; after = after }) status
desks_kept files set digits names None times before mid after status kept (served, ran, is) = (served, served_kept times set names before mid after served kept ran, is)
desks_kept files set digits names (Some path) times before mid after status kept run =
    run_over_kept files set digits path (λ start end. AreDesksOn files.disks times set names end after status) before mid after status kept run

fault_fails : (fault : DesksFault) → status_of_fault fault ≡ 0 → ⊥
fault_fails Memory is = cc
fault_fails Thread is = cc
fault_fails Journal is = cc
fault_fails Record is = cc
fault_fails RoundsOut is = cc

ran_well : (times : Bool) (set : ClearedSet) (names : List (List ℕ)) (output : Stream) (served : Result ℕ DesksFault) → IfOk served (λ left. IsDesksRecord times set names output)
    → status_of_desks served ≡ 0 → IsDesksRecord times set names output
ran_well times set names output (Ok left) r is = r
ran_well times set names output (Err fault) r is = absurd (fault_fails fault is)

-- with status 0 nothing had stopped serving, and each status is one of three
pub desks_well : (served : Result ℕ DesksFault) (status : ℕ) → status ≡ status_of_desks served → status ≡ success_status → IsOk served
desks_well (Ok left) status is well = refl
desks_well (Err fault) status is well = absurd (fault_fails fault (sym is ∙ well))

fault_ends : (fault : DesksFault) → (status_of_fault fault ≡ success_status) ⊎ (status_of_fault fault ≡ fault_status) ⊎ (status_of_fault fault ≡ memory_status)
fault_ends Memory = inr (inr refl)
fault_ends Thread = inr (inr refl)
fault_ends Journal = inr (inl refl)
fault_ends Record = inr (inl refl)
fault_ends RoundsOut = inr (inl refl)

pub not_well : (status : ℕ) → (status ≡ fault_status) ⊎ (status ≡ memory_status) → status ≡ success_status → ⊥
not_well status (inl failed) is = cc
not_well status (inr memory) is = cc

pub desks_ends : (served : Result ℕ DesksFault) (status : ℕ) → status ≡ status_of_desks served
    → (status ≡ success_status) ⊎ (status ≡ fault_status) ⊎ (status ≡ memory_status)
desks_ends (Ok left) status is = inl is
desks_ends (Err fault) status is = rw is (fault_ends fault)

-- a request for desks is one for these
same_desks : (gives : Gives) (files : JournalFiles) (named other : Option Text) (times other_times : Bool) (path cell certificate p c k : Text) (recipes rs : List Text) (desks : Desks)
    (set : ClearedSet) (digits : List ℕ) (output : Stream) (status : ℕ) → serve_desks other p c k rs other_times ≡ serve_desks named path cell certificate recipes times
    → AreDesksCleared gives p c k rs desks set digits → AreDesksRun files set digits (desk_names desks.desks.items) other other_times output status
    → AreDesksCleared gives path cell certificate recipes desks set digits × AreDesksRun files set digits (desk_names desks.desks.items) named times output status
same_desks gives files named other times other_times path cell certificate p c k recipes rs desks set digits output status is cleared ran =
    let same_name : other ≡ named = cc in
    let same_path : p ≡ path = cc in
    let same_cell : c ≡ cell = cc in
    let same_certificate : k ≡ certificate = cc in
    let same_recipes : rs ≡ recipes = cc in
    let same_times : other_times ≡ times = cc in
    let names = desk_names desks.desks.items in (
      subst (λ x. AreDesksCleared gives x cell certificate recipes desks set digits) same_path
          (subst (λ x. AreDesksCleared gives p x certificate recipes desks set digits) same_cell
          (subst (λ x. AreDesksCleared gives p c x recipes desks set digits) same_certificate
          (subst (λ x. AreDesksCleared gives p c k x desks set digits) same_recipes cleared))),
      subst (λ t. AreDesksRun files set digits names named t output status) same_times
          (subst (λ (n : Option Text). AreDesksRun files set digits names n other_times output status) same_name ran),
    )

-- a run that was to serve desks, and ends with status 0, has done so
module _ (gives : Gives) (holds : Holds) (files : JournalFiles) (words : List Text) (ends : serving.Ends) (errors : Stream) (named : Option Text) (path cell certificate : Text)
    (recipes : List Text) (times : Bool) where
  pub desks_ran : (status : ℕ) → AskFor words (serve_desks named path cell certificate recipes times) → IsProgramRun gives holds files words ends errors status → status ≡ 0
      → (desks : Desks) × (set : ClearedSet) × (digits : List ℕ) × AreDesksCleared gives path cell certificate recipes desks set digits
      × AreDesksRun files set digits (desk_names desks.desks.items) named times (output_of ends) status
  desks_ran _ asked (tells status came _) is =
      absurd (told_at_once gives words (output_of ends) errors (serve_desks named path cell certificate recipes times) status asked came is)
  desks_ran _ asked (writes file judgement _ _ _ asked2 _ _ _ _) is = absurd (let same = same_request words _ _ asked asked2 in cc)
  desks_ran _ asked (serves source _ _ asked2 _ _ _) is = absurd (let same = same_request words _ _ asked asked2 in cc)
  desks_ran _ asked (remarks source echo stamped _ _ asked2 _ _ _) is = absurd (let same = same_request words _ _ asked asked2 in cc)
  desks_ran _ asked (keeps journal other ranks others echo stamped _ _ _ asked2 _ _) is =
      absurd (let same = same_request words _ _ asked asked2 in cc)
  desks_ran _ asked (reads record_path _ asked2 _) is = absurd (let same = same_request words _ _ asked asked2 in cc)
  desks_ran _ asked (draws record_path _ asked2 _) is = absurd (let same = same_request words _ _ asked asked2 in cc)
  desks_ran _ asked (audits beginning record_path source _ _ asked2 _ _) is = absurd (let same = same_request words _ _ asked asked2 in cc)
  desks_ran _ asked (plants planted _ options _ _ asked2 _ _ _ _) is =
      absurd (let same = same_request words _ _ asked asked2 in cc)
  desks_ran _ asked (serves_desks other p c k rs stamped desks set digits status asked2 cleared ran _) is =
      let (all, done) = same_desks gives files named other times stamped path cell certificate p c k recipes rs desks set digits (output_of ends) status
      (same_request words _ _ asked2 asked) cleared ran in
      (desks, set, digits, all, done)

pub desks_are_safe : (gives : Gives) (holds : Holds) (files : JournalFiles) → DesksAreSafe gives holds files
desks_are_safe gives holds files words ends errors path cell certificate recipes times asked came =
    let (desks, set, digits, cleared, run) = desks_ran gives holds files words ends errors None path cell certificate recipes times 0 asked came refl in
    (desks, set, digits, cleared, ran_well times set (desk_names desks.desks.items) (output_of ends) run.0 run.1 (sym run.2))

-- desks that were served from an engine's opening have a safe transcript
pub record_served : (times again : Bool) (safe : Type 0) (kept_before kept_after : List ℕ) (set : ClearedSet) (engine : EngineView) (names : List (List ℕ)) (before after : Option (List ℕ))
    (r : Result ℕ DesksFault) → ServiceIsSafe set → engine.cleared ≡ set → plant_of engine ≡ opening
    → OnOk r (AreDesksServed times (record { set = engine.cleared; names = names; plant = plant_of engine; kept = kept_before; recorded = before; again = again }) safe kept_after after)
    → OnOk r (IsDesksRecord times set names (record { before = before; after = after }))
record_served times again safe kept_before kept_after set engine names before after (Ok left) is_safe cleared stood served = record {
  runs = served.runs;
  answers = served.answers;
  new = served.new;
  safe = is_safe served.runs served.answers served.new
      (subst (λ (s : ClearedSet). AreServed (setup s) opening served.runs served.answers served.new) cleared
      (subst (λ (p : Plant). AreServed (setup engine.cleared) p served.runs served.answers served.new) stood served.served));
  written = served.is_recorded;
}
record_served times again safe kept_before kept_after set engine names before after (Err fault) is_safe cleared stood served = tt
