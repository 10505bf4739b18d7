-- Runs of the program by their requests, the safety of serving, and the completeness of a plant.
use Rattle.std.proofs.Common.{◌≡◌, ◌⊎◌, ℕ, zero, suc, ◌≤◌, Bool, true, false, List, Option, Some, None, Result, Ok, Err, IfOk, inl, inr, refl, subst, arith, ◌∙◌}
use Rattle.std.specs.{Prelude.◌||◌, Prelude.IfSome, Prelude.String, Prelude.option_map, Prelude.string_bytes, Prelude.take, Global.Global, Io.KnownBytes.Appends, Io.KnownBytes.Keeps}
use Rattle.clap.specs.Walk.{Text}
use Rattle.batch_verify.specs.ClearedSet.{ClearedSet}
use Rattle.batch_model.specs.Plant.{Plant, Setup}
use Rattle.batch_engine.specs.View.{setup}
use Rattle.batch_wire.specs.{Transcript.lines_of, Transcript.whole_lines, Written.AppendsBeginning}
use Rattle.batch_serve.specs.{Safe.BeginsSafely, Safe.WritesSafely, Safe.WritesWholeSafely, Serves.AnswersAll, Serves.Serves, Serves.WritesTo, declared.fault.ServeFault.TheVariants.Read, declared.fault.ServeFault.TheVariants.Write, declared.fault.ServeFault.TheVariants.TooManyReads, declared.fault.SetFault.SetFault, declared.fault.SetFault.TheVariants.Memory, declared.fault.SetFault.TheVariants.Stopped}
use Rattle.batch_cli.specs.{declared.comments.Comments.Comments, CommandLine.Request, CommandLine.SetSource, CommandLine.audit, CommandLine.plant, CommandLine.serve, CommandLine.source_of, CommandLine.tell, CommandLine.keep, CommandLine.picture, declared.command.AuditWords.AuditWords, declared.plant_options.PlantOptions.PlantOptions}
use Rattle.batch_verdicts.{specs.Reading.Gives, specs.Requests.IsSetOf, specs.Running.AskFor, specs.Running.IsAnnounced, specs.Running.IsDone, specs.Running.IsExplained, specs.Running.IsPrinted, specs.Running.IsRun, specs.Running.IsUnwritten, specs.Running.Stream, specs.Running.ask_quiet, specs.Running.fault_status, specs.Running.success_status, specs.Running.usage_status, specs.Running.memory_status, specs.Statuses.IsSuccess, proofs.Successes.done_keeping, proofs.Successes.done_serving, proofs.Successes.every_in_range, proofs.Successes.same_request, proofs.Successes.success_is_told, specs.Judging.status_of, specs.declared.course.Course.Course, specs.declared.course.Course.TheVariants.Ends, specs.declared.refusal.Halt.Halt, specs.declared.refusal.RefusalKind.RefusalKind, specs.declared.refusal.RefusalKind.TheVariants.Fault, specs.declared.refusal.RefusalKind.TheVariants.OutOfMemory, specs.Digested.AreDigested, specs.declared.digested.Digested.Digested}
use Rattle.batch_verdicts.specs.Running as running
use Rattle.batch_verdicts.specs.declared.course.Course.TheVariants as course_of
use Rattle.batch_verdicts.specs.declared.refusal.Halt.TheVariants as halt
use Rattle.batch_serve.specs.Serves as serving
use Rattle.batch_program.specs.{declared.program.TheConstants.MAX_READS, Programs.IsLeftTold, Programs.IsProgramRun, Programs.PlantsAreComplete, Programs.ServingIsSafe, Programs.tells, Programs.serves, Programs.serves_desks, Programs.reads, Programs.audits, Programs.plants, Programs.status_of_serving, Programs.keeps, Programs.writes, Programs.remarks, Programs.draws, AuditRuns.IsAuditTold, AuditRuns.finding_status, AuditRuns.finding_text, JournalRuns.Behind, JournalRuns.DiskKind, JournalRuns.IsJournalRefused, JournalRuns.IsJournalRun, JournalRuns.IsJournalTold, JournalRuns.IsRunOver, JournalRuns.IsShownBehind, JournalRuns.JournalFiles, DeskRuns.AreDesksOn, DeskRuns.AreDesksRun, DeskRuns.status_of_desks, DeskRuns.status_of_fault, FileWriting.IsWritten, PlantRuns.HasRun, PlantRuns.IsPlantTold, PlantRuns.plant_text, PlantRuns.refused_status, DrawingRuns.IsPictureDrawn, DrawingRuns.IsRecordDrawn, RecordRuns.Holds, RecordRuns.IsRecordTold, RecordRuns.IsStatusTold, RecordRuns.IsUntold, RecordRuns.prints, RecordRuns.refuses, RecordRuns.stops, RecordRuns.no_record_text, RecordRuns.output_of}
use Rattle.batch_plant.specs.declared.plant_fault.PlantFault.{PlantFault}
use Rattle.batch_plant.specs.declared.plant_fault.PlantFault.TheVariants as plant_fault
use Rattle.batch_keep.specs.declared.finding.Finding.{Finding, TheVariants.Agrees, TheVariants.Differs, TheVariants.EndsBefore}
use Rattle.batch_program.specs.AuditRuns as auditing
use Rattle.batch_program.specs.JournalRuns as journal
use Rattle.batch_journal.specs.declared.recovery.RecoveryFault.{RecoveryFault}
use Rattle.batch_reader.specs.DeskNames.{desk_names}
use Rattle.batch_pipes.specs.declared.fault.DesksFault.{DesksFault}
use Rattle.batch_pipes.specs.declared.fault.DesksFault.TheVariants as desks_fault
use Rattle.batch_program.specs.DrawingRuns as drawing
use Rattle.batch_record.specs.Pictures.{picture_text}

-- Streams

-- After a write that left the bytes as they were

pub kept_then_appended : (before mid after : Option (List ℕ)) (text : List ℕ) → Keeps before mid → Appends mid after text → Appends before after text
kept_then_appended None mid after text kept appended = tt
kept_then_appended (Some xs) None after text kept appended = absurd kept
kept_then_appended (Some xs) (Some ys) None text kept appended = absurd appended
kept_then_appended (Some xs) (Some ys) (Some zs) text kept appended = rw (← kept) appended

kept_then_begun : (before mid after : Option (List ℕ)) (text : List ℕ) → Keeps before mid → AppendsBeginning mid after text → AppendsBeginning before after text
kept_then_begun before mid after text kept begun =
    record { written = begun.written; rest = begun.rest; splits = begun.splits; appends = kept_then_appended before mid after begun.written kept begun.appends }

pub kept_then_kept : (before mid after : Option (List ℕ)) → Keeps before mid → Keeps mid after → Keeps before after
kept_then_kept None mid after kept more = tt
kept_then_kept (Some xs) None after kept more = absurd kept
kept_then_kept (Some xs) (Some ys) None kept more = absurd more
kept_then_kept (Some xs) (Some ys) (Some zs) kept more = more ∙ kept

written_kept : (c : Setup) (lines : List (List ℕ)) (before mid after : Option (List ℕ)) → Keeps before mid
    → WritesSafely c lines mid after → WritesSafely c lines before after
written_kept c lines before mid after kept written =
    record { said = written.said; new = written.new; transcript = written.transcript; appends = kept_then_appended before mid after written.said.text kept written.appends }

begun_kept : (c : Setup) (lines : List (List ℕ)) (before mid after : Option (List ℕ)) → Keeps before mid
    → BeginsSafely c lines mid after → BeginsSafely c lines before after
begun_kept c lines before mid after kept begins =
    record { said = begins.said; new = begins.new; transcript = begins.transcript; begins = kept_then_begun before mid after begins.said.text kept begins.begins }

all_kept : (set : ClearedSet) (n : ℕ) (unread before mid after : Option (List ℕ)) → Keeps before mid
    → IfSome unread (λ input. WritesTo set n (lines_of input) mid after) → IfSome unread (λ input. WritesTo set n (lines_of input) before after)
all_kept set n None before mid after kept all = tt
all_kept set n (Some input) before mid after kept (written, count) = (
  record { said = written.said; new = written.new; transcript = written.transcript; appends = kept_then_appended before mid after written.said.text kept written.appends },
  count,
)

first_kept : (c : Setup) (unread before mid after : Option (List ℕ)) → Keeps before mid
    → IfSome unread (λ input. (n : ℕ) × BeginsSafely c (take n (lines_of input)) mid after)
    → IfSome unread (λ input. (n : ℕ) × BeginsSafely c (take n (lines_of input)) before after)
first_kept c None before mid after kept begins = tt
first_kept c (Some input) before mid after kept (n, begins) = (n, begun_kept c (take n (lines_of input)) before mid after kept begins)

whole_kept : (c : Setup) (unread left before mid after : Option (List ℕ)) → Keeps before mid
    → WritesWholeSafely c unread left mid after → WritesWholeSafely c unread left before after
whole_kept c unread left before mid after kept whole =
    record { read = whole.read; consumes = whole.consumes; writes = written_kept c (whole_lines whole.read) before mid after kept whole.writes }

-- serving, after the writer was left as it was
pub served_kept : (set : ClearedSet) (n : ℕ) (served : Result ℕ SetFault) (unread left before mid after : Option (List ℕ)) → Keeps before mid
    → Serves set n served (record { unread = unread; left = left; before = mid; after = after })
    → Serves set n served (record { unread = unread; left = left; before = before; after = after })
served_kept set n (Ok unfinished) unread left before mid after kept all =
    record { writes = all_kept set unfinished unread before mid after kept all.writes; ended = all.ended }
served_kept set n (Err (Stopped Read)) unread left before mid after kept whole = whole_kept (setup set) unread left before mid after kept whole
served_kept set n (Err (Stopped TooManyReads)) unread left before mid after kept (whole, many) =
    (whole_kept (setup set) unread left before mid after kept whole, many)
served_kept set n (Err (Stopped Write)) unread left before mid after kept first = first_kept (setup set) unread before mid after kept first
served_kept set n (Err Memory) unread left before mid after kept (unread_kept, more) = (unread_kept, kept_then_kept before mid after kept more)

-- telling how many batches are left, after the errors were left as they were
pub left_kept : (quiet : Bool) (before mid after : Option (List ℕ)) (served : Result ℕ SetFault) → Keeps before mid
    → IfOk served (IsLeftTold quiet (record { before = mid; after = after })) → IfOk served (IsLeftTold quiet (record { before = before; after = after }))
left_kept quiet before mid after (Err fault) kept told = tt
left_kept true before mid after (Ok left) kept told = kept_then_kept before mid after kept told
left_kept false before mid after (Ok zero) kept told = kept_then_kept before mid after kept told
left_kept false before mid after (Ok (suc more)) kept told =
    record { written = told.written; rest = told.rest; splits = told.splits; appends = kept_then_appended before mid after told.written kept told.appends }

-- The set

-- the set that is to be served is that of the documents that the words name, quietly if they ask for that, and nothing was written
pub record IsToServe (gives : Gives) (words : List Text) (output errors : Stream) (set : ClearedSet) (quiet : Bool) : Type 0 where
  pub source : SetSource
  pub asked : AskFor words (serve source)
  pub is_set : IsSetOf gives source set
  pub unwritten : Keeps output.before output.after
  pub silent : Keeps errors.before errors.after
  pub hushed : quiet ≡ ask_quiet words

pub set_to_serve : (gives : Gives) (words : List Text) (output errors : Stream) (course : Course) (set : ClearedSet) (quiet : Bool)
    → IsRun gives words output errors course → course ≡ course_of.Serves set quiet → IsToServe gives words output errors set quiet
set_to_serve gives words output errors _ set quiet (running.commands request course asked came) is =
    let (serving, hushed) = done_serving gives request (ask_quiet words) output errors set quiet course came is in
    record {
      source = serving.source;
      asked = rw (← serving.asked) asked;
      is_set = serving.is_set;
      unwritten = serving.unwritten;
      silent = serving.silent;
      hushed = hushed;
    }
set_to_serve gives words output errors _ set quiet (running.helps _ _ _ _) is = absurd cc
set_to_serve gives words output errors _ set quiet (running.misuses _ _) is = absurd cc
set_to_serve gives words output errors _ set quiet (running.starves _) is = absurd cc

-- The plant

-- a plant that is to be run, with nothing written before
record IsPlanting (gives : Gives) (request : Request) (set : ClearedSet) (options : PlantOptions) (output errors : Stream) : Type 0 where
  pub source : SetSource
  pub asked : request ≡ plant source options.batches options.ticks options.ring
  pub is_set : IsSetOf gives source set
  pub unwritten : IsUnwritten output
  pub silent : IsUnwritten errors

-- the same of a plant, by the words
pub record IsToPlant (gives : Gives) (words : List Text) (set : ClearedSet) (options : PlantOptions) (output errors : Stream) : Type 0 where
  pub source : SetSource
  pub asked : AskFor words (plant source options.batches options.ticks options.ring)
  pub is_set : IsSetOf gives source set
  pub unwritten : IsUnwritten output
  pub silent : IsUnwritten errors

done_to_plant : (gives : Gives) (request : Request) (quiet : Bool) (output errors : Stream) (course : Course) (set : ClearedSet) (options : PlantOptions)
    → IsDone gives request quiet output errors course → course ≡ course_of.Plants set options
    → IsPlanting gives request set options output errors
done_to_plant gives request quiet output errors _ set options (running.plants source other own asked cleared kept silent) is =
    let same : other ≡ set = cc in
    let chosen : own ≡ options = cc in
    record {
      source = source;
      asked = subst (λ (o : PlantOptions). request ≡ plant source o.batches o.ticks o.ring) chosen asked;
      is_set = subst (IsSetOf gives source) same cleared;
      unwritten = kept;
      silent = silent;
    }
done_to_plant gives request quiet output errors _ set options (running.serves _ _ _ _ _ _) is = absurd cc
done_to_plant gives request quiet output errors _ set options (running.keeps _ _ _ _ _ _ _ _ _ _) is = absurd cc
done_to_plant gives request quiet output errors _ set options (running.remarks _ _ _ _ _ _ _) is = absurd cc
done_to_plant gives request quiet output errors _ set options (running.reads _ _ _ _) is = absurd cc
done_to_plant gives request quiet output errors _ set options (running.draws _ _ _ _) is = absurd cc
done_to_plant gives request quiet output errors _ set options (running.audits _ _ _ _ _ _) is = absurd cc
done_to_plant gives request quiet output errors _ set options (running.serves_desks _ _ _ _ _ _ _ _ _ _ _) is = absurd cc
done_to_plant gives request quiet output errors _ set options (running.writes _ _ _ _ _ _) is = absurd cc
done_to_plant gives request quiet output errors _ set options (running.halts _ _ _ _ _) is = absurd cc
done_to_plant gives request quiet output errors _ set options (running.judges _ _ _ _ _ _ _) is = absurd cc
done_to_plant gives request quiet output errors _ set options (running.explains _ _ _ _) is = absurd cc

-- the plant that is to be run is of the set that the words name, with the options that they have, and nothing was written
pub plant_to_run : (gives : Gives) (words : List Text) (output errors : Stream) (course : Course) (set : ClearedSet) (options : PlantOptions)
    → IsRun gives words output errors course → course ≡ course_of.Plants set options
    → IsToPlant gives words set options output errors
plant_to_run gives words output errors _ set options (running.commands request course asked came) is =
    let own = done_to_plant gives request (ask_quiet words) output errors course set options came is in
    record { source = own.source; asked = rw (← own.asked) asked; is_set = own.is_set; unwritten = own.unwritten; silent = own.silent }
plant_to_run gives words output errors _ set options (running.helps _ _ _ _) is = absurd cc
plant_to_run gives words output errors _ set options (running.misuses _ _) is = absurd cc
plant_to_run gives words output errors _ set options (running.starves _) is = absurd cc

printed_kept : (before mid after quiet still loud : Option (List ℕ)) (text : List ℕ) (wanted status : ℕ) → Keeps before mid → Keeps quiet still
    → IsPrinted (record { before = mid; after = after }) (record { before = still; after = loud }) text wanted status
    → IsPrinted (record { before = before; after = after }) (record { before = quiet; after = loud }) text wanted status
printed_kept before mid after quiet still loud text wanted status kept silent (inl (appends, untouched, is)) =
    inl (kept_then_appended before mid after text kept appends, kept_then_kept quiet still loud silent untouched, is)
printed_kept before mid after quiet still loud text wanted status kept silent (inr fault) = inr fault

-- telling the end of a plant, after the streams were left as they were
pub told_kept : (before mid after quiet still loud : Option (List ℕ)) (batches : ℕ) (end : Result ℕ PlantFault) (status : ℕ) → Keeps before mid → Keeps quiet still
    → IsPlantTold (record { before = mid; after = after }) (record { before = still; after = loud }) batches end status
    → IsPlantTold (record { before = before; after = after }) (record { before = quiet; after = loud }) batches end status
told_kept before mid after quiet still loud batches (Ok handled) status kept silent (inl printed) =
    inl (printed_kept before mid after quiet still loud (plant_text batches handled) 0 status kept silent printed)
told_kept before mid after quiet still loud batches (Ok handled) status kept silent (inr (untouched, is)) =
    inr (kept_then_kept before mid after kept untouched, is)
told_kept before mid after quiet still loud batches (Err plant_fault.TurnsOut) status kept silent printed =
    printed_kept before mid after quiet still loud _ refused_status status kept silent printed
told_kept before mid after quiet still loud batches (Err plant_fault.Memory) status kept silent (untouched, is) =
    (kept_then_kept before mid after kept untouched, is)
told_kept before mid after quiet still loud batches (Err plant_fault.Thread) status kept silent (untouched, is) =
    (kept_then_kept before mid after kept untouched, is)
told_kept before mid after quiet still loud batches (Err plant_fault.Refused) status kept silent (untouched, is) =
    (kept_then_kept before mid after kept untouched, is)
told_kept before mid after quiet still loud batches (Err plant_fault.Unclosed) status kept silent (untouched, is) =
    (kept_then_kept before mid after kept untouched, is)

-- Records

done_to_read : (gives : Gives) (request : Request) (quiet : Bool) (output errors : Stream) (course : Course) (path : Option (String Global))
    → IsDone gives request quiet output errors course → course ≡ course_of.Reads path
    → (request ≡ tell (option_map string_bytes path)) × IsUnwritten output × IsUnwritten errors
done_to_read gives request quiet output errors _ path (running.reads other asked kept silent) is =
    let same : other ≡ path = cc in
    (subst (λ (p : Option (String Global)). request ≡ tell (option_map string_bytes p)) same asked, kept, silent)
done_to_read gives request quiet output errors _ path (running.serves _ _ _ _ _ _) is = absurd cc
done_to_read gives request quiet output errors _ path (running.keeps _ _ _ _ _ _ _ _ _ _) is = absurd cc
done_to_read gives request quiet output errors _ path (running.remarks _ _ _ _ _ _ _) is = absurd cc
done_to_read gives request quiet output errors _ path (running.plants _ _ _ _ _ _ _) is = absurd cc
done_to_read gives request quiet output errors _ path (running.audits _ _ _ _ _ _) is = absurd cc
done_to_read gives request quiet output errors _ path (running.serves_desks _ _ _ _ _ _ _ _ _ _ _) is = absurd cc
done_to_read gives request quiet output errors _ path (running.writes _ _ _ _ _ _) is = absurd cc
done_to_read gives request quiet output errors _ path (running.halts _ _ _ _ _) is = absurd cc
done_to_read gives request quiet output errors _ path (running.judges _ _ _ _ _ _ _) is = absurd cc
done_to_read gives request quiet output errors _ path (running.explains _ _ _ _) is = absurd cc
done_to_read gives request quiet output errors _ path (running.draws _ _ _ _) is = absurd cc

-- the record that is to be read is the one that the words name, and nothing was written
pub record_to_read : (gives : Gives) (words : List Text) (output errors : Stream) (course : Course) (path : Option (String Global))
    → IsRun gives words output errors course → course ≡ course_of.Reads path
    → AskFor words (tell (option_map string_bytes path)) × IsUnwritten output × IsUnwritten errors
record_to_read gives words output errors _ path (running.commands request course asked came) is =
    let (named, kept, silent) = done_to_read gives request (ask_quiet words) output errors course path came is in
    (rw (← named) asked, kept, silent)
record_to_read gives words output errors _ path (running.helps _ _ _ _) is = absurd cc
record_to_read gives words output errors _ path (running.misuses _ _) is = absurd cc
record_to_read gives words output errors _ path (running.starves _) is = absurd cc

status_kept : (unread before mid after quiet still loud : Option (List ℕ)) (status : ℕ) → Keeps before mid → Keeps quiet still
    → IsStatusTold unread (record { before = mid; after = after }) (record { before = still; after = loud }) status
    → IsStatusTold unread (record { before = before; after = after }) (record { before = quiet; after = loud }) status
status_kept unread before mid after quiet still loud status kept silent (prints text told printed) =
    prints text told (printed_kept before mid after quiet still loud text success_status status kept silent printed)
status_kept unread before mid after quiet still loud status kept silent (refuses number refused printed) =
    refuses number refused (printed_kept before mid after quiet still loud (no_record_text number) refused_status status kept silent printed)
status_kept unread before mid after quiet still loud status kept silent (stops (untouched, is)) =
    stops (kept_then_kept before mid after kept untouched, is)

-- printing the state to which a record leads, after the streams were left as they were
pub record_kept : (holds : Holds) (path : Option Text) (unread left before mid after quiet still loud : Option (List ℕ)) (status : ℕ)
    → Keeps before mid → Keeps quiet still
    → IsRecordTold holds path (record { unread = unread; left = left; before = mid; after = after }) (record { before = still; after = loud }) status
    → IsRecordTold holds path (record { unread = unread; left = left; before = before; after = after }) (record { before = quiet; after = loud }) status
record_kept holds None unread left before mid after quiet still loud status kept silent told =
    status_kept unread before mid after quiet still loud status kept silent told
record_kept holds (Some path) unread left before mid after quiet still loud status kept silent (same, inl (given, held, told)) =
    (same, inl (given, held, status_kept given before mid after quiet still loud status kept silent told))
record_kept holds (Some path) unread left before mid after quiet still loud status kept silent (same, inr (untouched, is)) =
    (same, inr (kept_then_kept before mid after kept untouched, is))

-- Pictures of records

done_to_draw : (gives : Gives) (request : Request) (quiet : Bool) (output errors : Stream) (course : Course) (path : Option (String Global))
    → IsDone gives request quiet output errors course → course ≡ course_of.Draws path
    → (request ≡ picture (option_map string_bytes path)) × IsUnwritten output × IsUnwritten errors
done_to_draw gives request quiet output errors _ path (running.draws other asked kept silent) is =
    let same : other ≡ path = cc in
    (subst (λ (p : Option (String Global)). request ≡ picture (option_map string_bytes p)) same asked, kept, silent)
done_to_draw gives request quiet output errors _ path (running.serves _ _ _ _ _ _) is = absurd cc
done_to_draw gives request quiet output errors _ path (running.keeps _ _ _ _ _ _ _ _ _ _) is = absurd cc
done_to_draw gives request quiet output errors _ path (running.remarks _ _ _ _ _ _ _) is = absurd cc
done_to_draw gives request quiet output errors _ path (running.reads _ _ _ _) is = absurd cc
done_to_draw gives request quiet output errors _ path (running.plants _ _ _ _ _ _ _) is = absurd cc
done_to_draw gives request quiet output errors _ path (running.audits _ _ _ _ _ _) is = absurd cc
done_to_draw gives request quiet output errors _ path (running.serves_desks _ _ _ _ _ _ _ _ _ _ _) is = absurd cc
done_to_draw gives request quiet output errors _ path (running.halts _ _ _ _ _) is = absurd cc
done_to_draw gives request quiet output errors _ path (running.judges _ _ _ _ _ _ _) is = absurd cc
done_to_draw gives request quiet output errors _ path (running.explains _ _ _ _) is = absurd cc
done_to_draw gives request quiet output errors _ path (running.writes _ _ _ _ _ _) is = absurd cc

-- the record that is to be drawn is the one that the words name, and nothing was written
pub record_to_draw : (gives : Gives) (words : List Text) (output errors : Stream) (course : Course) (path : Option (String Global))
    → IsRun gives words output errors course → course ≡ course_of.Draws path
    → AskFor words (picture (option_map string_bytes path)) × IsUnwritten output × IsUnwritten errors
record_to_draw gives words output errors _ path (running.commands request course asked came) is =
    let (named, kept, silent) = done_to_draw gives request (ask_quiet words) output errors course path came is in
    (rw (← named) asked, kept, silent)
record_to_draw gives words output errors _ path (running.helps _ _ _ _) is = absurd cc
record_to_draw gives words output errors _ path (running.misuses _ _) is = absurd cc
record_to_draw gives words output errors _ path (running.starves _) is = absurd cc

picture_kept : (unread before mid after quiet still loud : Option (List ℕ)) (status : ℕ) → Keeps before mid → Keeps quiet still
    → IsPictureDrawn unread (record { before = mid; after = after }) (record { before = still; after = loud }) status
    → IsPictureDrawn unread (record { before = before; after = after }) (record { before = quiet; after = loud }) status
picture_kept unread before mid after quiet still loud status kept silent (drawing.pictures own told printed) =
    drawing.pictures own told (printed_kept before mid after quiet still loud (picture_text own) success_status status kept silent printed)
picture_kept unread before mid after quiet still loud status kept silent (drawing.declines number refused printed) =
    drawing.declines number refused (printed_kept before mid after quiet still loud (no_record_text number) refused_status status kept silent printed)
picture_kept unread before mid after quiet still loud status kept silent (drawing.fails (untouched, is)) =
    drawing.fails (kept_then_kept before mid after kept untouched, is)

-- drawing a record, after the streams were left as they were
pub drawn_kept : (holds : Holds) (path : Option Text) (unread left before mid after quiet still loud : Option (List ℕ)) (status : ℕ)
    → Keeps before mid → Keeps quiet still
    → IsRecordDrawn holds path (record { unread = unread; left = left; before = mid; after = after }) (record { before = still; after = loud }) status
    → IsRecordDrawn holds path (record { unread = unread; left = left; before = before; after = after }) (record { before = quiet; after = loud }) status
drawn_kept holds None unread left before mid after quiet still loud status kept silent told =
    picture_kept unread before mid after quiet still loud status kept silent told
drawn_kept holds (Some path) unread left before mid after quiet still loud status kept silent (same, inl (given, held, told)) =
    (same, inl (given, held, picture_kept given before mid after quiet still loud status kept silent told))
drawn_kept holds (Some path) unread left before mid after quiet still loud status kept silent (same, inr (untouched, is)) =
    (same, inr (kept_then_kept before mid after kept untouched, is))

-- Audits

-- the record that the words name is to be audited, over the set of the documents that they name, and nothing was written
pub record IsToAudit (gives : Gives) (words : List Text) (output errors : Stream) (set : ClearedSet) (own : AuditWords) : Type 0 where
  pub asked : AskFor words (audit own.beginning (string_bytes own.path) (source_of own.source))
  pub is_set : IsSetOf gives (source_of own.source) set
  pub unwritten : Keeps output.before output.after
  pub silent : Keeps errors.before errors.after

done_to_audit : (gives : Gives) (words : List Text) (request : Request) (quiet : Bool) (output errors : Stream) (course : Course) (set : ClearedSet) (own : AuditWords)
    → AskFor words request → IsDone gives request quiet output errors course → course ≡ course_of.Audits set own → IsToAudit gives words output errors set own
done_to_audit gives words request quiet output errors _ set own asked (running.audits other cleared is_asked is_set kept silent) is =
    let same : cleared ≡ set = cc in
    let chosen : other ≡ own = cc in
    subst (IsToAudit gives words output errors set) chosen
    (record { asked = subst (AskFor words) is_asked asked; is_set = subst (IsSetOf gives (source_of other.source)) same is_set; unwritten = kept; silent = silent })
done_to_audit gives words request quiet output errors _ set own asked (running.serves _ _ _ _ _ _) is = absurd cc
done_to_audit gives words request quiet output errors _ set own asked (running.keeps _ _ _ _ _ _ _ _ _ _) is = absurd cc
done_to_audit gives words request quiet output errors _ set own asked (running.remarks _ _ _ _ _ _ _) is = absurd cc
done_to_audit gives words request quiet output errors _ set own asked (running.reads _ _ _ _) is = absurd cc
done_to_audit gives words request quiet output errors _ set own asked (running.draws _ _ _ _) is = absurd cc
done_to_audit gives words request quiet output errors _ set own asked (running.plants _ _ _ _ _ _ _) is = absurd cc
done_to_audit gives words request quiet output errors _ set own asked (running.halts _ _ _ _ _) is = absurd cc
done_to_audit gives words request quiet output errors _ set own asked (running.judges _ _ _ _ _ _ _) is = absurd cc
done_to_audit gives words request quiet output errors _ set own asked (running.explains _ _ _ _) is = absurd cc
done_to_audit gives words request quiet output errors _ set own asked (running.writes _ _ _ _ _ _) is = absurd cc
done_to_audit gives words request quiet output errors _ set own asked (running.serves_desks _ _ _ _ _ _ _ _ _ _ _) is = absurd cc

pub set_to_audit : (gives : Gives) (words : List Text) (output errors : Stream) (course : Course) (set : ClearedSet) (own : AuditWords)
    → IsRun gives words output errors course → course ≡ course_of.Audits set own → IsToAudit gives words output errors set own
set_to_audit gives words output errors _ set own (running.commands request course asked came) is =
    done_to_audit gives words request (ask_quiet words) output errors course set own asked came is
set_to_audit gives words output errors _ set own (running.helps _ _ _ _) is = absurd cc
set_to_audit gives words output errors _ set own (running.misuses _ _) is = absurd cc
set_to_audit gives words output errors _ set own (running.starves _) is = absurd cc

-- printing the finding on a record, after the streams were left as they were
pub audit_kept : (holds : Holds) (set : ClearedSet) (beginning : Bool) (path : Text) (unread left before mid after quiet still loud : Option (List ℕ)) (status : ℕ)
    → Keeps before mid → Keeps quiet still
    → IsAuditTold holds set beginning path (record { unread = unread; left = left; before = mid; after = after }) (record { before = still; after = loud }) status
    → IsAuditTold holds set beginning path (record { unread = unread; left = left; before = before; after = after }) (record { before = quiet; after = loud }) status
audit_kept holds set beginning path unread left before mid after quiet still loud status kept silent (auditing.finds given finding held found printed) =
    auditing.finds given finding held found
    (printed_kept before mid after quiet still loud (finding_text beginning finding) (finding_status beginning finding) status kept silent printed)
audit_kept holds set beginning path unread left before mid after quiet still loud status kept silent (auditing.stops (untouched, is)) =
    auditing.stops (kept_then_kept before mid after kept untouched, is)

-- A journal

-- the set that is to be served over a journal is that of the documents that the words name, and nothing was written
pub record IsToKeep (gives : Gives) (words : List Text) (output errors : Stream) (digested : Digested) (path : String Global) (comments : Comments) : Type 0 where
  pub cell : Text
  pub certificate : Text
  pub recipes : List Text
  pub asked : AskFor words (keep (string_bytes path) cell certificate recipes comments.echo comments.times)
  pub is_set : AreDigested gives cell certificate recipes digested.set digested.documents.text
  pub unwritten : Keeps output.before output.after

pub set_to_keep : (gives : Gives) (words : List Text) (output errors : Stream) (course : Course) (digested : Digested) (quiet : Bool) (path : String Global) (comments : Comments)
    → IsRun gives words output errors course → course ≡ course_of.Keeps digested quiet path comments → IsToKeep gives words output errors digested path comments
set_to_keep gives words output errors _ digested quiet path comments (running.commands request course asked came) is =
    let (keeping, _) = done_keeping gives request (ask_quiet words) output errors digested quiet path comments course came is in
    record {
      cell = keeping.cell;
      certificate = keeping.certificate;
      recipes = keeping.recipes;
      asked = rw (← keeping.asked) asked;
      is_set = keeping.is_set;
      unwritten = keeping.unwritten;
    }
set_to_keep gives words output errors _ digested quiet path comments (running.helps _ _ _ _) is = absurd cc
set_to_keep gives words output errors _ digested quiet path comments (running.misuses _ _) is = absurd cc
set_to_keep gives words output errors _ digested quiet path comments (running.starves _) is = absurd cc

untold_kept : (before mid after : Option (List ℕ)) (status : ℕ) → Keeps before mid → IsUntold (record { before = mid; after = after }) status
    → IsUntold (record { before = before; after = after }) status
untold_kept before mid after status kept (untouched, is) = (kept_then_kept before mid after kept untouched, is)

refusal_kept : (path : List ℕ) (fault : RecoveryFault) (before mid after : Option (List ℕ)) (status : ℕ) → Keeps before mid
    → IsJournalRefused path fault (record { before = mid; after = after }) status → IsJournalRefused path fault (record { before = before; after = after }) status
refusal_kept path fault before mid after status kept (inl (appends, is)) = inl (kept_then_appended before mid after _ kept appends, is)
refusal_kept path fault before mid after status kept (inr (inl is)) = inr (inl is)
refusal_kept path fault before mid after status kept (inr (inr (untouched, is))) = inr (inr (kept_then_kept before mid after kept untouched, is))

journal_told_kept : (disks : DiskKind) (set : ClearedSet) (digits path : List ℕ) (start end : disks.File) (behind : Behind) (before mid after : Option (List ℕ)) (status : ℕ) → Keeps before mid
    → IsJournalTold disks set digits path start end behind (record { before = mid; after = after }) status
    → IsJournalTold disks set digits path start end behind (record { before = before; after = after }) status
journal_told_kept disks set digits path start end behind before mid after status kept (journal.refuses fault refused told) =
    journal.refuses fault refused (refusal_kept path fault before mid after status kept told)
journal_told_kept disks set digits path start end behind before mid after status kept (journal.stops untold) =
    journal.stops (untold_kept before mid after status kept untold)
journal_told_kept disks set digits path start end behind before mid after status kept (journal.serves lines reached block middle are is_block appends so) =
    journal.serves lines reached block middle are is_block (kept_then_appended before mid middle block kept appends) so
journal_told_kept disks set digits path start end behind before mid after status kept (journal.fails lines reached block taken is_block begins is) =
    journal.fails lines reached block taken is_block (kept_then_begun before mid after block kept begins) is

-- a run over a journal, after the writer was left as it was
pub run_over_kept : (files : JournalFiles) (set : ClearedSet) (digits path : List ℕ) (behind : files.disks.File → files.disks.File → Behind) (before mid after : Option (List ℕ)) (status : ℕ) → Keeps before mid
    → IsRunOver files set digits path behind (record { before = mid; after = after }) status
    → IsRunOver files set digits path behind (record { before = before; after = after }) status
run_over_kept files set digits path behind before mid after status kept (inl (start, end, opens, fresh, over)) =
    inl (start, end, opens, fresh, record { any_moment = over.any_moment; untouched = over.untouched; told = journal_told_kept files.disks set digits path start end (behind start end) before mid after status kept over.told })
run_over_kept files set digits path behind before mid after status kept (inr untold) = inr (untold_kept before mid after status kept untold)

pub journal_kept : (files : JournalFiles) (set : ClearedSet) (digits path : List ℕ) (commented : Bool) (unread before mid after : Option (List ℕ)) (status : ℕ) → Keeps before mid
    → IsRunOver files set digits path (λ start end. IsShownBehind files.disks set digits commented start end unread after status) (record { before = mid; after = after }) status
    → IsRunOver files set digits path (λ start end. IsShownBehind files.disks set digits commented start end unread after status) (record { before = before; after = after }) status
journal_kept files set digits path commented unread before mid after status kept run =
    run_over_kept files set digits path (λ start end. IsShownBehind files.disks set digits commented start end unread after status) before mid after status kept run

-- Exit statuses

pub ran_to_the_end : (set : ClearedSet) (served : Result ℕ SetFault) (ends : serving.Ends) (quiet : Bool) (errors : Stream) → Serves set MAX_READS served ends
    → IfOk served (IsLeftTold quiet errors) → status_of_serving served ≡ 0 → (left : ℕ) × AnswersAll set left ends × IsLeftTold quiet errors left
ran_to_the_end set (Ok left) ends quiet errors all told is = (left, all, told)
ran_to_the_end set (Err Memory) ends quiet errors all told is = absurd cc
ran_to_the_end set (Err (Stopped fault)) ends quiet errors all told is = absurd cc

-- a run that ends with status 0 before it has served was no run to serve, and none of a plant
pub told_at_once : (gives : Gives) (words : List Text) (output errors : Stream) (request : Request) (status : ℕ)
    → AskFor words request → IsRun gives words output errors (Ends status) → status ≡ 0 → IsSuccess gives (ask_quiet words) request output errors
told_at_once gives words output errors request status asked came is =
    success_is_told gives words output errors request asked (subst (λ k. IsRun gives words output errors (Ends k)) is came)

same_source : (a b : SetSource) → serve a ≡ serve b → a ≡ b
same_source a b is = cc

safe_at : (gives : Gives) (holds : Holds) (files : JournalFiles) (words : List Text) (ends : serving.Ends) (errors : Stream) (source : SetSource) (status : ℕ)
    → AskFor words (serve source) → IsProgramRun gives holds files words ends errors status → status ≡ 0
    → (set : ClearedSet) × (left : ℕ) × IsSetOf gives source set × AnswersAll set left ends × IsLeftTold (ask_quiet words) errors left
safe_at gives holds files words ends errors source _ asked (tells status came _) is =
    absurd (told_at_once gives words (output_of ends) errors (serve source) status asked came is)
safe_at gives holds files words ends errors source _ asked (writes path judgement _ _ _ asked2 _ _ _ _) is =
    absurd (let same = same_request words _ _ asked asked2 in cc)
safe_at gives holds files words ends errors source _ asked (serves other set served asked2 is_set all told) is =
    let same = same_source other source (same_request words (serve other) (serve source) asked2 asked) in
    let (left, answers, says) = ran_to_the_end set served ends (ask_quiet words) errors all told is in
    (set, left, subst (λ s. IsSetOf gives s set) same is_set, answers, says)
safe_at gives holds files words ends errors source _ asked (keeps path cell certificate recipes echo times _ _ _ asked2 _ _) is =
    absurd (let same = same_request words _ _ asked asked2 in cc)
safe_at gives holds files words ends errors source _ asked (remarks other echo times _ _ asked2 _ _ _) is =
    absurd (let same = same_request words _ _ asked asked2 in cc)
safe_at gives holds files words ends errors source _ asked (reads path _ asked2 _) is =
    absurd (let same = same_request words _ _ asked asked2 in cc)
safe_at gives holds files words ends errors source _ asked (draws path _ asked2 _) is =
    absurd (let same = same_request words _ _ asked asked2 in cc)
safe_at gives holds files words ends errors source _ asked (serves_desks named path cell certificate recipes times _ _ _ _ asked2 _ _ _) is =
    absurd (let same = same_request words _ _ asked2 asked in cc)
safe_at gives holds files words ends errors source _ asked (audits beginning path other _ _ asked2 _ _) is =
    absurd (let same = same_request words _ _ asked asked2 in cc)
safe_at gives holds files words ends errors source _ asked (plants planted _ options _ _ asked2 _ _ _ _) is =
    absurd (let same = same_request words _ _ asked asked2 in cc)

pub serving_is_safe : (gives : Gives) (holds : Holds) (files : JournalFiles) → ServingIsSafe gives holds files
serving_is_safe gives holds files words ends errors source asked came = safe_at gives holds files words ends errors source 0 asked came refl

kind_in_range : (kind : RefusalKind) → status_of kind ≤ 4
kind_in_range Fault = omega arith
kind_in_range OutOfMemory = omega arith

printed_in_range : (output errors : Stream) (text : List ℕ) (wanted status : ℕ) → wanted ≤ 4 → IsPrinted output errors text wanted status → status ≤ 4
printed_in_range output errors text wanted status within (inl (_, _, same)) = rw same within
printed_in_range output errors text wanted status within (inr fault) = rw fault (omega arith)

announced_in_range : (quiet : Bool) (output errors : Stream) (h : Halt) (status : ℕ) → IsAnnounced quiet output errors h status → status ≤ 4
announced_in_range quiet output errors (halt.Refused refusal) status (inl (_, _, same)) = rw same (kind_in_range refusal.kind)
announced_in_range quiet output errors (halt.Refused refusal) status (inr fault) = rw fault (omega arith)
announced_in_range quiet output errors (halt.Every refusals) status (inl (_, _, same)) = rw same (every_in_range refusals.items)
announced_in_range quiet output errors (halt.Every refusals) status (inr (inl fault)) = rw fault (omega arith)
announced_in_range quiet output errors (halt.Every refusals) status (inr (inr (_, memory))) = rw memory (omega arith)
announced_in_range quiet output errors (halt.Unread message) status (_, fault) = rw fault (omega arith)
announced_in_range quiet output errors halt.Memory status (_, fault) = rw fault (omega arith)

explained_in_range : (texts : List Text) (output errors : Stream) (status : ℕ) → IsExplained texts output errors status → status ≤ 4
explained_in_range texts output errors status (inl (text, _, printed)) = printed_in_range output errors text success_status status (omega arith) printed
explained_in_range texts output errors status (inr (_, inl (_, usage))) = rw usage (omega arith)
explained_in_range texts output errors status (inr (_, inr memory)) = rw memory (omega arith)

done_in_range : (gives : Gives) (request : Request) (quiet : Bool) (output errors : Stream) (course : Course) (status : ℕ)
    → IsDone gives request quiet output errors course → course ≡ Ends status → status ≤ 4
done_in_range gives request quiet output errors _ status (running.serves _ _ _ _ _ _) is = absurd cc
done_in_range gives request quiet output errors _ status (running.keeps _ _ _ _ _ _ _ _ _ _) is = absurd cc
done_in_range gives request quiet output errors _ status (running.remarks _ _ _ _ _ _ _) is = absurd cc
done_in_range gives request quiet output errors _ status (running.reads _ _ _ _) is = absurd cc
done_in_range gives request quiet output errors _ status (running.draws _ _ _ _) is = absurd cc
done_in_range gives request quiet output errors _ status (running.audits _ _ _ _ _ _) is = absurd cc
done_in_range gives request quiet output errors _ status (running.serves_desks _ _ _ _ _ _ _ _ _ _ _) is = absurd cc
done_in_range gives request quiet output errors _ status (running.plants _ _ _ _ _ _ _) is = absurd cc
done_in_range gives request quiet output errors _ status (running.writes _ _ _ _ _ _) is = absurd cc
done_in_range gives request quiet output errors _ status (running.halts h told warned _ at) is =
    let same : told ≡ status = cc in
    rw (← same) (announced_in_range quiet output (record { before = warned; after = errors.after }) h told at)
done_in_range gives request quiet output errors _ status (running.judges _ text told warned _ _ at) is =
    let same : told ≡ status = cc in
    rw (← same) (printed_in_range output (record { before = warned; after = errors.after }) text success_status told (omega arith) at)
done_in_range gives request quiet output errors _ status (running.explains texts told _ at) is =
    let same : told ≡ status = cc in rw (← same) (explained_in_range texts output errors told at)

course_in_range : (gives : Gives) (words : List Text) (output errors : Stream) (course : Course) (status : ℕ)
    → IsRun gives words output errors course → course ≡ Ends status → status ≤ 4
course_in_range gives words output errors _ status (running.commands request course _ came) is =
    done_in_range gives request (ask_quiet words) output errors course status came is
course_in_range gives words output errors _ status (running.helps text told _ at) is =
    let same : told ≡ status = cc in rw (← same) (printed_in_range output errors text success_status told (omega arith) at)
course_in_range gives words output errors _ status (running.misuses _ _) is =
    let same : usage_status ≡ status = cc in rw (← same) (omega arith)
course_in_range gives words output errors _ status (running.starves _) is =
    let same : memory_status ≡ status = cc in rw (← same) (omega arith)

serving_in_range : (served : Result ℕ SetFault) → status_of_serving served ≤ 4
serving_in_range (Ok left) = omega arith
serving_in_range (Err Memory) = omega arith
serving_in_range (Err (Stopped fault)) = omega arith

plant_in_range : (output errors : Stream) (batches : ℕ) (end : Result ℕ PlantFault) (status : ℕ) → IsPlantTold output errors batches end status → status ≤ 4
plant_in_range output errors batches (Ok handled) status (inl printed) = printed_in_range output errors _ 0 status (omega arith) printed
plant_in_range output errors batches (Ok handled) status (inr (_, memory)) = rw memory (omega arith)
plant_in_range output errors batches (Err plant_fault.TurnsOut) status printed = printed_in_range output errors _ refused_status status (omega arith) printed
plant_in_range output errors batches (Err plant_fault.Memory) status (_, memory) = rw memory (omega arith)
plant_in_range output errors batches (Err plant_fault.Thread) status (_, memory) = rw memory (omega arith)
plant_in_range output errors batches (Err plant_fault.Refused) status (_, memory) = rw memory (omega arith)
plant_in_range output errors batches (Err plant_fault.Unclosed) status (_, memory) = rw memory (omega arith)

untold_in_range : (output : Stream) (status : ℕ) → IsUntold output status → status ≤ 4
untold_in_range output status (_, inl fault) = rw fault (omega arith)
untold_in_range output status (_, inr memory) = rw memory (omega arith)

status_in_range : (unread : Option (List ℕ)) (output errors : Stream) (status : ℕ) → IsStatusTold unread output errors status → status ≤ 4
status_in_range unread output errors status (prints text _ printed) = printed_in_range output errors text success_status status (omega arith) printed
status_in_range unread output errors status (refuses number _ printed) = printed_in_range output errors _ refused_status status (omega arith) printed
status_in_range unread output errors status (stops untold) = untold_in_range output status untold

record_in_range : (holds : Holds) (path : Option Text) (ends : serving.Ends) (errors : Stream) (status : ℕ) → IsRecordTold holds path ends errors status → status ≤ 4
record_in_range holds None ends errors status told = status_in_range ends.unread (output_of ends) errors status told
record_in_range holds (Some path) ends errors status (_, inl (unread, _, told)) = status_in_range unread (output_of ends) errors status told
record_in_range holds (Some path) ends errors status (_, inr untold) = untold_in_range (output_of ends) status untold

finding_in_range : (beginning : Bool) (finding : Finding) → finding_status beginning finding ≤ 4
finding_in_range beginning Agrees = omega arith
finding_in_range beginning (Differs line) = omega arith
finding_in_range true (EndsBefore line) = omega arith
finding_in_range false (EndsBefore line) = omega arith

audit_in_range : (holds : Holds) (set : ClearedSet) (beginning : Bool) (path : Text) (ends : serving.Ends) (errors : Stream) (status : ℕ)
    → IsAuditTold holds set beginning path ends errors status → status ≤ 4
audit_in_range holds set beginning path ends errors status (auditing.finds given finding _ _ printed) =
    printed_in_range (output_of ends) errors _ (finding_status beginning finding) status (finding_in_range beginning finding) printed
audit_in_range holds set beginning path ends errors status (auditing.stops untold) = untold_in_range (output_of ends) status untold

picture_in_range : (unread : Option (List ℕ)) (output errors : Stream) (status : ℕ) → IsPictureDrawn unread output errors status → status ≤ 4
picture_in_range unread output errors status (drawing.pictures own _ printed) = printed_in_range output errors (picture_text own) success_status status (omega arith) printed
picture_in_range unread output errors status (drawing.declines number _ printed) = printed_in_range output errors _ refused_status status (omega arith) printed
picture_in_range unread output errors status (drawing.fails untold) = untold_in_range output status untold

drawn_in_range : (holds : Holds) (path : Option Text) (ends : serving.Ends) (errors : Stream) (status : ℕ) → IsRecordDrawn holds path ends errors status → status ≤ 4
drawn_in_range holds None ends errors status told = picture_in_range ends.unread (output_of ends) errors status told
drawn_in_range holds (Some path) ends errors status (_, inl (unread, _, told)) = picture_in_range unread (output_of ends) errors status told
drawn_in_range holds (Some path) ends errors status (_, inr untold) = untold_in_range (output_of ends) status untold

refusal_in_range : (path : List ℕ) (fault : RecoveryFault) (output : Stream) (status : ℕ) → IsJournalRefused path fault output status → status ≤ 4
refusal_in_range path fault output status (inl (_, refused)) = rw refused (omega arith)
refusal_in_range path fault output status (inr (inl fails)) = rw fails (omega arith)
refusal_in_range path fault output status (inr (inr (_, memory))) = rw memory (omega arith)

ends_in_range : (status : ℕ) → (status ≡ success_status) ⊎ (status ≡ fault_status) ⊎ (status ≡ memory_status) → status ≤ 4
ends_in_range status (inl well) = rw well (omega arith)
ends_in_range status (inr (inl fails)) = rw fails (omega arith)
ends_in_range status (inr (inr memory)) = rw memory (omega arith)

journal_in_range : (disks : DiskKind) (set : ClearedSet) (digits path : List ℕ) (start end : disks.File) (behind : Behind) (output : Stream) (status : ℕ)
    → ((plant : Plant) (middle : Option (List ℕ)) → behind plant middle → status ≤ 4) → IsJournalTold disks set digits path start end behind output status → status ≤ 4
journal_in_range disks set digits path start end behind output status within (journal.refuses fault _ told) = refusal_in_range path fault output status told
journal_in_range disks set digits path start end behind output status within (journal.stops untold) = untold_in_range output status untold
journal_in_range disks set digits path start end behind output status within (journal.serves _ stood _ middle _ _ _ so) = within stood middle so
journal_in_range disks set digits path start end behind output status within (journal.fails _ _ _ _ _ _ fault) = rw fault (omega arith)

over_in_range : (files : JournalFiles) (set : ClearedSet) (digits path : List ℕ) (behind : files.disks.File → files.disks.File → Behind) (output : Stream) (status : ℕ)
    → ((start end : files.disks.File) (plant : Plant) (middle : Option (List ℕ)) → behind start end plant middle → status ≤ 4) → IsRunOver files set digits path behind output status → status ≤ 4
over_in_range files set digits path behind output status within (inl (start, end, _, _, over)) =
    journal_in_range files.disks set digits path start end (behind start end) output status (within start end) over.told
over_in_range files set digits path behind output status within (inr untold) = untold_in_range output status untold

shown_in_range : (disks : DiskKind) (set : ClearedSet) (digits : List ℕ) (commented : Bool) (unread after : Option (List ℕ)) (status : ℕ) (start end : disks.File) (plant : Plant)
    (middle : Option (List ℕ)) → IsShownBehind disks set digits commented start end unread after status plant middle → status ≤ 4
shown_in_range disks set digits commented unread after status start end stood middle (plain, shown, served) = ends_in_range status served.ends

kept_in_range : (files : JournalFiles) (set : ClearedSet) (digits path : List ℕ) (commented : Bool) (ends : serving.Ends) (status : ℕ) → IsJournalRun files set digits path commented ends status → status ≤ 4
kept_in_range files set digits path commented ends status run =
    over_in_range files set digits path (λ start end. IsShownBehind files.disks set digits commented start end ends.unread ends.after status) (output_of ends) status
    (shown_in_range files.disks set digits commented ends.unread ends.after status) run

fault_in_range : (fault : DesksFault) → status_of_fault fault ≤ 4
fault_in_range desks_fault.Memory = omega arith
fault_in_range desks_fault.Thread = omega arith
fault_in_range desks_fault.Journal = omega arith
fault_in_range desks_fault.Record = omega arith
fault_in_range desks_fault.RoundsOut = omega arith

ended_in_range : (served : Result ℕ DesksFault) → status_of_desks served ≤ 4
ended_in_range (Ok left) = omega arith
ended_in_range (Err fault) = fault_in_range fault

desks_in_range : (files : JournalFiles) (set : ClearedSet) (digits : List ℕ) (names : List (List ℕ)) (named : Option (List ℕ)) (times : Bool) (output : Stream) (status : ℕ)
    → AreDesksRun files set digits names named times output status → status ≤ 4
desks_in_range files set digits names None times output status (served, _, is) = rw is (ended_in_range served)
desks_in_range files set digits names (Some path) times output status run =
    over_in_range files set digits path (λ start end. AreDesksOn files.disks times set names end output.after status) output status
    (λ start end stood middle behind. ends_in_range status behind.ends) run

written_in_range : (holds : Holds) (path text : List ℕ) (errors : Stream) (status : ℕ) → IsWritten holds path text errors status → status ≤ 4
written_in_range holds path text errors status (inl (_, _, success)) = rw success (omega arith)
written_in_range holds path text errors status (inr (inl fault)) = rw fault (omega arith)
written_in_range holds path text errors status (inr (inr memory)) = rw memory (omega arith)

pub run_in_range : (gives : Gives) (holds : Holds) (files : JournalFiles) (words : List Text) (ends : serving.Ends) (errors : Stream) (status : ℕ)
    → IsProgramRun gives holds files words ends errors status → status ≤ 4
run_in_range gives holds files words ends errors _ (tells status came _) = course_in_range gives words (output_of ends) errors (Ends status) status came refl
run_in_range gives holds files words ends errors status (writes path _ text warned _ _ _ written _ _) =
    written_in_range holds path text (record { before = warned; after = errors.after }) status written
run_in_range gives holds files words ends errors _ (serves _ _ served _ _ _ _) = serving_in_range served
run_in_range gives holds files words ends errors _ (remarks _ _ _ _ served _ _ _ _) = serving_in_range served
run_in_range gives holds files words ends errors status (keeps path _ _ _ echo times set digits _ _ _ ran) = kept_in_range files set digits path (echo || times) ends status ran
run_in_range gives holds files words ends errors status (serves_desks named _ _ _ _ times desks set digits _ _ _ ran _) =
    desks_in_range files set digits (desk_names desks.desks.items) named times (output_of ends) status ran
run_in_range gives holds files words ends errors status (reads path _ _ told) = record_in_range holds path ends errors status told
run_in_range gives holds files words ends errors status (draws path _ _ told) = drawn_in_range holds path ends errors status told
run_in_range gives holds files words ends errors status (audits beginning path _ set _ _ _ told) = audit_in_range holds set beginning path ends errors status told
run_in_range gives holds files words ends errors status (plants _ _ options end _ _ _ _ told _) = plant_in_range (output_of ends) errors options.batches end status told

-- The outcome of a plant

-- with status 0 the plant ran, and its three lines were written
complete_at : (output errors : Stream) (set : ClearedSet) (batches : ℕ) (end : Result ℕ PlantFault) (status : ℕ) → IfOk end (HasRun set batches)
    → IsPlantTold output errors batches end status → status ≡ 0
    → (handled : ℕ) × HasRun set batches handled × Appends output.before output.after (plant_text batches handled)
complete_at output errors set batches (Ok handled) status ran (inl (inl (appends, _, _))) is = (handled, ran, appends)
complete_at output errors set batches (Ok handled) status ran (inl (inr fault)) is = absurd cc
complete_at output errors set batches (Ok handled) status ran (inr (_, memory)) is = absurd cc
complete_at output errors set batches (Err plant_fault.TurnsOut) status ran (inl (_, _, refused)) is = absurd cc
complete_at output errors set batches (Err plant_fault.TurnsOut) status ran (inr fault) is = absurd cc
complete_at output errors set batches (Err plant_fault.Memory) status ran (_, memory) is = absurd cc
complete_at output errors set batches (Err plant_fault.Thread) status ran (_, memory) is = absurd cc
complete_at output errors set batches (Err plant_fault.Refused) status ran (_, memory) is = absurd cc
complete_at output errors set batches (Err plant_fault.Unclosed) status ran (_, memory) is = absurd cc

same_plant : (from to : SetSource) (a b ticks more ring places : ℕ) → plant from a ticks ring ≡ plant to b more places → (from ≡ to) × (a ≡ b)
same_plant from to a b ticks more ring places is = (cc, cc)

told_plant : (gives : Gives) (holds : Holds) (files : JournalFiles) (words : List Text) (ends : serving.Ends) (errors : Stream) (planted : SetSource) (batches ticks ring status : ℕ)
    → AskFor words (plant planted batches ticks ring) → IsProgramRun gives holds files words ends errors status → status ≡ 0
    → (set : ClearedSet) × (handled : ℕ) × IsSetOf gives planted set × HasRun set batches handled × Appends ends.before ends.after (plant_text batches handled)
told_plant gives holds files words ends errors planted batches ticks ring _ asked (tells status came _) is =
    absurd (told_at_once gives words (output_of ends) errors (plant planted batches ticks ring) status asked came is)
told_plant gives holds files words ends errors planted batches ticks ring _ asked (writes path judgement _ _ _ asked2 _ _ _ _) is =
    absurd (let same = same_request words _ _ asked asked2 in cc)
told_plant gives holds files words ends errors planted batches ticks ring _ asked (serves source _ _ asked2 _ _ _) is =
    absurd (let same = same_request words _ _ asked2 asked in cc)
told_plant gives holds files words ends errors planted batches ticks ring _ asked (keeps path cell certificate recipes echo times _ _ _ asked2 _ _) is =
    absurd (let same = same_request words _ _ asked asked2 in cc)
told_plant gives holds files words ends errors planted batches ticks ring _ asked (remarks source echo times _ _ asked2 _ _ _) is =
    absurd (let same = same_request words _ _ asked asked2 in cc)
told_plant gives holds files words ends errors planted batches ticks ring _ asked (serves_desks named path cell certificate recipes times _ _ _ _ asked2 _ _ _) is =
    absurd (let same = same_request words _ _ asked2 asked in cc)
told_plant gives holds files words ends errors planted batches ticks ring _ asked (reads path _ asked2 _) is =
    absurd (let same = same_request words _ _ asked asked2 in cc)
told_plant gives holds files words ends errors planted batches ticks ring _ asked (draws path _ asked2 _) is =
    absurd (let same = same_request words _ _ asked asked2 in cc)
told_plant gives holds files words ends errors planted batches ticks ring _ asked (audits beginning path source _ _ asked2 _ _) is =
    absurd (let same = same_request words _ _ asked asked2 in cc)
told_plant gives holds files words ends errors planted batches ticks ring status asked (plants source set options end _ asked2 is_set ran told _) is =
    let (from, same) = same_plant source planted options.batches batches options.ticks ticks options.ring ring (same_request words _ (plant planted batches ticks ring) asked2 asked) in
    let (handled, came, appends) = complete_at (output_of ends) errors set options.batches end status ran told is in
    (set, handled, subst (λ s. IsSetOf gives s set) from is_set, subst (λ n. HasRun set n handled) same came, subst (λ n. Appends ends.before ends.after (plant_text n handled)) same appends)

pub plants_are_complete : (gives : Gives) (holds : Holds) (files : JournalFiles) → PlantsAreComplete gives holds files
plants_are_complete gives holds files words ends errors planted batches ticks ring asked came =
    told_plant gives holds files words ends errors planted batches ticks ring 0 asked came refl
