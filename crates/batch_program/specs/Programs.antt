-- trusted: the outcome of the program's words, input and documents.
use Rattle.std.specs.Prelude.{◌≡◌, ◌≤◌, ◌++◌, ℕ, zero, suc, Bool, true, false, ◌||◌, IfOk, IfSome, List, Option, None, Result, Ok, Err, codes, decimal, if◌then◌else◌, nat_eq, Some}
use Rattle.std.specs.Io.KnownBytes.{Appends, Keeps}
use Rattle.std.specs.Process.{exit_status}
use Rattle.std.specs.declared.process.ExitCode.{ExitCode}
use Rattle.clap.specs.Walk.{Text}
use Rattle.batch_verify.specs.ClearedSet.{ClearedSet}
use Rattle.batch_wire.specs.Transcript.{lines_of}
use Rattle.batch_cli.specs.CommandLine.{SetSource, audit, keep, plant, serve, serve_desks, tell, Judgement, write, remark, picture}
use Rattle.batch_cli.specs.declared.plant_options.PlantOptions.{PlantOptions}
use Rattle.batch_reader.specs.DeskNames.{desk_names}
use Rattle.batch_reader.specs.declared.desk_set.Desks.{Desks}
use Rattle.batch_verdicts.specs.DeskSets.{AreDesksCleared}
use Rattle.batch_verdicts.specs.Digested.{AreDigested}
use Rattle.batch_verdicts.specs.Reading.{Gives}
use Rattle.batch_verdicts.specs.Requests.{IsSetOf, IsVerdictText}
use Rattle.batch_verdicts.specs.Running.{AskFor, IsRun, IsUnwritten, Stream, ask_quiet, fault_status, memory_status}
use Rattle.batch_verdicts.specs.Saying.{WritesFront, IsWarned}
use Rattle.batch_verdicts.specs.VerdictTexts.{accepted_text}
use Rattle.batch_verdicts.specs.declared.course.Course.TheVariants.{Ends}
use Rattle.batch_serve.specs.Comments.{IsRemarked}
use Rattle.batch_serve.specs.RemarkedSet.{ServesRemarked}
use Rattle.batch_serve.specs.Serves as serving
use Rattle.batch_serve.specs.Serves.{AnswersAll, Serves}
use Rattle.batch_serve.specs.declared.fault.SetFault.{SetFault}
use Rattle.batch_serve.specs.declared.fault.SetFault.TheVariants.{Memory, Stopped}
use Rattle.batch_plant.specs.declared.plant_fault.PlantFault.{PlantFault}
use Rattle.batch_program.specs.AuditRuns.{IsAccepted, IsAuditTold}
use Rattle.batch_program.specs.DeskRuns.{AreDesksKept, AreDesksRun, IsDesksRecord}
use Rattle.batch_program.specs.DrawingRuns.{IsRecordDrawn}
use Rattle.batch_program.specs.JournalRuns.{AreServedSafely, JournalFiles, IsJournalRun}
use Rattle.batch_program.specs.FileWriting.{IsWritten}
use Rattle.batch_program.specs.PlantRuns.{HasRun, IsPlantTold, plant_text}
use Rattle.batch_program.specs.RecordRuns.{Holds, IsRecordTold, output_of}
use Rattle.batch_program.specs.declared.program.TheConstants.{MAX_READS}

abbrev pub IsExitStatus : ExitCode → Type 0
IsExitStatus code = exit_status code ≤ 4

-- the exit status after serving
abbrev pub status_of_serving : Result ℕ SetFault → ℕ
status_of_serving (Ok left) = 0
status_of_serving (Err Memory) = memory_status
status_of_serving (Err (Stopped fault)) = fault_status

-- the line on so many batches that are neither complete, stopped nor aborted when the input ends
abbrev pub left_text : ℕ → List ℕ
left_text left =
    if nat_eq left 1
    then codes "batchd: the input ended before 1 batch was complete, stopped or aborted\n"
    else codes "batchd: the input ended before " ++ (decimal left ++ codes " batches were complete, stopped or aborted\n")

-- the line is written to the errors; if no batch is left, or the words ask for quiet, nothing is
abbrev pub IsLeftTold : Bool → Stream → ℕ → Type 0
IsLeftTold true errors left = IsUnwritten errors
IsLeftTold false errors zero = IsUnwritten errors
IsLeftTold false errors (suc more) = WritesFront errors.before errors.after (left_text (suc more))

-- the set is served, with this exit status, and the errors say how many batches the input left unfinished
abbrev pub IsSetServed : Bool → ClearedSet → serving.Ends → Stream → ℕ → Type 0
IsSetServed quiet set ends errors status =
    (served : Result ℕ SetFault) × Serves set MAX_READS served ends × IfOk served (IsLeftTold quiet errors) × (status ≡ status_of_serving served)

-- the same with comments in the record
abbrev pub IsServedRemarked : Bool → ClearedSet → serving.Ends → Stream → ℕ → Type 0
IsServedRemarked quiet set ends errors status =
    (served : Result ℕ SetFault) × ServesRemarked set MAX_READS served ends × IfOk served (IsLeftTold quiet errors) × (status ≡ status_of_serving served)

-- the outcome of the words, over the input and the output, with the exit status
pub data IsProgramRun (gives : Gives) (holds : Holds) (files : JournalFiles) (words : List Text) (ends : serving.Ends) (errors : Stream) : ℕ → Type 0 where
  -- a verdict, help or a fault is printed, and the input isn't read
  tells : (status : ℕ) → IsRun gives words (output_of ends) errors (Ends status) → Keeps ends.unread ends.left
      → IsProgramRun gives holds files words ends errors status
  -- the documents are accepted, it is warned of them, the text that says so is written into the file that the words name, and
  -- neither is the input read nor the output written
  writes : (path : Text) (judgement : Judgement) (text : List ℕ) (warned : Option (List ℕ)) (status : ℕ)
      → AskFor words (write path judgement) → IsVerdictText gives (IsWarned (ask_quiet words) errors.before warned) judgement text
      → IsWritten holds path text (record { before = warned; after = errors.after }) status
      → IsUnwritten (output_of ends) → Keeps ends.unread ends.left → IsProgramRun gives holds files words ends errors status
  -- the set that the words name is served, by the engine that is made from it
  serves : (source : SetSource) (set : ClearedSet) (served : Result ℕ SetFault)
      → AskFor words (serve source) → IsSetOf gives source set → Serves set MAX_READS served ends
      → IfOk served (IsLeftTold (ask_quiet words) errors) → IsProgramRun gives holds files words ends errors (status_of_serving served)
  -- the same with comments in the record
  remarks : (source : SetSource) (echo times : Bool) (set : ClearedSet) (served : Result ℕ SetFault)
      → AskFor words (remark source echo times) → IsSetOf gives source set → ServesRemarked set MAX_READS served ends
      → IfOk served (IsLeftTold (ask_quiet words) errors) → IsProgramRun gives holds files words ends errors (status_of_serving served)
  -- it is served over the journal that they name, with comments in the record or without them
  keeps : (journal cell certificate : Text) (recipes : List Text) (echo times : Bool) (set : ClearedSet) (digits : List ℕ) (status : ℕ)
      → AskFor words (keep journal cell certificate recipes echo times) → AreDigested gives cell certificate recipes set digits
      → IsJournalRun files set digits journal (echo || times) ends status → IsProgramRun gives holds files words ends errors status
  -- the desks of the document that they name are served over the set that the others make, with a journal if they name one, and the
  -- input isn't read
  serves_desks : (journal : Option Text) (path cell certificate : Text) (recipes : List Text) (times : Bool) (desks : Desks) (set : ClearedSet) (digits : List ℕ) (status : ℕ)
      → AskFor words (serve_desks journal path cell certificate recipes times) → AreDesksCleared gives path cell certificate recipes desks set digits
      → AreDesksRun files set digits (desk_names desks.desks.items) journal times (output_of ends) status → Keeps ends.unread ends.left
      → IsProgramRun gives holds files words ends errors status
  -- the state to which the record that the words name leads is printed, or that to which the input leads
  reads : (path : Option Text) (status : ℕ)
      → AskFor words (tell path) → IsRecordTold holds path ends errors status → IsProgramRun gives holds files words ends errors status
  -- the picture of the record that the words name is printed, or that of the input
  draws : (path : Option Text) (status : ℕ)
      → AskFor words (picture path) → IsRecordDrawn holds path ends errors status → IsProgramRun gives holds files words ends errors status
  -- the finding on the record that the words name, against the lines of the input over the set that they name, is printed
  audits : (beginning : Bool) (path : Text) (source : SetSource) (set : ClearedSet) (status : ℕ)
      → AskFor words (audit beginning path source) → IsSetOf gives source set → IsAuditTold holds set beginning path ends errors status
      → IsProgramRun gives holds files words ends errors status
  -- a plant of the set that they name is run with the options that they have, its end is reported, and the input isn't read
  plants : (source : SetSource) (set : ClearedSet) (options : PlantOptions) (end : Result ℕ PlantFault) (status : ℕ)
      → AskFor words (plant source options.batches options.ticks options.ring) → IsSetOf gives source set
      → IfOk end (HasRun set options.batches) → IsPlantTold (output_of ends) errors options.batches end status → Keeps ends.unread ends.left
      → IsProgramRun gives holds files words ends errors status

-- Laws

-- a run that was to serve and ends with status 0 has answered all lines of its input, by the engine of the set that its documents make,
-- cleared by their certificate. AnswersAll says that the written text is a safe record. On the errors the run has written nothing but how
-- many batches the input left unfinished
abbrev pub ServingIsSafe : Gives → Holds → JournalFiles → Type 0
ServingIsSafe gives holds files =
    (words : List Text) (ends : serving.Ends) (errors : Stream) (source : SetSource)
    → AskFor words (serve source) → IsProgramRun gives holds files words ends errors 0
    → (set : ClearedSet) × (left : ℕ) × IsSetOf gives source set × AnswersAll set left ends × IsLeftTold (ask_quiet words) errors left

-- a run of `audit` that ends with status 0 has written `accepted`. The contents at its path are the record of the lines of the input, or
-- begin it if that is accepted. The record is over the set of its documents, cleared by their certificate
abbrev pub AuditsAreTrue : Gives → Holds → JournalFiles → Type 0
AuditsAreTrue gives holds files =
    (words : List Text) (ends : serving.Ends) (errors : Stream) (beginning : Bool) (path : Text) (source : SetSource)
    → AskFor words (audit beginning path source) → IsProgramRun gives holds files words ends errors 0
    → (set : ClearedSet) × (given : Option (List ℕ)) × IsSetOf gives source set × holds path given × Appends ends.before ends.after accepted_text
    × IfSome given (λ text. IfSome ends.unread (λ input. IsAccepted set beginning (lines_of input) text))

-- the same of a run with comments in the record, of the written text without its comments
abbrev pub RemarkedServingIsSafe : Gives → Holds → JournalFiles → Type 0
RemarkedServingIsSafe gives holds files =
    (words : List Text) (ends : serving.Ends) (errors : Stream) (source : SetSource) (echo times : Bool)
    → AskFor words (remark source echo times) → IsProgramRun gives holds files words ends errors 0
    → (set : ClearedSet) × (left : ℕ) × (plain : Option (List ℕ)) × IsSetOf gives source set × IsRemarked ends.before ends.after plain
    × AnswersAll set left (record ends { after = plain }) × IsLeftTold (ask_quiet words) errors left

-- a run over a journal that ends with status 0 has answered all lines of its input behind the recovery block of the lines that the file
-- at its path had. The answers to these and to those lines are together the text of a safe transcript over the set that its documents
-- make, cleared by their certificate
abbrev pub JournalledServingIsSafe : Gives → Holds → JournalFiles → Type 0
JournalledServingIsSafe gives holds files =
    (words : List Text) (ends : serving.Ends) (errors : Stream) (journal cell certificate : Text) (recipes : List Text) (echo times : Bool)
    → AskFor words (keep journal cell certificate recipes echo times) → IsProgramRun gives holds files words ends errors 0
    → (set : ClearedSet) × (digits : List ℕ) × AreDigested gives cell certificate recipes set digits
    × (start : files.disks.File) × (end : files.disks.File) × files.opens journal start × AreServedSafely files.disks set digits (echo || times) start end ends

-- a run of `check --write` that ends with status 0 has put into its file, and nowhere else, the text of a verdict that accepts its
-- documents. The text is the certificate with the least ranks, or the drawing. On the errors the run has written its warnings alone
abbrev pub CertificatesAreKept : Gives → Holds → JournalFiles → Type 0
CertificatesAreKept gives holds files =
    (words : List Text) (ends : serving.Ends) (errors : Stream) (path : Text) (judgement : Judgement)
    → AskFor words (write path judgement) → IsProgramRun gives holds files words ends errors 0
    → (text : List ℕ) × IsVerdictText gives (IsWarned (ask_quiet words) errors.before errors.after) judgement text × holds path (Some text)
    × IsUnwritten (output_of ends)

-- a run of `plant` that ends with status 0 has written its three lines. A record over the set that the words name leads to a plant in
-- which the batches that were asked for are complete, all made of the set's first recipe. The record has as many events as the third line
-- says
abbrev pub PlantsAreComplete : Gives → Holds → JournalFiles → Type 0
PlantsAreComplete gives holds files =
    (words : List Text) (ends : serving.Ends) (errors : Stream) (source : SetSource) (batches ticks ring : ℕ)
    → AskFor words (plant source batches ticks ring) → IsProgramRun gives holds files words ends errors 0
    → (set : ClearedSet) × (handled : ℕ) × IsSetOf gives source set × HasRun set batches handled × Appends ends.before ends.after (plant_text batches handled)

-- a run of `serve` without a journal that ends with status 0 has served the desks of its document over the set that its other documents
-- make, cleared by their certificate. The written text is that of a safe transcript of the desks' lines, in the order in which they were
-- served
abbrev pub DesksAreSafe : Gives → Holds → JournalFiles → Type 0
DesksAreSafe gives holds files =
    (words : List Text) (ends : serving.Ends) (errors : Stream) (path cell certificate : Text) (recipes : List Text) (times : Bool)
    → AskFor words (serve_desks None path cell certificate recipes times) → IsProgramRun gives holds files words ends errors 0
    → (desks : Desks) × (set : ClearedSet) × (digits : List ℕ) × AreDesksCleared gives path cell certificate recipes desks set digits
    × IsDesksRecord times set (desk_names desks.desks.items) (output_of ends)

-- a run of `serve` with a journal that ends with status 0 has served the desks over the file at its path, behind the recovery block of
-- the lines that the file had. The answers to these lines and to those of the desks are the text of a safe transcript, and a replay of
-- the file that a crash leaves writes them again
abbrev pub DesksAreKept : Gives → Holds → JournalFiles → Type 0
DesksAreKept gives holds files =
    (words : List Text) (ends : serving.Ends) (errors : Stream) (journal path cell certificate : Text) (recipes : List Text) (times : Bool)
    → AskFor words (serve_desks (Some journal) path cell certificate recipes times) → IsProgramRun gives holds files words ends errors 0
    → (desks : Desks) × (set : ClearedSet) × (digits : List ℕ) × AreDesksCleared gives path cell certificate recipes desks set digits
    × (start : files.disks.File) × (end : files.disks.File) × files.opens journal start
    × AreDesksKept files.disks times set digits (desk_names desks.desks.items) start end (output_of ends)
