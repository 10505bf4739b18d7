-- trusted: the texts that the program writes for its words, their streams, and the way in which the program ends.
use Rattle.std.specs.Prelude.{◌≡◌, ◌⊎◌, ℕ, Bool, List, [], Option, String, if◌then◌else◌, option_map, string_bytes}
use Rattle.std.specs.List.{flat_map, list_any}
use Rattle.std.specs.Global.{Global}
use Rattle.std.specs.Io.KnownBytes.{Appends, Keeps}
use Rattle.clap.specs.Kinds.{IsAmong}
use Rattle.clap.specs.Walk.{Text}
use Rattle.clap.specs.Words.{subcommand_of}
use Rattle.clap.specs.declared.error.kind.ErrorKind.{ErrorKind}
use Rattle.batch_messages.specs.Explaining.{HaveNoCode, TellsCodes}
use Rattle.batch_cli.specs.CommandLine.{IsShown, Judgement, Request, SetSource, request_or_demo, asks_quiet, audit, explain, judge, plant, program_app, serve, serve_desks, source_of, tell, keep, write, faults_of, remark, picture}
use Rattle.batch_verdicts.specs.DeskSets.{AreDesksCleared}
use Rattle.batch_verdicts.specs.Digested.{AreDigested}
use Rattle.batch_verdicts.specs.Judging.{is_for_memory, status_of}
use Rattle.batch_verdicts.specs.Reading.{Gives}
use Rattle.batch_verdicts.specs.Requests.{Halts, IsSetOf, IsVerdictText}
use Rattle.batch_verdicts.specs.Saying.{AreSaid, IsSaid, IsWarned}
use Rattle.batch_verify.specs.ClearedSet.{ClearedSet}
use Rattle.batch_cli.specs.declared.command.AuditWords.{AuditWords}
use Rattle.batch_cli.specs.declared.comments.Comments.{Comments}
use Rattle.batch_cli.specs.declared.plant_options.PlantOptions.{PlantOptions}
use Rattle.batch_verdicts.specs.declared.course.Course.{Course}
use Rattle.batch_verdicts.specs.declared.course.Course.TheVariants.{Ends, Serves, ServesDesks, Reads, Audits, Plants, Writes, Remarks, Draws}
use Rattle.batch_verdicts.specs.declared.course.Course.TheVariants as courses
use Rattle.batch_verdicts.specs.declared.desks.DeskSet.{DeskSet}
use Rattle.batch_verdicts.specs.declared.digested.Digested.{Digested}
use Rattle.batch_verdicts.specs.declared.refusal.Halt.{Halt}
use Rattle.batch_verdicts.specs.declared.refusal.Halt.TheVariants as halt
use Rattle.batch_verdicts.specs.declared.refusal.DocumentRefusal.{DocumentRefusal}
use Rattle.batch_verdicts.specs.declared.refusal.RefusalKind.TheVariants.{Fault}

-- The exit statuses beside those of refusals

-- a verdict, help or an explanation was printed
abbrev pub success_status : ℕ
success_status = 0

-- the words are no command
abbrev pub usage_status : ℕ
usage_status = 2

-- a file can't be read, or standard output can't be written
abbrev pub fault_status : ℕ
fault_status = 3

abbrev pub memory_status : ℕ
memory_status = 4

-- Streams

-- the contents of a stream before and after, each if it is known
pub record Stream : Type 0 where
  pub before : Option (List ℕ)
  pub after : Option (List ℕ)

-- nothing was written
abbrev pub IsUnwritten : Stream → Type 0
IsUnwritten s = Keeps s.before s.after

-- the text was written whole to the output, nothing to the errors, and the program ends with the wanted status; or it ends
-- with the status of a fault, and then nothing is known of the streams
abbrev pub IsPrinted : Stream → Stream → List ℕ → ℕ → ℕ → Type 0
IsPrinted output errors text wanted status =
    (Appends output.before output.after text × IsUnwritten errors × (status ≡ wanted)) ⊎ (status ≡ fault_status)

-- the refusal was written whole to the output, its sentence was said on the errors, and the program ends with its status. Or the program
-- ends with the status of a fault, and then nothing is known of the streams
abbrev pub IsRefused : Bool → Stream → Stream → DocumentRefusal → ℕ → Type 0
IsRefused quiet output errors refusal status =
    (Appends output.before output.after (string_bytes refusal.text) × IsSaid quiet refusal.sentence errors.before errors.after
    × (status ≡ status_of refusal.kind))
    ⊎ (status ≡ fault_status)

-- the status of several refusals: that of want of memory, if one of them is for that
abbrev pub status_of_every : List DocumentRefusal → ℕ
status_of_every refusals = if list_any (λ r. is_for_memory r.kind) refusals then memory_status else status_of Fault

-- one of these holds:
-- - the refusals were written whole to the output, in their order, their sentences were said on the errors, and the program ends with
--   their status;
-- - the program ends with the status of a fault, and then nothing is known of the streams;
-- - memory was wanting, and nothing was written to the output
abbrev pub AreRefused : Bool → Stream → Stream → List DocumentRefusal → ℕ → Type 0
AreRefused quiet output errors refusals status =
    (Appends output.before output.after (flat_map (λ r. string_bytes r.text) refusals) × AreSaid quiet refusals errors.before errors.after
    × (status ≡ status_of_every refusals))
    ⊎ (status ≡ fault_status) ⊎ (IsUnwritten output × (status ≡ memory_status))

-- Commands

-- the words ask for this, and have no fault
abbrev pub AskFor : List Text → Request → Type 0
AskFor words request = (faults_of words ≡ []) × (request ≡ request_or_demo (subcommand_of program_app words))

-- they ask the program to write no sentence on a refusal
abbrev pub ask_quiet : List Text → Bool
ask_quiet words = asks_quiet (subcommand_of program_app words)

-- help or the version is asked for
abbrev pub AskToShow : List Text → Type 0
AskToShow words = (kind : ErrorKind) × IsAmong kind (faults_of words) × IsShown kind

-- there is another fault in the words
abbrev pub AreMisused : List Text → Type 0
AreMisused words = (kind : ErrorKind) × IsAmong kind (faults_of words) × ¬ (IsShown kind)

-- a refusal is printed, or several are; a file that can't be read and want of memory leave the output as it was, and are reported on
-- the errors in a free text
abbrev pub IsAnnounced : Bool → Stream → Stream → Halt → ℕ → Type 0
IsAnnounced quiet output errors (halt.Refused refusal) status = IsRefused quiet output errors refusal status
IsAnnounced quiet output errors (halt.Every refusals) status = AreRefused quiet output errors refusals.items status
IsAnnounced quiet output errors (halt.Unread message) status = IsUnwritten output × (status ≡ fault_status)
IsAnnounced quiet output errors halt.Memory status = IsUnwritten output × (status ≡ memory_status)

-- the explanation that the texts ask for is printed, or they have no code, or memory was wanting
abbrev pub IsExplained : List Text → Stream → Stream → ℕ → Type 0
IsExplained texts output errors status =
    ((text : List ℕ) × TellsCodes texts text × IsPrinted output errors text success_status status)
    ⊎ (IsUnwritten output × ((HaveNoCode texts × (status ≡ usage_status)) ⊎ (status ≡ memory_status)))

-- Runs

-- the outcome of a request:
-- - the exit status;
-- - the text that a file is to hold;
-- - the set that the program is to serve, quietly or not, with a journal or without one;
-- - the set whose plant it is to run;
-- - the record that it is to read, to draw, or to audit over a set
pub data IsDone (gives : Gives) (request : Request) (quiet : Bool) (output errors : Stream) : Course → Type 0 where
  -- the errors have the same contents behind the warnings and before the verdict is printed
  judges : (judgement : Judgement) (text : List ℕ) (status : ℕ) (warned : Option (List ℕ))
      → request ≡ judge judgement → IsVerdictText gives (IsWarned quiet errors.before warned) judgement text
      → IsPrinted output (record { before = warned; after = errors.after }) text success_status status
      → IsDone gives request quiet output errors (Ends status)
  writes : (judgement : Judgement) (path text : String Global)
      → request ≡ write (string_bytes path) judgement → IsVerdictText gives (IsWarned quiet errors.before errors.after) judgement (string_bytes text)
      → IsUnwritten output → IsDone gives request quiet output errors (Writes path text)
  serves : (source : SetSource) (set : ClearedSet)
      → request ≡ serve source → IsSetOf gives source set → IsUnwritten output → IsUnwritten errors
      → IsDone gives request quiet output errors (Serves set quiet)
  -- serving with comments in the record
  remarks : (source : SetSource) (set : ClearedSet) (comments : Comments)
      → request ≡ remark source comments.echo comments.times → IsSetOf gives source set → IsUnwritten output → IsUnwritten errors
      → IsDone gives request quiet output errors (Remarks set quiet comments)
  -- serving over a journal at this path, which names the set by the digits of its documents
  keeps : (cell certificate : Text) (recipes : List Text) (journal : String Global) (digested : Digested) (comments : Comments)
      → request ≡ keep (string_bytes journal) cell certificate recipes comments.echo comments.times → AreDigested gives cell certificate recipes digested.set digested.documents.text
      → IsUnwritten output → IsUnwritten errors → IsDone gives request quiet output errors (courses.Keeps digested quiet journal comments)
  -- serving desks, over a journal if a path names one
  serves_desks : (journal : Option (String Global)) (path cell certificate : Text) (recipes : List Text) (served : DeskSet) (times : Bool)
      → request ≡ serve_desks (option_map string_bytes journal) path cell certificate recipes times
      → AreDesksCleared gives path cell certificate recipes served.desks served.digested.set served.digested.documents.text
      → IsUnwritten output → IsUnwritten errors → IsDone gives request quiet output errors (ServesDesks served quiet journal times)
  reads : (path : Option (String Global))
      → request ≡ tell (option_map string_bytes path) → IsUnwritten output → IsUnwritten errors
      → IsDone gives request quiet output errors (Reads path)
  draws : (path : Option (String Global))
      → request ≡ picture (option_map string_bytes path) → IsUnwritten output → IsUnwritten errors
      → IsDone gives request quiet output errors (Draws path)
  audits : (asked : AuditWords) (set : ClearedSet)
      → request ≡ audit asked.beginning (string_bytes asked.path) (source_of asked.source) → IsSetOf gives (source_of asked.source) set
      → IsUnwritten output → IsUnwritten errors → IsDone gives request quiet output errors (Audits set asked)
  plants : (source : SetSource) (set : ClearedSet) (options : PlantOptions)
      → request ≡ plant source options.batches options.ticks options.ring → IsSetOf gives source set → IsUnwritten output → IsUnwritten errors
      → IsDone gives request quiet output errors (Plants set options)
  explains : (texts : List Text) (status : ℕ)
      → request ≡ explain texts → IsExplained texts output errors status → IsDone gives request quiet output errors (Ends status)
  -- there is no verdict that accepts, or no set
  halts : (h : Halt) (status : ℕ) (warned : Option (List ℕ))
      → Halts gives (IsWarned quiet errors.before warned) request h
      → IsAnnounced quiet output (record { before = warned; after = errors.after }) h status
      → IsDone gives request quiet output errors (Ends status)

-- the outcome of the words
pub data IsRun (gives : Gives) (words : List Text) (output errors : Stream) : Course → Type 0 where
  commands : (request : Request) (course : Course)
      → AskFor words request → IsDone gives request (ask_quiet words) output errors course → IsRun gives words output errors course
  helps : (text : List ℕ) (status : ℕ)
      → AskToShow words → IsPrinted output errors text success_status status → IsRun gives words output errors (Ends status)
  misuses : AreMisused words → IsUnwritten output → IsRun gives words output errors (Ends usage_status)
  -- there was no memory to read the words
  starves : IsUnwritten output → IsRun gives words output errors (Ends memory_status)
