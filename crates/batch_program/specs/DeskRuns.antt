-- trusted: the outcome of serving desks, with a journal of their lines or without one.
use Rattle.std.specs.Prelude.{◌≡◌, ◌⊎◌, ◌++◌, ℕ, Bool, true, List, [], Option, Some, None, Result, Ok, Err, IfOk}
use Rattle.std.specs.Io.KnownBytes.{Appends}
use Rattle.batch_verify.specs.ClearedSet.{ClearedSet}
use Rattle.batch_serve.specs.Runs.{Run, runs_text}
use Rattle.batch_serve.specs.Safe.{GoesOnSafely}
use Rattle.batch_serve.specs.Served.{IsSafeService, plain_text, run_lines}
use Rattle.batch_model.specs.Plant.{Plant, opening}
use Rattle.batch_engine.specs.View.{setup}
use Rattle.batch_wire.specs.Transcript.{Exchange, Transcript}
use Rattle.batch_serve.specs.Replays.{BeginsText, ShowsNoWant}
use Rattle.batch_journal.specs.Disks.{Left}
use Rattle.batch_journal.specs.Journals.{recovered}
use Rattle.batch_keep.specs.Blocks.{IsBlockOf}
use Rattle.batch_pipes.specs.Service.{AppendsTimed, AreDesksServed}
use Rattle.batch_pipes.specs.declared.fault.DesksFault.{DesksFault}
use Rattle.batch_pipes.specs.declared.fault.DesksFault.TheVariants.{Memory, Thread, Journal, Record, RoundsOut}
use Rattle.batch_verdicts.specs.Running.{Stream, fault_status, memory_status, success_status}
use Rattle.batch_program.specs.JournalRuns.{Behind, DiskKind, IsOver, IsRunOver, JournalFiles}

-- runs of lines of the desks of these names were served, in this order. Their answers are the text of a safe transcript over the set. The
-- answers to each run were written behind a comment that names its desk if that isn't the desk before. The time of each turn was written
-- with them if that is asked for
pub record IsDesksRecord (times : Bool) (set : ClearedSet) (names : List (List ℕ)) (output : Stream) : Type 0 where
  pub runs : List Run
  pub answers : List Run
  pub new : Plant
  pub safe : IsSafeService set runs answers new
  pub written : AppendsTimed times output.before output.after (runs_text names None answers)

-- the exit status after a fault
abbrev pub status_of_fault : DesksFault → ℕ
status_of_fault Memory = memory_status
status_of_fault Thread = memory_status
status_of_fault Journal = fault_status
status_of_fault Record = fault_status
status_of_fault RoundsOut = fault_status

abbrev pub status_of_desks : Result ℕ DesksFault → ℕ
status_of_desks (Ok left) = 0
status_of_desks (Err fault) = status_of_fault fault

-- runs of lines of the desks were served from the plant of a recovery block, if the status is 0. Their answers were written behind the
-- block, and the file was given these runs. They stand behind the bytes that the file had been given first
pub record AreDesksBehind (times : Bool) (set : ClearedSet) (names : List (List ℕ)) (is_disk : Type 0) (first given : List ℕ) (after : Option (List ℕ)) (status : ℕ)
    (plant : Plant) (middle : Option (List ℕ)) : Type 0 where
  pub served : status ≡ success_status → AreDesksServed times (record { set = set; names = names; plant = plant; kept = first; recorded = middle; again = true }) is_disk given after
  pub ends : (status ≡ success_status) ⊎ (status ≡ fault_status) ⊎ (status ≡ memory_status)

-- the same of a file of which nothing had been given
abbrev pub AreDesksOn : (disks : DiskKind) → Bool → ClearedSet → List (List ℕ) → disks.File → Option (List ℕ) → ℕ → Behind
AreDesksOn disks times set names end after status = AreDesksBehind times set names (disks.is_disk end) [] (disks.given end) after status

-- desks are served over the file as it was opened and as it was left
abbrev pub AreDesksOver : (disks : DiskKind) → ClearedSet → List ℕ → List (List ℕ) → List ℕ → Bool → (start end : disks.File) → Stream → ℕ → Type 0
AreDesksOver disks set digits names path times start end output status =
    IsOver disks set digits path start end (AreDesksOn disks times set names end output.after status) output status

-- The recovery block of the lines that the file had was written, and behind it the answers to runs of lines of the desks. The answers to
-- the block's lines and these are together the text of a safe transcript. Whatever
-- file a crash leaves once all was given, a replay of it in which memory is never wanted writes again the answers to the block's
-- lines, and these answers without their comments
pub record AreDesksKept (disks : DiskKind) (times : Bool) (set : ClearedSet) (digits : List ℕ) (names : List (List ℕ)) (start end : disks.File) (output : Stream) : Type 0 where
  pub lines : List (List ℕ)
  pub plant : Plant
  pub block : List ℕ
  pub middle : Option (List ℕ)
  pub are_lines : disks.is_disk end → lines ≡ recovered digits (disks.seen start)
  pub is_block : IsBlockOf (setup set) opening lines plant block
  pub begun : Appends output.before middle block
  pub served : AreDesksServed times (record { set = set; names = names; plant = plant; kept = []; recorded = middle; again = true }) (disks.is_disk end) (disks.given end) output.after
  pub safe : GoesOnSafely (setup set) lines (run_lines served.runs) is_block.told (plain_text served.answers)
  pub told_again : disks.is_disk end → (left : Left) → disks.left_since end (disks.moment start) left → left.given ≡ disks.given end
      → (last : Plant) (whole : Exchange) → Transcript (setup set) opening (recovered digits left.file) whole last → ShowsNoWant whole.text
      → BeginsText (is_block.told ++ plain_text served.answers) whole.text

-- they are served, with a journal in the file at a path or without one
abbrev pub AreDesksRun : JournalFiles → ClearedSet → List ℕ → List (List ℕ) → Option (List ℕ) → Bool → Stream → ℕ → Type 0
AreDesksRun files set digits names None times output status =
    (served : Result ℕ DesksFault) × IfOk served (λ left. IsDesksRecord times set names output) × (status ≡ status_of_desks served)
AreDesksRun files set digits names (Some path) times output status =
    IsRunOver files set digits path (λ start end. AreDesksOn files.disks times set names end output.after status) output status
