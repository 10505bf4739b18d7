-- trusted: the outcome of a run over a journal, and the printed refusal of a file.
use Rattle.std.specs.Prelude.{◌≡◌, ◌⊎◌, ◌++◌, ℕ, Bool, true, false, List, Option, IfSome, codes, decimal}
use Rattle.std.specs.Io.KnownBytes.{Appends}
use Rattle.batch_model.specs.Plant.{Plant, opening}
use Rattle.batch_verify.specs.ClearedSet.{ClearedSet}
use Rattle.batch_engine.specs.View.{setup}
use Rattle.batch_wire.specs.Transcript.{lines_of}
use Rattle.batch_wire.specs.Written.{AppendsBeginning}
use Rattle.batch_wire.specs.WrittenTranscript.{WritesTranscript}
use Rattle.batch_serve.specs.Comments.{IsRemarked}
use Rattle.batch_serve.specs.Safe.{GoesOnSafely}
use Rattle.batch_serve.specs.Serves as serving
use Rattle.batch_journal.specs.Disks.{Left}
use Rattle.batch_journal.specs.Journals.{recovered}
use Rattle.batch_journal.specs.Lines.{text_of}
use Rattle.batch_journal.specs.Readers.{HasRecalled}
use Rattle.batch_journal.specs.Recovery.{HasNoFault, IsRefusedFor}
use Rattle.batch_journal.specs.declared.disk.Disk as disk
use Rattle.batch_journal.specs.declared.recovery.RecoveryFault.{RecoveryFault}
use Rattle.batch_journal.specs.declared.recovery.RecoveryFault.TheVariants.{Disk, NoJournal, OtherDocuments, Damaged}
use Rattle.batch_keep.specs.Blocks.{IsBlockOf}
use Rattle.batch_keep.specs.Told.{IsNeverLost}
use Rattle.batch_messages.specs.Shown.{shown}
use Rattle.batch_verdicts.specs.Running.{IsUnwritten, Stream, fault_status, memory_status, success_status}
use Rattle.batch_program.specs.PlantRuns.{refused_status}
use Rattle.batch_program.specs.RecordRuns.{IsUntold, output_of}

-- the refusal of a file, with its path as it is shown
abbrev pub journal_text : List ℕ → RecoveryFault → List ℕ
journal_text path (Disk fault) = codes "refused J1 " ++ (shown path ++ codes "\n")
journal_text path NoJournal = codes "refused J1 " ++ (shown path ++ codes "\n")
journal_text path OtherDocuments = codes "refused J2 " ++ (shown path ++ codes "\n")
journal_text path (Damaged line) = codes "refused J3 " ++ (shown path ++ (codes " " ++ (decimal line ++ codes "\n")))

-- it is printed, or can't be, or there is no memory for it
abbrev pub IsJournalRefused : List ℕ → RecoveryFault → Stream → ℕ → Type 0
IsJournalRefused path fault output status =
    (Appends output.before output.after (journal_text path fault) × (status ≡ refused_status)) ⊎ (status ≡ fault_status) ⊎ (IsUnwritten output × (status ≡ memory_status))

-- disks of one kind, and the state of one that has behaved as a disk so far
pub record DiskKind : Type 1 where
  pub File : Type 0
  pub is_disk : File → Type 0
  pub durable : File → List ℕ
  pub seen : File → List ℕ
  pub given : File → List ℕ
  pub moment : File → ℕ
  pub left_since : File → ℕ → Left → Type 0

-- those of a type of the code
abbrev pub disks_of : {D : Type 0} → disk.Ghosts D → DiskKind
disks_of {D} d =
    record { File = D; is_disk = d.is_disk; durable = d.durable; seen = d.seen; given = d.given; moment = d.moment; left_since = d.left_since }

-- the disks that journals are on, and the file that is opened at a path
pub record JournalFiles : Type 1 where
  pub disks : DiskKind
  pub opens : List ℕ → disks.File → Type 0

-- the output behind the block: without its comments if some are asked for, and else as it is
abbrev pub IsShownAs : Bool → Option (List ℕ) → Option (List ℕ) → Option (List ℕ) → Type 0
IsShownAs false middle after plain = after ≡ plain
IsShownAs true middle after plain = IsRemarked middle after plain

-- all lines of the input are answered behind the block, if the status is 0. However the run ended, a replay of the file that a crash
-- leaves writes again the answers to the journal's lines and those of this run
pub record IsServedBehind (disks : DiskKind) (set : ClearedSet) (digits : List ℕ) (plant : Plant) (start end : disks.File) (unread middle after : Option (List ℕ)) (status : ℕ) : Type 0 where
  pub answers : status ≡ success_status → IfSome unread (λ input. (new : Plant) × WritesTranscript (setup set) plant (lines_of input) new middle after)
  pub never_lost : disks.is_disk end → IfSome unread (λ input.
      IsNeverLost (setup set) plant digits (disks.seen start) (disks.durable end) (disks.seen end) (disks.given end) middle after)
  pub ends : (status ≡ success_status) ⊎ (status ≡ fault_status) ⊎ (status ≡ memory_status)

-- The recovery block of the lines that the file had was written, and behind it, comments aside, the answers to all lines of the input.
-- The answers to the block's lines and these are together the text of a safe transcript
pub record AreServedSafely (disks : DiskKind) (set : ClearedSet) (digits : List ℕ) (commented : Bool) (start end : disks.File) (ends : serving.Ends) : Type 0 where
  pub lines : List (List ℕ)
  pub plant : Plant
  pub block : List ℕ
  pub middle : Option (List ℕ)
  pub plain : Option (List ℕ)
  pub are_lines : disks.is_disk end → lines ≡ recovered digits (disks.seen start)
  pub is_block : IsBlockOf (setup set) opening lines plant block
  pub begun : Appends ends.before middle block
  pub shown : IsShownAs commented middle ends.after plain
  pub safe : IfSome ends.unread (λ input. (answers : List ℕ) × Appends middle plain answers × GoesOnSafely (setup set) lines (lines_of input) is_block.told answers)

-- a condition on the output behind a recovery block, by the plant of the block and the output up to its end
abbrev pub Behind : Type 1
Behind = Plant → Option (List ℕ) → Type 0

-- lines of the input are served behind the block, comments aside
abbrev pub IsShownBehind : (disks : DiskKind) → ClearedSet → List ℕ → Bool → (start end : disks.File) → (unread after : Option (List ℕ)) → ℕ → Behind
IsShownBehind disks set digits commented start end unread after status = λ plant middle.
    (plain : Option (List ℕ)) × IsShownAs commented middle after plain × IsServedBehind disks set digits plant start end unread middle plain status

-- the outcome over the opened file
pub data IsJournalTold (disks : DiskKind) (set : ClearedSet) (digits path : List ℕ) (start end : disks.File) (behind : Behind) (output : Stream) (status : ℕ) : Type 0 where
  refuses : (fault : RecoveryFault) → (disks.is_disk end → IsRefusedFor digits (disks.seen start) fault) → IsJournalRefused path fault output status
      → IsJournalTold disks set digits path start end behind output status
  stops : IsUntold output status → IsJournalTold disks set digits path start end behind output status
  -- there is no reason to refuse the file; the recovery block of its lines is written, and the rest behind it
  serves : (lines : List (List ℕ)) (plant : Plant) (block : List ℕ) (middle : Option (List ℕ))
      → (disks.is_disk end → HasNoFault digits (disks.seen start) × (lines ≡ recovered digits (disks.seen start)))
      → IsBlockOf (setup set) opening lines plant block → Appends output.before middle block → behind plant middle
      → IsJournalTold disks set digits path start end behind output status
  -- the block can't be written whole
  fails : (lines : List (List ℕ)) (plant : Plant) (block : List ℕ) → (disks.is_disk end → HasNoFault digits (disks.seen start)) → IsBlockOf (setup set) opening lines plant block
      → AppendsBeginning output.before output.after block → status ≡ fault_status → IsJournalTold disks set digits path start end behind output status

-- the file as it was opened and as it was left; at each moment between them a crash leaves the lines that it had, and all behind them
-- that the machine was given by then
pub record IsOver (disks : DiskKind) (set : ClearedSet) (digits path : List ℕ) (start end : disks.File) (behind : Behind) (output : Stream) (status : ℕ) : Type 0 where
  pub any_moment : disks.is_disk end
      → HasRecalled digits (text_of (recovered digits (disks.seen start))) (disks.moment start) (disks.moment end) (disks.left_since end)
  -- a file that there is a reason to refuse stays as it was
  pub untouched : disks.is_disk end → HasNoFault digits (disks.seen start) ⊎ (disks.seen end ≡ disks.seen start)
  pub told : IsJournalTold disks set digits path start end behind output status

-- the file at the path is opened, in which all that is read is durable; or it can't be opened
abbrev pub IsRunOver : (files : JournalFiles) → ClearedSet → List ℕ → List ℕ → (files.disks.File → files.disks.File → Behind) → Stream → ℕ → Type 0
IsRunOver files set digits path behind output status =
    ((start : files.disks.File) × (end : files.disks.File) × files.opens path start × (files.disks.is_disk start → files.disks.durable start ≡ files.disks.seen start)
    × IsOver files.disks set digits path start end (behind start end) output status)
    ⊎ IsUntold output status

-- lines of the input are served over the file. Comments may be asked for in the record
abbrev pub IsOverFile : (disks : DiskKind) → ClearedSet → List ℕ → List ℕ → Bool → (start end : disks.File) → serving.Ends → ℕ → Type 0
IsOverFile disks set digits path commented start end ends status =
    IsOver disks set digits path start end (IsShownBehind disks set digits commented start end ends.unread ends.after status) (output_of ends) status

abbrev pub IsJournalRun : JournalFiles → ClearedSet → List ℕ → List ℕ → Bool → serving.Ends → ℕ → Type 0
IsJournalRun files set digits path commented ends status =
    IsRunOver files set digits path (λ start end. IsShownBehind files.disks set digits commented start end ends.unread ends.after status) (output_of ends) status
