-- private: the end of a run over a journal.
use Rattle.std.specs.Prelude.{◌≡◌, ◌⊎◌, ℕ, Bool, List, Option, IfSome, option_map}
use Rattle.std.specs.Io.KnownBytes.{Appends}
use Rattle.batch_model.specs.Plant.{Setup, Plant}
use Rattle.batch_verify.specs.ClearedSet.{ClearedSet}
use Rattle.batch_wire.specs.Transcript.{lines_of}
use Rattle.batch_wire.specs.Written.{AppendsBeginning}
use Rattle.batch_wire.specs.WrittenTranscript.{WritesTranscript}
use Rattle.batch_serve.specs.CleanLines.{clean_lines}
use Rattle.batch_journal.specs.Journals.{recovered}
use Rattle.batch_journal.specs.Lines.{text_of}
use Rattle.batch_journal.specs.declared.recovery.RecoveryFault.{RecoveryFault}
use Rattle.batch_keep.specs.Told.{IsNeverLost}
use Rattle.batch_keep.specs.declared.starting.StartFault.{StartFault}
use Rattle.batch_keep.specs.declared.starting.StartFault.TheVariants.{Recovery}
use Rattle.batch_verdicts.specs.Running.{Stream, fault_status, memory_status, success_status}
use Rattle.batch_program.specs.DeskRuns.{AreDesksBehind}
use Rattle.batch_program.specs.JournalRuns.{IsJournalRefused, IsShownAs}
use Rattle.batch_program.specs.RecordRuns.{IsUntold}

-- the bytes that a reader of an input gives to a journal
abbrev pub cleaned : Option (List ℕ) → Option (List ℕ)
cleaned unread = option_map (λ input. clean_lines (lines_of input)) unread

-- a refused file is reported by its line, and no other fault is
abbrev pub IsStartTold : List ℕ → StartFault → Stream → ℕ → Type 0
IsStartTold path fault output status =
    ((refusal : RecoveryFault) × (fault ≡ Recovery refusal) × IsJournalRefused path refusal output status) ⊎ IsUntold output status

-- the answers of a run behind the block
pub record IsTold (c : Setup) (plant : Plant) (documents base : List ℕ) (is_disk : Type 0) (durable seen given : List ℕ) (unread middle after : Option (List ℕ)) (status : ℕ) : Type 0 where
  pub answers : status ≡ success_status → IfSome unread (λ input. (new : Plant) × WritesTranscript c plant (lines_of input) new middle after)
  pub never_lost : is_disk → (start : List ℕ) → base ≡ text_of (recovered documents start) → IfSome unread (λ input. IsNeverLost c plant documents start durable seen given middle after)
  pub ends : (status ≡ success_status) ⊎ (status ≡ fault_status) ⊎ (status ≡ memory_status)

-- the block and these answers, comments aside, or a prefix of the block
abbrev pub IsToldBehind : Setup → Plant → List ℕ → List ℕ → Bool → Type 0 → List ℕ → List ℕ → List ℕ → List ℕ → Option (List ℕ) → Option (List ℕ) → Option (List ℕ) → ℕ → Type 0
IsToldBehind c plant documents base commented is_disk durable seen given block unread before after status =
    ((middle : Option (List ℕ)) × (plain : Option (List ℕ)) × Appends before middle block × IsShownAs commented middle after plain
    × IsTold c plant documents base is_disk durable seen given unread middle plain status)
    ⊎ (AppendsBeginning before after block × (status ≡ fault_status))

-- the block and the answers to desks, or a prefix of the block
abbrev pub AreDesksToldBehind : Bool → ClearedSet → List (List ℕ) → Plant → Type 0 → (first given block : List ℕ) → Stream → ℕ → Type 0
AreDesksToldBehind times set names plant is_disk first given block output status =
    ((middle : Option (List ℕ)) × Appends output.before middle block × AreDesksBehind times set names is_disk first given output.after status plant middle)
    ⊎ (AppendsBeginning output.before output.after block × (status ≡ fault_status))
