-- surface: the lines that the thread of a desk's input hands over, and the text that the thread of its output writes.
use Rattle.std.specs.Prelude.{◌≡◌, ℕ, Bool, true, List, [], ◌++◌, Option, Some, None, IfSome, string_bytes, ⊤}
use Rattle.std.specs.Io.KnownBytes.{Appends}
use Rattle.std.specs.List.{list_any}
use Rattle.rtrb.specs.Ring.{sent}
use Rattle.batch_wire.specs.Transcript.{lines_of}
use Rattle.batch_wire.specs.Written.{AppendsBeginning}
use Rattle.batch_serve.specs.CleanLines.{clean_lines}
use Rattle.batch_serve.specs.Rounds.{is_end, text_sent}
use Rattle.batch_serve.specs.Threads.{lines_text}
use Rattle.batch_serve.specs.declared.rounds.ReaderMessage.{ReaderMessage}
use Rattle.batch_pipes.specs.InputOrder.{CameBehind}
use Rattle.batch_pipes.specs.declared.fault.PipeFault.{PipeFault}
use Rattle.batch_pipes.specs.declared.fault.PipeFault.TheVariants.{Memory, OutputUnopened}
use Rattle.batch_pipes.specs.declared.reading.InputTask.{InputTask}
use Rattle.batch_pipes.specs.declared.written.Written.{Written}

-- a prefix of the lines of the input, as a journal has them, was handed over; if it ended well, all of them, and the end
pub record HandsOver (ended : Bool) (input : Option (List ℕ)) (before after : List ReaderMessage) : Type 0 where
  pub items : List ReaderMessage
  pub went : after ≡ before ++ items
  pub begun : (bytes : List ℕ) → input ≡ Some bytes
      → (rest : List ℕ) × (clean_lines (lines_of bytes) ≡ text_sent items ++ rest) × (ended ≡ true → rest ≡ [])
  pub told : ended ≡ true → list_any is_end items ≡ true

-- the task is to hand over the input of its path, of which nothing was handed over
abbrev pub IsNew : {P : Type 0} → InputTask P → Type 0
IsNew task = CameBehind (Some (string_bytes task.path)) (sent task.ring) []

-- a prefix of the front and the lines that came, as one text, was written; if it ended well, all of that
pub record IsWrittenBehind (front : List ℕ) (ended : Bool) (before after : List (List ℕ)) (old new : Option (List ℕ)) : Type 0 where
  pub lines : List (List ℕ)
  pub came : after ≡ before ++ lines
  pub begun : AppendsBeginning old new (front ++ lines_text lines)
  pub written : ended ≡ true → Appends old new (front ++ lines_text lines)

-- if the old contents of an output are known, the new ones are a prefix of these and the text behind them
abbrev pub HoldsBeginning : Option (List ℕ) → Option (List ℕ) → List ℕ → Type 0
HoldsBeginning None now text = ⊤
HoldsBeginning (Some stood) None text = ⊥
HoldsBeginning (Some stood) (Some now) text = (rest : List ℕ) × (stood ++ text ≡ now ++ rest)

-- the faults of a thread that has no output to give back: it couldn't be opened, or there was no memory for its buffer
abbrev pub HasNoOutput : Option PipeFault → Type 0
HasNoOutput (Some (OutputUnopened error)) = ⊤
HasNoOutput (Some Memory) = ⊤
HasNoOutput _ = ⊥

-- the output holds a prefix of its old contents and the text behind them; if it ended well, all of that
pub record IsWrittenOf {W : Type 0} (contents : W → Option (List ℕ)) (stood : Option (List ℕ)) (text : List ℕ) (w : Written W) : Type 0 where
  pub begun : IfSome w.output (λ output. HoldsBeginning stood (contents output) text)
  pub whole : w.fault ≡ None → (output : W) × (w.output ≡ Some output) × Appends stood (contents output) text
  pub missing : w.output ≡ None → HasNoOutput w.fault

-- the text was the front, and then the lines that came
pub record IsWrittenOut {W : Type 0} (contents : W → Option (List ℕ)) (stood : Option (List ℕ)) (front : List ℕ) (before after : List (List ℕ)) (w : Written W) : Type 0 where
  pub lines : List (List ℕ)
  pub came : after ≡ before ++ lines
  pub written : IsWrittenOf contents stood (front ++ lines_text lines) w
