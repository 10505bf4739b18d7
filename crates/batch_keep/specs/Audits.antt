-- trusted: the finding of an audit on a record, against the lines that were sent.
use Rattle.std.specs.Prelude.{◌≡◌, ◌≢◌, ◌⊎◌, ℕ, ◌+◌, ◌-◌, ◌^◌, List, [], ◌∷◌, ◌++◌, length, flat_map, min, if◌then◌else◌}
use Rattle.batch_model.specs.Plant.{Plant, opening}
use Rattle.batch_verify.specs.ClearedSet.{ClearedSet}
use Rattle.batch_engine.specs.View.{setup}
use Rattle.batch_wire.specs.EventLine.{is_comment}
use Rattle.batch_wire.specs.Transcript.{Exchange, Transcript, lines_of}
use Rattle.batch_serve.specs.Replays.{BeginsText}
use Rattle.batch_serve.specs.Safe.{IsSafeTranscript}
use Rattle.batch_keep.specs.declared.finding.Finding.{Finding}
use Rattle.batch_keep.specs.declared.finding.Finding.TheVariants.{Agrees, Differs, EndsBefore}

-- Records

-- the record is these whole lines, and behind them a last one that no line feed ends, which may be empty
abbrev pub HasLines : List ℕ → List (List ℕ) → List ℕ → Type 0
HasLines text lines last = lines_of text ≡ lines ++ last ∷ []

-- the text of a line, with its line feed: that of a comment is empty
abbrev pub told_line : List ℕ → List ℕ
told_line line = if is_comment line then [] else line ++ 10 ∷ []

-- the text of lines without their comments
abbrev pub told_text : List (List ℕ) → List ℕ
told_text lines = flat_map told_line lines

-- the number of the line behind these, from 1 on. Numbers end with 64 bits
abbrev pub number_behind : List (List ℕ) → ℕ
number_behind lines = min (length lines + 1) (2 ^ 64 - 1)

-- Audits

-- the text is that of a safe transcript of the lines that were sent
pub record IsRecordOf (set : ClearedSet) (sent : List (List ℕ)) (text : List ℕ) : Type 0 where
  pub said : Exchange
  pub new : Plant
  pub transcript : IsSafeTranscript (setup set) sent said new
  pub is : text ≡ said.text

-- it begins that of one
pub record BeginsRecordOf (set : ClearedSet) (sent : List (List ℕ)) (text : List ℕ) : Type 0 where
  pub said : Exchange
  pub new : Plant
  pub transcript : IsSafeTranscript (setup set) sent said new
  pub begins : BeginsText text said.text

-- it is that of none
abbrev pub IsRecordOfNone : ClearedSet → List (List ℕ) → List ℕ → Type 0
IsRecordOfNone set sent text = (said : Exchange) (new : Plant) → Transcript (setup set) opening sent said new → text ≢ said.text

-- it begins that of none
abbrev pub BeginsNoRecord : ClearedSet → List (List ℕ) → List ℕ → Type 0
BeginsNoRecord set sent text = (said : Exchange) (new : Plant) → Transcript (setup set) opening sent said new → BeginsText text said.text → ⊥

-- the finding on a record
pub data Finds (set : ClearedSet) (sent : List (List ℕ)) (text : List ℕ) : Finding → Type 0 where
  agrees : (lines : List (List ℕ)) → HasLines text lines [] → IsRecordOf set sent (told_text lines) → Finds set sent text Agrees
  -- the text before the line begins a record, and with the line it begins none
  differs : (before others : List (List ℕ)) (line last : List ℕ) → HasLines text (before ++ line ∷ others) last
      → BeginsRecordOf set sent (told_text before) → BeginsNoRecord set sent (told_text before ++ told_line line)
      → Finds set sent text (Differs (number_behind before))
  -- all whole lines begin a record; they aren't one, or a part of a line follows them
  ends : (lines : List (List ℕ)) (last : List ℕ) → HasLines text lines last
      → BeginsRecordOf set sent (told_text lines) → (last ≢ []) ⊎ IsRecordOfNone set sent (told_text lines)
      → Finds set sent text (EndsBefore (number_behind lines))
