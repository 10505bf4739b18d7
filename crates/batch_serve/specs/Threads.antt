-- surface: a desk's reader, from its input to its ring, and a desk's writer, from its ring to its output.
use Rattle.std.specs.Prelude.{◌≡◌, ℕ, Bool, true, List, [], ◌∷◌, ◌++◌, flat_map, Option, Some, None}
use Rattle.std.specs.Io.KnownBytes.{Appends, Consumes, IsAtEnd}
use Rattle.std.specs.List.{list_any}
use Rattle.batch_wire.specs.Written.{AppendsBeginning}
use Rattle.batch_serve.specs.Rounds.{AreMessagesOf, HaveWholeLines, is_end, text_sent}
use Rattle.batch_serve.specs.declared.rounds.ReaderMessage.{ReaderMessage}

-- Readers

-- each message of an input may follow those before it, behind these
abbrev pub MayHandOver : (List ReaderMessage → ReaderMessage → Type 0) → List ReaderMessage → Option (List ℕ) → Type 0
MayHandOver allows before input = (messages : List ReaderMessage) (next : ReaderMessage) → AreMessagesOf input (messages ++ next ∷ []) → allows (before ++ messages) next

-- all that was read was handed over, in whole lines
pub record ReadsOn (old new : Option (List ℕ)) (before after : List ReaderMessage) : Type 0 where
  pub items : List ReaderMessage
  pub whole : HaveWholeLines items
  pub went : after ≡ before ++ items
  pub read : Consumes old new (text_sent items)

-- whole lines, a prefix of the text read, were handed over; if it ended well, all of it, to the end of the input, and then the end
pub record IsInputRead (ended : Bool) (old new : Option (List ℕ)) (before after : List ReaderMessage) : Type 0 where
  pub items : List ReaderMessage
  pub whole : HaveWholeLines items
  pub rest : List ℕ
  pub went : after ≡ before ++ items
  pub read : Consumes old new (text_sent items ++ rest)
  pub all : ended ≡ true → rest ≡ []
  pub end : ended ≡ true → IsAtEnd new
  pub told : ended ≡ true → list_any is_end items ≡ true

-- one step of it
abbrev pub ReadsNext : Option Bool → Option (List ℕ) → Option (List ℕ) → List ReaderMessage → List ReaderMessage → Type 0
ReadsNext None old new before after = ReadsOn old new before after
ReadsNext (Some ended) old new before after = IsInputRead ended old new before after

-- Writers

-- each line with its line feed
abbrev pub lines_text : List (List ℕ) → List ℕ
lines_text lines = flat_map (λ line. line ++ 10 ∷ []) lines

-- all that was received was written
pub record WritesOn (before after : List (List ℕ)) (old new : Option (List ℕ)) : Type 0 where
  pub lines : List (List ℕ)
  pub came : after ≡ before ++ lines
  pub written : Appends old new (lines_text lines)

-- the written text is a prefix of the received one, and all of it if it ended well
pub record AreLinesWritten (ended : Bool) (before after : List (List ℕ)) (old new : Option (List ℕ)) : Type 0 where
  pub lines : List (List ℕ)
  pub came : after ≡ before ++ lines
  pub begun : AppendsBeginning old new (lines_text lines)
  pub written : ended ≡ true → Appends old new (lines_text lines)

abbrev pub WritesNext : Option Bool → List (List ℕ) → List (List ℕ) → Option (List ℕ) → Option (List ℕ) → Type 0
WritesNext None before after old new = WritesOn before after old new
WritesNext (Some ended) before after old new = AreLinesWritten ended before after old new
