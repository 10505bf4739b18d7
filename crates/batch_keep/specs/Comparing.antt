-- private: how far a record was compared with the due answers.
use Rattle.std.specs.Prelude.{◌≡◌, ◌≢◌, ℕ, ◌+◌, ◌-◌, ◌^◌, List, [], ◌∷◌, ◌++◌, length, take, min, Option, Some, None, false}
use Rattle.batch_wire.specs.EventLine.{is_comment}
use Rattle.batch_wire.specs.Transcript.{lines_of}
use Rattle.batch_serve.specs.Replays.{BeginsText}
use Rattle.batch_wire.specs.LineEnds.{EndsLine, HasNoFeed}
use Rattle.batch_keep.specs.Audits.{told_text}
use Rattle.batch_keep.specs.declared.finding.Finding.{Finding}
use Rattle.batch_keep.specs.declared.finding.Finding.TheVariants.{Agrees, Differs, EndsBefore}

-- these lines were taken of the text, behind so many before, and the rest is left
pub record TakesLines (start : ℕ) (text : List ℕ) (lines : List (List ℕ)) (count : ℕ) (rest : List ℕ) : Type 0 where
  pub read : lines_of text ≡ lines ++ lines_of rest
  pub counted : min count (2 ^ 64 - 1) ≡ min (start + length lines) (2 ^ 64 - 1)

-- the lines that were taken of the text are, without comments, the due text but for the rest that is left of it
pub record IsCompared (start : ℕ) (text due : List ℕ) (count : ℕ) (rest left : List ℕ) : Type 0 where
  pub lines : List (List ℕ)
  pub takes : TakesLines start text lines count rest
  pub told : due ≡ told_text lines ++ left

-- the next line ends there, and is no comment; None if no line feed ends it
abbrev pub IsNextLine : List ℕ → Option ℕ → Type 0
IsNextLine rest None = HasNoFeed rest
IsNextLine rest (Some at) = EndsLine at rest × (is_comment (take at rest) ≡ false)

-- why no further line was taken: nothing is left; the next line isn't the one with which the rest begins; or there is no next line
pub data Halts (count : ℕ) (rest left : List ℕ) : Option Finding → Type 0 where
  all_told : left ≡ [] → Halts count rest left None
  differs : (number at : ℕ) → IsNextLine rest (Some at) → left ≢ [] → (BeginsText (take at rest ++ 10 ∷ []) left → ⊥)
      → number ≡ min (count + 1) (2 ^ 64 - 1) → Halts count rest left (Some (Differs number))
  ends : (number : ℕ) → HasNoFeed rest → left ≢ [] → number ≡ min (count + 1) (2 ^ 64 - 1) → Halts count rest left (Some (EndsBefore number))

-- the text was compared with the due text
pub record Compares (start : ℕ) (text due : List ℕ) (count : ℕ) (rest : List ℕ) (found : Option Finding) : Type 0 where
  pub left : List ℕ
  pub compared : IsCompared start text due count rest left
  pub halts : Halts count rest left found

-- the finding on the rest of a record if nothing more is due: it is empty, or has a line, or a part of one
pub data IsEnd (count : ℕ) (rest : List ℕ) : Finding → Type 0 where
  empty : rest ≡ [] → IsEnd count rest Agrees
  more : (number at : ℕ) → IsNextLine rest (Some at) → number ≡ min (count + 1) (2 ^ 64 - 1) → IsEnd count rest (Differs number)
  part : (number : ℕ) → HasNoFeed rest → rest ≢ [] → number ≡ min (count + 1) (2 ^ 64 - 1) → IsEnd count rest (EndsBefore number)

-- the same behind the comments that come first
pub record Finishes (start : ℕ) (text : List ℕ) (found : Finding) : Type 0 where
  pub count : ℕ
  pub rest : List ℕ
  pub passed : IsCompared start text [] count rest []
  pub end : IsEnd count rest found
