-- trusted: the reading of a record's text.
use Rattle.std.specs.Prelude.{◌≡◌, ℕ, ◌+◌, ◌-◌, ◌^◌, List, [], ◌∷◌, ◌++◌, length, flat_map, min, Some, None}
use Rattle.batch_model.specs.Lists.{Each}
use Rattle.batch_wire.specs.LineEnds.{HasNoFeed}
use Rattle.batch_record.specs.Blocks.{Stage, opening_stage, stage_after, stages}

-- each line with a line feed after it
abbrev pub lines_text : List (List ℕ) → List ℕ
lines_text lines = flat_map (λ line. line ++ 10 ∷ []) lines

-- the text is these lines, and after them a last one that no line feed ends
pub record IsText (lines : List (List ℕ)) (last text : List ℕ) : Type 0 where
  pub whole : Each HasNoFeed lines
  pub unended : HasNoFeed last
  pub is : text ≡ lines_text lines ++ last

-- the whole lines of the text lead to this stage
pub record LeadsTo (text : List ℕ) (stage : Stage) : Type 0 where
  pub lines : List (List ℕ)
  pub last : List ℕ
  pub is_text : IsText lines last text
  pub stages : stages opening_stage lines ≡ Some stage

-- the line with this number, from 1 on, is the first that is no line of a record. Numbers end with 64 bits
pub record IsRefusedAt (text : List ℕ) (number : ℕ) : Type 0 where
  pub before : List (List ℕ)
  pub line : List ℕ
  pub rest : List ℕ
  pub stage : Stage
  pub whole : Each HasNoFeed before
  pub unended : HasNoFeed line
  pub is : text ≡ lines_text before ++ (line ++ 10 ∷ rest)
  pub stages : stages opening_stage before ≡ Some stage
  pub refused : stage_after stage line ≡ None
  pub numbered : number ≡ min (length before + 1) (2 ^ 64 - 1)
