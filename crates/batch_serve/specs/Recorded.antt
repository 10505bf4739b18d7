-- surface: the record of several desks as a text, which determines the lines due to each.
use Rattle.std.specs.Prelude.{◌≡◌, ℕ, ◌<◌, true, false, not, List, [], length, get_or, Option, None}
use Rattle.std.specs.List.{All, list_all}
use Rattle.batch_wire.specs.Transcript.{whole_lines}
use Rattle.batch_serve.specs.Replays.{IsWholeLines}
use Rattle.batch_wire.specs.EventLine.{is_comment}
use Rattle.batch_serve.specs.Dues.{due_lines}
use Rattle.batch_serve.specs.Lines.{is_feed}
use Rattle.batch_serve.specs.Runs.{Run, due_of, runs_text}

-- no name has a line feed, and no two names are equal
pub record AreNames (names : List (List ℕ)) : Type 0 where
  pub plain : (k : ℕ) → All (λ b. is_feed b ≡ false) (get_or names k [])
  pub distinct : (i k : ℕ) → i < length names → k < length names → get_or names i [] ≡ get_or names k [] → i ≡ k

-- the run is of one of so many desks, and its text is whole lines, none of which is a comment
pub record IsPlainRun (count : ℕ) (run : Run) : Type 0 where
  pub desk : run.desk < count
  pub whole : IsWholeLines run.text
  pub plain : list_all (λ line. not (is_comment line)) (whole_lines run.text) ≡ true

-- the lines that a desk is due of the text, by its comments, are those that it is due of the runs
abbrev pub RecordsAreSorted : Type 0
RecordsAreSorted =
    (names : List (List ℕ)) (desk : ℕ) (unit : Option (List ℕ)) (answers : List Run) → AreNames names → desk < length names
    → All (IsPlainRun (length names)) answers
    → due_lines (get_or names desk []) unit None (whole_lines (runs_text names None answers)) ≡ due_of desk unit answers
