-- trusted: runs of lines that one desk sent, or of answers to them: their text, the lines due to a desk, and its own text.
use Rattle.std.specs.Prelude.{ℕ, ◌<◌, Bool, false, ◌==◌, List, [], ◌∷◌, ◌++◌, filter, flat_map, get_or, Option, Some, None, cond, codes}
use Rattle.std.specs.List.{All}
use Rattle.batch_wire.specs.Transcript.{whole_lines}
use Rattle.batch_serve.specs.Dues.{is_due}

-- whole lines that a desk sent, or the answers to them: the desk's place among all, and the text
pub record Run : Type 0 where
  pub desk : ℕ
  pub text : List ℕ

abbrev pub is_same : Option ℕ → ℕ → Bool
is_same None desk = false
is_same (Some other) desk = other == desk

-- the comment that names the desk, unless it is the desk before
abbrev pub from_text : List (List ℕ) → Option ℕ → ℕ → List ℕ
from_text names before desk = cond (is_same before desk) [] (codes "# from " ++ (get_or names desk [] ++ 10 ∷ []))

-- the text of the runs behind those of a desk, or of none
abbrev pub runs_text : List (List ℕ) → Option ℕ → List Run → List ℕ
runs_text names before [] = []
runs_text names before (run ∷ runs) = from_text names before run.desk ++ (run.text ++ runs_text names (Some run.desk) runs)

-- the desk of the last run, or the desk before if there is no run
abbrev pub last_of : Option ℕ → List Run → Option ℕ
last_of before [] = before
last_of before (run ∷ runs) = last_of (Some run.desk) runs

-- the lines of the runs that are due to the desk at this place, as a console or as the link of a unit
abbrev pub due_of : ℕ → Option (List ℕ) → List Run → List (List ℕ)
due_of desk unit runs = flat_map (λ (run : Run). filter (is_due (run.desk == desk) unit) (whole_lines run.text)) runs

-- the text of its own lines
abbrev pub own_text : ℕ → List Run → List ℕ
own_text desk runs = flat_map (λ (run : Run). cond (run.desk == desk) run.text []) runs

-- each is of one of so many desks
abbrev pub AreOfDesks : ℕ → List Run → Type 0
AreOfDesks count runs = All (λ (run : Run). run.desk < count) runs
