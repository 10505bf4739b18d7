-- trusted: a line of the record is the text of one out.
use Rattle.std.specs.Prelude.{◌≡◌, ℕ, Bool, ◌||◌, List, ◌++◌, codes, MatchOption}
use Rattle.std.specs.Str.{bytes_eq}
use Rattle.batch_model.specs.Runs.{Out}
use Rattle.batch_wire.specs.EventLine.{is_comment}
use Rattle.batch_wire.specs.RecordText.{out_text}
use Rattle.batch_record.specs.Naming.{IsNamed, as_told}
use Rattle.batch_record.specs.RecordLine.{out_of_line}

-- the line, which has no line feed at its end here, is the text of the out
abbrev pub IsLineOf : Out → List ℕ → Type 0
IsLineOf out line = out_text out ≡ line ++ codes "\n"

-- a line tells an out: it is the text of the out, whose names are names, and leaves out no part of it
pub record TellsOut (line : List ℕ) (out : Out) : Type 0 where
  pub named : IsNamed out
  pub text : IsLineOf out line
  pub whole : as_told out ≡ out

-- the line is the text of no out whose names are names
abbrev pub TellsNothing : List ℕ → Type 0
TellsNothing line = (out : Out) → IsNamed out → IsLineOf out line → ⊥

-- the out that is read from a line is the one that it tells, and a line from which none is read tells none
abbrev pub LinesTellOuts : Type 0
LinesTellOuts = (line : List ℕ) → MatchOption (out_of_line line) (TellsNothing line) (TellsOut line)

-- outs whose names are names and whose texts are the same are one but for the parts that a text leaves out
abbrev pub TextIsOne : Type 0
TextIsOne = (one other : Out) → IsNamed one → IsNamed other → out_text one ≡ out_text other → as_told one ≡ as_told other

-- an out without the parts that its text leaves out has the same text
abbrev pub TextIsAsTold : Type 0
TextIsAsTold = (out : Out) → out_text (as_told out) ≡ out_text out

-- Lines that are passed over

-- the line says that an event line was refused before the machine saw it
abbrev pub is_fault_line : List ℕ → Bool
is_fault_line line =
    bytes_eq line (codes "refused W1") || (bytes_eq line (codes "refused W2") || (bytes_eq line (codes "refused W3")
    || (bytes_eq line (codes "refused W4") || (bytes_eq line (codes "refused W5") || bytes_eq line (codes "refused W6")))))

-- the line is a comment, or says that an event line was refused before the machine saw it
abbrev pub is_passed_over : List ℕ → Bool
is_passed_over line = is_comment line || is_fault_line line
