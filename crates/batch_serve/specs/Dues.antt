-- surface: the lines of a record that are due to a desk, by the record's text.
use Rattle.std.specs.Prelude.{◌≡◌, ℕ, Bool, true, false, not, ◌&&◌, ◌||◌, nat_eq, List, [], ◌∷◌, ◌++◌, length, drop, filter, Option, Some, None, cond, codes}
use Rattle.std.specs.Cmp.Lexicographic.{pointwise}
use Rattle.std.specs.List.{after_first, list_all, starts_with}
use Rattle.batch_wire.specs.EventLine.{is_comment, is_space}

-- the line begins with this text
abbrev pub begins : List ℕ → List ℕ → Bool
begins front line = starts_with nat_eq line front

-- the answer to a line, and not a move that follows it
abbrev pub is_reply : List ℕ → Bool
is_reply line = begins (codes "created ") line || (begins (codes "ok ") line || begins (codes "refused ") line)

-- the start of a phase, or a send to a live one
abbrev pub is_order : List ℕ → Bool
is_order line = begins (codes "start ") line || begins (codes "send ") line

-- the text behind the first space
abbrev pub after_word : List ℕ → List ℕ
after_word text = after_first is_space text

-- the first word of the text is this one, and a space follows it
abbrev pub has_word : List ℕ → List ℕ → Bool
has_word word text = begins word text && begins (codes " ") (drop (length word) text)

-- a move that a console sees, or the link of a unit: the unit is the fourth word of a start or a send
abbrev pub is_seen : Option (List ℕ) → List ℕ → Bool
is_seen None line = true
is_seen (Some unit) line = is_order line && has_word unit (after_word (after_word (after_word line)))

-- a console, or the link of a unit, is due this line of the answers to its own lines, or to another desk's
abbrev pub is_due : Bool → Option (List ℕ) → List ℕ → Bool
is_due is_own unit line = cond (is_comment line) false (cond (is_reply line) is_own (is_seen unit line))

-- ---- a whole record, in which comments say whose lines are answered

-- the desk whose lines are answered behind this line
abbrev pub from_behind : Option (List ℕ) → List ℕ → Option (List ℕ)
from_behind from line = cond (is_comment line) (cond (begins (codes "# from ") line) (Some (drop 7 line)) from) from

abbrev pub is_from : List ℕ → Option (List ℕ) → Bool
is_from name None = false
is_from name (Some other) = pointwise nat_eq name other

-- the lines of a record that the desk of this name is due; the first of the record answer the desk `from`, if any
abbrev pub due_lines : List ℕ → Option (List ℕ) → Option (List ℕ) → List (List ℕ) → List (List ℕ)
due_lines name unit from [] = []
due_lines name unit from (line ∷ lines) =
    cond (is_due (is_from name from) unit line) (line ∷ []) [] ++ due_lines name unit (from_behind from line) lines

-- the answers to a run of lines of one desk are sorted by themselves
abbrev pub RunsAreSorted : Type 0
RunsAreSorted =
    (name : List ℕ) (unit from : Option (List ℕ)) (run rest : List (List ℕ)) → list_all (λ line. not (is_comment line)) run ≡ true
    → due_lines name unit from (run ++ rest) ≡ filter (is_due (is_from name from) unit) run ++ due_lines name unit from rest
