-- worked rows: lines that were served of a desk's input, and messages that its ring allows.
use Rattle.std.specs.Prelude.{◌≡◌, ℕ, Bool, true, false, List, [], ◌∷◌, Some, None, option_map, string_bytes}
use Rattle.batch_reader.specs.declared.desk.Desk as plans
use Rattle.batch_serve.specs.Rounds.{AreMessagesOf}
use Rattle.batch_serve.specs.Runs.{Run}
use Rattle.batch_serve.specs.declared.desk.ServedDesk.{ServedDesk}
use Rattle.batch_serve.specs.declared.rounds.ReaderMessage.TheVariants.{Lines, End}
use Rattle.batch_pipes.specs.Ended.{AreOwnServed}

-- the input of a desk: a line of the byte 1, and one of the byte 2
abbrev pub two_lines : List ℕ
two_lines = 1 ∷ 10 ∷ 2 ∷ 10 ∷ []

-- one run, of the first desk
abbrev pub one_run : List ℕ → List Run
one_run text = record { desk = 0; text = text } ∷ []

abbrev pub OwnServed : List ℕ → plans.Desk → ServedDesk → Type 0
OwnServed text plan desk = AreOwnServed (λ _. Some two_lines) 0 plan desk (one_run text)

-- this text may have been served of the desk, which is cut or not
abbrev pub IsServed : Bool → List ℕ → Type 0
IsServed is_cut text =
    (path : List ℕ) (plan : plans.Desk) (desk : ServedDesk) → option_map string_bytes plan.input ≡ Some path → desk.waiting.is_cut ≡ is_cut → OwnServed text plan desk

abbrev pub IsNotServed : Bool → List ℕ → Type 0
IsNotServed is_cut text =
    (path : List ℕ) (plan : plans.Desk) (desk : ServedDesk) → option_map string_bytes plan.input ≡ Some path → desk.waiting.is_cut ≡ is_cut → ¬ OwnServed text plan desk

-- both lines, or of a cut desk the first
abbrev pub FrontIsServed : Type 0
FrontIsServed = IsServed false two_lines × IsServed true (1 ∷ 10 ∷ [])

-- not the first alone of a desk that isn't cut
abbrev pub AllIsServed : Type 0
AllIsServed = IsNotServed false (1 ∷ 10 ∷ [])

-- not the second without the first, nor the first twice, nor half of it
abbrev pub NoOtherIsServed : Type 0
NoOtherIsServed = IsNotServed true (2 ∷ 10 ∷ []) × IsNotServed true (1 ∷ 10 ∷ 1 ∷ 10 ∷ []) × IsNotServed true (1 ∷ [])

-- and no line of a desk that has no input
abbrev pub NoneIsServed : Type 0
NoneIsServed = (plan : plans.Desk) (desk : ServedDesk) → plan.input ≡ None → ¬ OwnServed (1 ∷ 10 ∷ []) plan desk

-- the lines and then the end are messages of the input; the end behind the first line isn't, nor is half a line
abbrev pub EndIsLast : Type 0
EndIsLast =
    AreMessagesOf (Some two_lines) (Lines (1 ∷ 10 ∷ []) ∷ Lines (2 ∷ 10 ∷ []) ∷ End ∷ []) × (¬ AreMessagesOf (Some two_lines) (Lines (1 ∷ 10 ∷ []) ∷ End ∷ []))
    × (¬ AreMessagesOf (Some two_lines) (Lines (1 ∷ []) ∷ []))
