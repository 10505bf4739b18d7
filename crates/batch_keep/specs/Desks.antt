-- surface: the answers to several desks over a journal are written again.
use Rattle.std.specs.Prelude.{ℕ, ◌≤◌, List, [], ◌++◌, length, get_or, None}
use Rattle.batch_model.specs.Plant.{Setup, Plant}
use Rattle.batch_wire.specs.Transcript.{Exchange, Transcript}
use Rattle.batch_serve.specs.Replays.{BeginsText, ShowsNoWant}
use Rattle.batch_journal.specs.Journals.{recovered}
use Rattle.batch_journal.specs.Lines.{IsLine, text_of}
use Rattle.batch_journal.specs.Readers.{StartsText}
use Rattle.batch_serve.specs.Runs.{Run, runs_text}
use Rattle.batch_serve.specs.Served.{AreServed, AreWhole, ShowNoWant, plain_text}

-- no name has a line feed or a zero byte, and none is longer than names may be
abbrev pub AreShort : List (List ℕ) → Type 0
AreShort names = (k : ℕ) → IsLine (get_or names k []) × (length (get_or names k []) ≤ 32)

-- The lines that the journal had were replayed from a first plant. Then runs of several desks were kept, and served without want of
-- memory. Let a file begin with the lines from before, and then those of these runs. A replay of the file in which memory is never wanted
-- writes again the answers from before and those to these runs, but for the comments. Behind them it may write more.
abbrev pub DesksAreToldAgain : Type 0
DesksAreToldAgain =
    (c : Setup) (first old new last : Plant) (documents start file : List ℕ) (names : List (List ℕ)) (runs answers : List Run) (replayed whole : Exchange)
    → Transcript c first (recovered documents start) replayed old → ShowsNoWant replayed.text
    → AreServed c old runs answers new → ShowNoWant answers → AreWhole runs → AreShort names
    → StartsText (text_of (recovered documents start) ++ runs_text names None runs) (text_of (recovered documents file))
    → Transcript c first (recovered documents file) whole last → ShowsNoWant whole.text
    → BeginsText (replayed.text ++ plain_text answers) whole.text
