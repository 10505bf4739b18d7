-- trusted: the answers of a run over a journal, and that a replay of any file that a crash leaves writes them again.
use Rattle.std.specs.Prelude.{◌≡◌, ℕ, ◌≤◌, List, [], ◌++◌, length, take, Option, Some}
use Rattle.batch_model.specs.Plant.{Setup, Plant}
use Rattle.batch_wire.specs.Transcript.{Exchange, Transcript}
use Rattle.batch_wire.specs.WrittenTranscript.{BeginsTranscript}
use Rattle.batch_serve.specs.Replays.{BeginsText, IsWholeLines, ShowsNoWant}
use Rattle.batch_journal.specs.Disks.{Left, MayLeave}
use Rattle.batch_journal.specs.Journals.{IsJournal, recovered}
use Rattle.batch_journal.specs.Lines.{AreLines, text_of}

-- all of the file is a synced journal, and nothing was given yet: as recovery leaves it
pub record IsJournalAtRest (documents durable seen given sum : List ℕ) : Type 0 where
  pub journal : IsJournal documents seen sum
  pub synced : durable ≡ seen
  pub none : given ≡ []

-- whole lines were given, and a prefix of the text of a transcript of the first of them was written
pub record TellsLines (c : Setup) (old : Plant) (given : List ℕ) (before after : Option (List ℕ)) : Type 0 where
  pub lines : List (List ℕ)
  pub are_lines : AreLines lines
  pub given_is : given ≡ text_of lines
  pub count : ℕ
  pub few : count ≤ length lines
  pub begins : BeginsTranscript c old (take count lines) before after

-- the same, if the bytes of the input are known
abbrev pub TellsLinesIfKnown : Setup → Plant → Option (List ℕ) → List ℕ → Option (List ℕ) → Option (List ℕ) → Type 0
TellsLinesIfKnown c old input given before after = (all : List ℕ) → input ≡ Some all → TellsLines c old given before after

-- The lines that the journal had were replayed from a first plant, and the run wrote whole lines that show no want of memory. Whatever
-- file a crash leaves now, a replay of it in which memory is never wanted writes all of that again, and more behind it.
abbrev pub IsToldAgain : Setup → Plant → List ℕ → List ℕ → List ℕ → List ℕ → List ℕ → Option (List ℕ) → Option (List ℕ) → Type 0
IsToldAgain c old documents start durable seen given before after =
    (first last : Plant) (replayed whole : Exchange) (left : Left) (held told rest : List ℕ)
    → Transcript c first (recovered documents start) replayed old → ShowsNoWant replayed.text
    → before ≡ Some held → after ≡ Some (held ++ (told ++ rest)) → IsWholeLines told → ShowsNoWant told
    → MayLeave durable seen given left → Transcript c first (recovered documents left.file) whole last → ShowsNoWant whole.text
    → BeginsText (replayed.text ++ told) whole.text

-- The lines that the journal had were replayed from a first plant. Whatever file a crash leaves now, a replay of it in which memory is
-- never wanted writes again the answers from before this run and those of this run, and more behind them.
abbrev pub IsNeverLost : Setup → Plant → List ℕ → List ℕ → List ℕ → List ℕ → List ℕ → Option (List ℕ) → Option (List ℕ) → Type 0
IsNeverLost c old documents start durable seen given before after =
    (first last : Plant) (replayed whole : Exchange) (left : Left) (held : List ℕ)
    → Transcript c first (recovered documents start) replayed old → ShowsNoWant replayed.text → before ≡ Some held
    → MayLeave durable seen given left → Transcript c first (recovered documents left.file) whole last → ShowsNoWant whole.text
    → (told : List ℕ) × (after ≡ Some (held ++ told)) × BeginsText (replayed.text ++ told) whole.text
