-- trusted: the facts of a reader that journals lines before it gives them. Each has one proof at most, so that a struct can keep it.
use Rattle.std.specs.Prelude.{◌≡◌, ℕ, ◌≤◌, List, ◌++◌, length, take, drop, Option, Some}
use Rattle.std.specs.Io.KnownBytes.{prepend_known}
use Rattle.batch_journal.specs.Lines.{AreLines, text_of, whole_lines_before_zero}
use Rattle.batch_journal.specs.Disks.{Left}
use Rattle.batch_journal.specs.Groups.{AreOthers}
use Rattle.batch_journal.specs.Journals.{journal_format, recovered, IsJournal}

-- all of the file is a synced journal: its lines are those from before, those given, and those ready to be given
pub record IsJournalKept (documents base durable seen given ready sum : List ℕ) : Type 0 where
  pub journal : IsJournal documents seen sum
  pub synced : durable ≡ seen
  pub holds : text_of (recovered documents seen) ≡ base ++ (given ++ ready)

-- whole lines alone
abbrev pub IsWhole : List ℕ → Type 0
IsWhole text = text ≡ text_of (whole_lines_before_zero text)

-- whole lines that may be a group: none of them closes one
pub record IsGroup (lines : List ℕ) : Type 0 where
  pub whole : IsWhole lines
  pub others : AreOthers journal_format (whole_lines_before_zero lines)

-- the lines of the journal behind those from before and all that was given
abbrev pub not_given : List ℕ → List ℕ → List ℕ → List ℕ → List ℕ
not_given documents base seen given = drop (length (base ++ given)) (text_of (recovered documents seen))

-- one text is a prefix of the other
abbrev pub StartsText : List ℕ → List ℕ → Type 0
StartsText front text = take (length front) text ≡ front

-- the lines that a crash leaves begin with those from before and all that was given by then
abbrev pub Recalls : List ℕ → List ℕ → Left → Type 0
Recalls documents base left = StartsText (base ++ left.given) (text_of (recovered documents left.file))

-- a crash at any moment since that one does so
pub record HasRecalled (documents base : List ℕ) (since moment : ℕ) (left_since : ℕ → Left → Type 0) : Type 0 where
  pub later : since ≤ moment
  pub each : (left : Left) → left_since since left → Recalls documents base left

-- if the input was known, it is the bytes given and those left
abbrev pub IsAccounted : Option (List ℕ) → List ℕ → Option (List ℕ) → Type 0
IsAccounted input given unread = (all : List ℕ) → input ≡ Some all → prepend_known given unread ≡ Some all

-- if the text of a file's recovered lines begins with the text of lines, these are the first recovered lines
abbrev pub LinesBegin : Type 0
LinesBegin =
    (documents : List ℕ) (front : List (List ℕ)) (file : List ℕ) → AreLines front → StartsText (text_of front) (text_of (recovered documents file))
    → (more : List (List ℕ)) × (recovered documents file ≡ front ++ more)
