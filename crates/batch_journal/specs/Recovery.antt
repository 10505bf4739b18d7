-- trusted: the groups that recovery finds in a file, and the reasons to refuse one.
use Rattle.std.specs.Prelude.{◌≡◌, ◌⊎◌, ℕ, ◌+◌, ◌≤◌, ◌<◌, Bool, ◌||◌, List, [], ◌∷◌, ◌++◌, length, take, drop, filter, ⊤, false, true, codes, nat_eq, slice_index, ◌==◌}
use Rattle.std.specs.List.{starts_with}
use Rattle.batch_journal.specs.Disks.{IsPart, Left, Begins}
use Rattle.batch_journal.specs.Lines.{IsLine, AreLines, text_of, whole_from, whole_lines_before_zero}
use Rattle.batch_journal.specs.Groups.{taken, is_left, AreOthers}
use Rattle.batch_journal.specs.Journals.{header, journal_format, recovered, IsClosed, IsJournal}
use Rattle.batch_journal.specs.declared.recovery.RecoveryFault.{RecoveryFault}
use Rattle.batch_journal.specs.declared.recovery.RecoveryFault.TheVariants.{Disk, NoJournal, OtherDocuments, Damaged}

-- the groups up to there are whole, with this last sum, and none of the text behind is taken
pub record AreGroupsTaken (documents groups : List ℕ) (end : ℕ) (sum : List ℕ) : Type 0 where
  pub within : end ≤ length groups
  pub closed : IsClosed documents (take end groups) sum
  pub left : is_left journal_format sum [] (whole_lines_before_zero (drop end groups)) ≡ true

-- the lines that a line feed ends, whatever their bytes
abbrev pub raw_lines : List ℕ → List (List ℕ)
raw_lines text = whole_from [] text

-- how many of the lines close a group, whatever their sums
abbrev pub closings : List (List ℕ) → ℕ
closings lines = length (filter journal_format.own lines)

-- how many lines of a text do
abbrev pub closing_count : List ℕ → ℕ
closing_count text = closings (raw_lines text)

-- a journal up to there, behind which there is at most one closing line, as a crash may leave it
pub record StandsTo (documents file : List ℕ) (end : ℕ) (sum : List ℕ) : Type 0 where
  pub within : end ≤ length file
  pub journal : IsJournal documents (take end file) sum
  pub no_more : taken journal_format sum [] (whole_lines_before_zero (drop end file)) ≡ []
  pub few : closing_count (drop end file) ≤ 1

-- another closing line follows the first line that closes a group
pub record ClosesTwice (lines : List (List ℕ)) : Type 0 where
  pub front : List (List ℕ)
  pub closing : List ℕ
  pub more : List (List ℕ)
  pub splits : lines ≡ front ++ closing ∷ more
  pub others : AreOthers journal_format front
  pub own : journal_format.own closing ≡ true
  pub another : 0 < closings more

-- a group behind whole groups has a zero byte or another sum, and another one follows it; this line, from 1, closes it
pub record IsDamaged (documents file : List ℕ) (line : ℕ) : Type 0 where
  pub end : ℕ
  pub sum : List ℕ
  pub journal : IsJournal documents (take end file) sum
  pub behind : ClosesTwice (raw_lines (drop end file))
  pub wrong : AreLines (behind.front ++ behind.closing ∷ []) → journal_format.closes (journal_format.next sum behind.front) behind.closing ≡ false
  pub number : line ≡ length (raw_lines (take end file)) + (length behind.front + 1)

-- a group of these lines that was written behind a journal and not synced isn't taken for damage, whatever a crash left of it
abbrev pub CrashIsNoDamage : Type 0
CrashIsNoDamage =
    (documents synced sum closing tail : List ℕ) (lines : List (List ℕ)) (line : ℕ) → IsJournal documents synced sum → AreLines lines → AreOthers journal_format lines
    → IsLine closing → IsPart tail (text_of lines ++ (closing ++ 10 ∷ [])) → IsDamaged documents (synced ++ tail) line → ⊥

-- whole lines are lines
abbrev pub WholeLinesAreLines : Type 0
WholeLinesAreLines = (text : List ℕ) → AreLines (whole_lines_before_zero text)

-- recovered lines are lines
abbrev pub RecoveredAreLines : Type 0
RecoveredAreLines = (documents file : List ℕ) → AreLines (recovered documents file)

-- no line ends in the text
abbrev pub HasNoFeed : List ℕ → Type 0
HasNoFeed text = (k : ℕ) → k < length text → (slice_index text k == 10) ≡ true → ⊥

-- a byte that a crash may have left for this one
abbrev pub is_like : ℕ × ℕ → Bool
is_like pair = (pair.0 == 0) || (pair.0 == pair.1)

-- no journal was begun in the file, or a crash left a part of its header
abbrev pub IsJournalUnbegun : List ℕ → List ℕ → Type 0
IsJournalUnbegun documents file = HasNoFeed file ⊎ IsPart file (header documents)

-- a start takes the file: it is a journal of these documents up to some end, or none was begun in it
abbrev pub IsRecoverable : List ℕ → List ℕ → Type 0
IsRecoverable documents file = ((end : ℕ) × (sum : List ℕ) × StandsTo documents file end sum) ⊎ IsJournalUnbegun documents file

-- why a file is refused
abbrev pub IsRefusedFor : List ℕ → List ℕ → RecoveryFault → Type 0
IsRefusedFor documents file (Disk fault) = ⊤
IsRefusedFor documents file NoJournal = (starts_with nat_eq file (codes "# batchd journal 1 ") ≡ false) × (IsJournalUnbegun documents file → ⊥)
IsRefusedFor documents file OtherDocuments =
    (starts_with nat_eq file (codes "# batchd journal 1 ") ≡ true) × (starts_with nat_eq file (header documents) ≡ false) × (IsJournalUnbegun documents file → ⊥)
IsRefusedFor documents file (Damaged line) = IsDamaged documents file line

abbrev pub IsOfDisk : RecoveryFault → Type 0
IsOfDisk (Disk fault) = ⊤
IsOfDisk NoJournal = ⊥
IsOfDisk OtherDocuments = ⊥
IsOfDisk (Damaged line) = ⊥

-- nothing in the file is a reason to refuse it
abbrev pub HasNoFault : List ℕ → List ℕ → Type 0
HasNoFault documents file = (fault : RecoveryFault) → IsRefusedFor documents file fault → IsOfDisk fault

-- no file that a start accepts has a reason to be refused
abbrev pub TakenIsNotRefused : Type 0
TakenIsNotRefused = (documents file : List ℕ) → IsRecoverable documents file → HasNoFault documents file

-- the text is all of the file, synced, and a journal
pub record AreRests (documents text sum durable seen : List ℕ) : Type 0 where
  pub journal : IsJournal documents text sum
  pub seen_is : seen ≡ text
  pub synced : durable ≡ seen

-- the file that a crash left has the lines that the file had, and no more was given
pub record KeepsLines (documents file given : List ℕ) (left : Left) : Type 0 where
  pub lines : recovered documents left.file ≡ recovered documents file
  pub output : Begins left.given given
