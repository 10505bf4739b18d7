-- trusted: the text of a journal: a header, and groups of lines with sums.
use Rattle.std.specs.Prelude.{◌≡◌, ℕ, Bool, List, [], ◌∷◌, ◌++◌, length, take, drop, Some, codes, nat_eq, nat_lt, nat_le, ◌&&◌}
use Rattle.std.specs.Char.{is_ascii_digit}
use Rattle.std.specs.List.{starts_with, list_all}
use Rattle.hex.specs.Hex.{encode_lower}
use Rattle.sha2.specs.Sha256.{sha256}
use Rattle.batch_journal.specs.Lines.{text_of, whole_lines_before_zero}
use Rattle.batch_journal.specs.Groups.{Format, taken, last_sum}
use Rattle.batch_journal.specs.declared.sum.Sum.{Sum}
use Rattle.batch_journal.specs.declared.sum.Sum.TheVariants.{Documents, Group}

-- the sum of a group: the first 16 digits of the SHA-256 of the sum before it, a line feed and the group's lines
abbrev pub next_sum : List ℕ → List ℕ → List ℕ
next_sum before text = take 16 (encode_lower (sha256 (before ++ 10 ∷ text)))

-- a time in milliseconds: one to twenty decimal digits
abbrev pub is_time : List ℕ → Bool
is_time bytes = (nat_lt 0 (length bytes) && nat_le (length bytes) 20) && list_all is_ascii_digit bytes

-- a closing line is this mark, its sum and a time, of which nothing more is asked
abbrev pub closing_mark : List ℕ
closing_mark = codes "# sum "

abbrev pub closing_start : List ℕ → List ℕ
closing_start sum = closing_mark ++ (sum ++ 32 ∷ [])

abbrev pub journal_format : Format
journal_format = record {
  next = λ sum lines. next_sum sum (text_of lines);
  own = λ line. starts_with nat_eq line closing_mark;
  closes = λ sum line. starts_with nat_eq line (closing_start sum) && is_time (drop (length (closing_start sum)) line);
}

-- the first line, which names the documents by 64 digits; they are the sum before the first group
abbrev pub header : List ℕ → List ℕ
header documents = codes "# batchd journal 1 " ++ (documents ++ 10 ∷ [])

-- the rest of the file behind the header
abbrev pub groups_in : List ℕ → List ℕ → List ℕ
groups_in documents file = drop (length (header documents)) file

-- the lines of the groups of this text
abbrev pub lines_taken : List ℕ → List ℕ → List (List ℕ)
lines_taken documents groups = taken journal_format documents [] (whole_lines_before_zero groups)

-- the lines that a journal of these documents stands for, whatever a crash made of its end
abbrev pub recovered : List ℕ → List ℕ → List (List ℕ)
recovered documents file = lines_taken documents (groups_in documents file)

-- the text is whole groups, and this is the sum of the last of them
pub record IsClosed (documents groups sum : List ℕ) : Type 0 where
  pub whole : groups ≡ text_of (whole_lines_before_zero groups)
  pub closed : last_sum journal_format documents [] (whole_lines_before_zero groups) ≡ Some sum

-- the file is the header and whole groups
pub record IsJournal (documents file sum : List ℕ) : Type 0 where
  pub begins : file ≡ header documents ++ groups_in documents file
  pub closed : IsClosed documents (groups_in documents file) sum

-- the digits of a sum
abbrev pub sum_text : Sum → List ℕ
sum_text (Documents digits) = digits
sum_text (Group digits) = digits
