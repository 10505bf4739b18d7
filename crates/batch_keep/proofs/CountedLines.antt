-- How many lines of a journal were sent.
use Rattle.std.proofs.Common.{◌≡◌, ℕ, zero, suc, ◌+◌, ◌-◌, ◌≤◌, Bool, true, false, cond, ◌==◌, List, [], ◌∷◌, ◌++◌, length, take, drop, get_or, Some, None, codes, nat_eq, refl, sym, ◌∙◌, ap, subst, inl, inr, arith, length-append, length-drop, ◌⊎◌}
use Rattle.std.{proofs.lemmas.Bool.cases_Bool, proofs.lemmas.Bool.Decides.Decides-eqb, proofs.lemmas.List.take_at, proofs.lemmas.List.take_rest, proofs.lemmas.Slice.Eq.starts_is, proofs.Math.Seq.drop-append-add, specs.List.starts_with}
use Rattle.memchr.specs.Find.{IsFirstByte, is_byte}
use Rattle.batch_wire.specs.EventLine.{is_comment}
use Rattle.batch_journal.specs.{Journals.header, Journals.groups_in, Journals.closing_mark, Journals.journal_format, Journals.recovered, Journals.IsJournal, Lines.IsLine, Lines.AreLines, Lines.text_of, Lines.whole_lines_before_zero}
use Rattle.batch_keep.{specs.Counts.count_from, specs.Counts.count_of, specs.Counts.is_counted_behind, specs.Counts.own_behind, specs.Counts.own_from, specs.Counts.sent_lines, proofs.Comments.others, proofs.Comments.recovered_others}

-- Counts

all_behind : (is_from : Bool) → cond is_from true true ≡ true
all_behind true = refl
all_behind false = refl

one_of_all : (name line : List ℕ) (lines : List (List ℕ)) → (is_comment line ≡ true) ⊎ (is_comment line ≡ false)
    → count_from true name true lines ≡ length (sent_lines lines)
    → count_of true line + count_from true name true lines ≡ length (sent_lines (line ∷ lines))
one_of_all name line lines (inl comment) rest =
    let none : 0 + count_from true name true lines ≡ count_from true name true lines = omega arith in
    rw comment (none ∙ rest)
one_of_all name line lines (inr other) rest =
    let one : 1 + count_from true name true lines ≡ suc (count_from true name true lines) = omega arith in
    rw other (one ∙ ap suc rest)

pub count_of_all : (name : List ℕ) (lines : List (List ℕ)) → count_from true name true lines ≡ length (sent_lines lines)
count_of_all name [] = refl
count_of_all name (line ∷ lines) =
    ap (λ b. count_of true line + count_from true name b lines) (all_behind (starts_with nat_eq line (codes "# from ")))
    ∙ one_of_all name line lines (cases_Bool (is_comment line)) (count_of_all name lines)

one_line_of : (comment own : Bool) (line : List ℕ) → cond comment 0 (cond own 1 0) ≡ length (cond comment [] (cond own (line ∷ []) []))
one_line_of true own line = refl
one_line_of false true line = refl
one_line_of false false line = refl

pub count_of_desk : (name : List ℕ) (own : Bool) (lines : List (List ℕ)) → count_from false name own lines ≡ length (own_from name own lines)
count_of_desk name own [] = refl
count_of_desk name own (line ∷ lines) =
    let first = cond (is_comment line) [] (cond own (line ∷ []) []) in
    let rest = own_from name (own_behind name own line) lines in
    ap (λ n. n + count_from false name (own_behind name own line) lines) (one_line_of (is_comment line) own line)
    ∙ ap (λ n. length first + n) (count_of_desk name (own_behind name own line) lines) ∙ sym (length-append first rest)

few_of : (comment counted : Bool) → cond comment 0 (cond counted 1 0) ≤ 1
few_of true counted = omega arith
few_of false true = omega arith
few_of false false = omega arith

-- a line that the journal has for itself adds nothing, and says nothing of who sends
closing_counts : (all : Bool) (name : List ℕ) (counted : Bool) (line : List ℕ) → journal_format.own line ≡ true
    → (count_of counted line ≡ 0) × (is_counted_behind all name counted line ≡ counted)
closing_counts all name counted line own =
    let rest = drop (length closing_mark) line in
    let is : line ≡ closing_mark ++ rest = (starts_is Decides-eqb line closing_mark (starts_with nat_eq line closing_mark) refl).0 own in
    subst (λ l. (count_of counted l ≡ 0) × (is_counted_behind all name counted l ≡ counted)) (sym is) (refl, refl)

-- so many lines are counted, and these bytes are left
pub record Counted (all : Bool) (name documents text : List ℕ) (counted : Bool) (count : ℕ) (rest : List ℕ) : Type 0 where
  pub lines : List (List ℕ)
  pub is : rest ≡ text_of lines
  pub are : AreLines lines
  pub total : count + count_from all name counted (others lines) ≡ count_from all name all (recovered documents text)
  pub few : count + length rest ≤ length text

pub started : (all : Bool) (name documents text sum : List ℕ) → IsJournal documents text sum → AreLines (whole_lines_before_zero (groups_in documents text))
    → Counted all name documents text all 0 (groups_in documents text)
started all name documents text sum journal are =
    let same : count_from all name all (others (whole_lines_before_zero (groups_in documents text))) ≡ count_from all name all (recovered documents text) =
    ap (λ l. count_from all name all l) (sym (recovered_others documents text sum journal)) in
    record {
      lines = whole_lines_before_zero (groups_in documents text);
      is = journal.closed.whole;
      are = are;
      total = omega (arith, same);
      few = omega (arith, length-drop (length (header documents)) text);
    }

-- a journal's header has so many bytes
header_size : (documents : List ℕ) → length documents ≡ 64 → length (header documents) ≡ 84
header_size documents size =
    let all : length (header documents) ≡ 19 + (length documents + 1) = length-append (codes "# batchd journal 1 ") (documents ++ 10 ∷ []) ∙ ap (λ n. 19 + n) (length-append documents (10 ∷ [])) in
    omega (arith, all, size)

pub started_behind : (all : Bool) (name documents text sum : List ℕ) → IsJournal documents text sum → AreLines (whole_lines_before_zero (groups_in documents text)) → length documents ≡ 64
    → Counted all name documents text all 0 (take (length text - 84) (drop 84 text))
started_behind all name documents text sum journal are size =
    subst (Counted all name documents text all 0) (ap (λ n. drop n text) (header_size documents size) ∙ sym (take_rest text 84)) (started all name documents text sum journal are)

-- the first line feed is behind the first line
feed_at : (line text : List ℕ) (at : ℕ) → IsLine line → IsFirstByte (is_byte 10) (line ++ 10 ∷ text) (Some at) → at ≡ length line
feed_at [] text zero is first = refl
feed_at [] text (suc at) is first = absurd (first.0.before 0 (omega arith) (omega arith) refl)
feed_at (b ∷ line) text zero is first = let clash : true ≡ false = sym first.1 ∙ is.1 in absurd (cc clash)
feed_at (b ∷ line) text (suc at) is first =
    ap suc (feed_at line text at is.2 (record { low = omega arith; high = omega (arith, first.0.high); before = λ k le lt so. first.0.before (suc k) (omega arith) (omega (arith, lt)) so }, first.1))

module _ (all : Bool) (name documents text : List ℕ) (counted : Bool) (count : ℕ) (rest : List ℕ) (at : ℕ) (first : IsFirstByte (is_byte 10) rest (Some at)) where
  one_line : (line : List ℕ) (lines : List (List ℕ)) → IsLine line → rest ≡ line ++ 10 ∷ text_of lines → (take at rest ≡ line) × (drop (at + 1) rest ≡ text_of lines)
  one_line line lines is split =
      let here : at ≡ length line = feed_at line (text_of lines) at is (subst (λ l. IsFirstByte (is_byte 10) l (Some at)) split first) in
      (ap (take at) split ∙ take_at line (10 ∷ text_of lines) at (sym here), ap (drop (at + 1)) split ∙ ap (λ n. drop (n + 1) (line ++ 10 ∷ text_of lines)) here ∙ drop-append-add line (10 ∷ text_of lines) 1)

  module _ (more : ℕ) (next : Bool) (more_is : more ≡ count_of counted (take at rest)) (next_is : next ≡ is_counted_behind all name counted (take at rest)) where
    few_left : count + length rest ≤ length text → (count + more) + length (drop (at + 1) rest) ≤ length text
    few_left few = omega (arith, few, first.0.high, more_is, few_of (is_comment (take at rest)) counted, length-drop (at + 1) rest)

    total_behind : (line : List ℕ) (lines : List (List ℕ)) → take at rest ≡ line → (journal_format.own line ≡ true) ⊎ (journal_format.own line ≡ false)
        → count + count_from all name counted (others (line ∷ lines)) ≡ count_from all name all (recovered documents text)
        → (count + more) + count_from all name next (others lines) ≡ count_from all name all (recovered documents text)
    total_behind line lines same (inl own) total =
        let sum : count + count_from all name counted (others lines) ≡ count_from all name all (recovered documents text) = rw own at total in
        let none = closing_counts all name counted line own in
        let adds : more ≡ 0 = more_is ∙ ap (λ l. count_of counted l) same ∙ none.0 in
        let stays : count_from all name next (others lines) ≡ count_from all name counted (others lines) =
        ap (λ b. count_from all name b (others lines)) (next_is ∙ ap (λ l. is_counted_behind all name counted l) same ∙ none.1) in
        omega (arith, sum, adds, stays)
    total_behind line lines same (inr other) total =
        let sum : count + (count_of counted line + count_from all name (is_counted_behind all name counted line) (others lines)) ≡ count_from all name all (recovered documents text) = rw other at total in
        let adds : more ≡ count_of counted line = more_is ∙ ap (λ l. count_of counted l) same in
        let goes_on : count_from all name next (others lines) ≡ count_from all name (is_counted_behind all name counted line) (others lines) =
        ap (λ b. count_from all name b (others lines)) (next_is ∙ ap (λ l. is_counted_behind all name counted l) same) in
        omega (arith, sum, adds, goes_on)

    past : Counted all name documents text counted count rest → Counted all name documents text next (count + more) (drop (at + 1) rest)
    past so_far = go so_far.lines so_far.is so_far.are so_far.total
      where
        go : (lines : List (List ℕ)) → rest ≡ text_of lines → AreLines lines → count + count_from all name counted (others lines) ≡ count_from all name all (recovered documents text)
            → Counted all name documents text next (count + more) (drop (at + 1) rest)
        go [] is are total = absurd (omega (arith, first.0.high, ap length is))
        go (line ∷ lines) is are total =
            let parts = one_line line lines are.0 is in
            record {
              lines = lines;
              is = parts.1;
              are = are.1;
              total = total_behind line lines parts.0 (cases_Bool (journal_format.own line)) total;
              few = few_left so_far.few;
            }

    pub past_line_of : Counted all name documents text counted count rest → Counted all name documents text next (count + more) (take (length rest - (at + 1)) (drop (at + 1) rest))
    past_line_of so_far = subst (Counted all name documents text next (count + more)) (sym (take_rest rest (at + 1))) (past so_far)

-- if no line feed is left, no line is
pub all_counted : (all : Bool) (name documents text : List ℕ) (counted : Bool) (count : ℕ) (rest : List ℕ) → IsFirstByte (is_byte 10) rest None
    → Counted all name documents text counted count rest → count ≡ count_from all name all (recovered documents text)
all_counted all name documents text counted count rest none so_far = go so_far.lines so_far.is so_far.total
  where
    feed_there : (line text : List ℕ) → (get_or (line ++ 10 ∷ text) (length line) 0 == 10) ≡ true
    feed_there [] text = refl
    feed_there (b ∷ line) text = feed_there line text

    go : (lines : List (List ℕ)) → rest ≡ text_of lines → count + count_from all name counted (others lines) ≡ count_from all name all (recovered documents text)
        → count ≡ count_from all name all (recovered documents text)
    go [] is total = omega (arith, total)
    go (line ∷ lines) is total =
        let size : length rest ≡ length line + suc (length (text_of lines)) = ap length is ∙ length-append line (10 ∷ text_of lines) in
        absurd (none (length line) (omega arith) (omega (arith, size)) (subst (λ l. (get_or l (length line) 0 == 10) ≡ true) (sym is) (feed_there line (text_of lines))))
