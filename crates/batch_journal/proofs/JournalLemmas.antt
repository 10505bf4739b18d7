-- Texts of groups behind a header.
use Rattle.std.proofs.Common.{◌≡◌, ◌⊎◌, ℕ, true, false, List, [], ◌∷◌, ◌++◌, length, length-append, Some, refl, sym, ◌∙◌, ap, subst, arith, append_assoc, inl, inr}
use Rattle.std.proofs.lemmas.List.{drop-append-le}
use Rattle.batch_journal.{specs.Lines.IsLine, specs.Lines.AreLines, specs.Lines.text_of, specs.Lines.until_zero, specs.Lines.whole_from, specs.Lines.whole_lines_before_zero, specs.Groups.Format, specs.Groups.taken, specs.Groups.last_sum, specs.Groups.AreOthers, specs.Journals.journal_format, specs.Journals.next_sum, specs.Journals.header, specs.Journals.groups_in, specs.Journals.lines_taken, specs.Journals.recovered, specs.Journals.IsClosed, specs.Journals.IsJournal, proofs.LineLemmas.no_zero, proofs.LineLemmas.until_zero_behind, proofs.LineLemmas.until_zero_all, proofs.LineLemmas.reads_lines, proofs.LineLemmas.reads_all, proofs.LineLemmas.text_both, proofs.LineLemmas.lines_both, proofs.LineLemmas.are_whole_lines, proofs.GroupLemmas.go_on, proofs.GroupLemmas.is_taken, proofs.GroupLemmas.bool_cases}

-- behind lines others are read as by themselves
pub lines_behind : (lines : List (List ℕ)) (tail : List ℕ) → AreLines lines → whole_lines_before_zero (text_of lines ++ tail) ≡ lines ++ whole_lines_before_zero tail
lines_behind lines tail are = ap (whole_from []) (until_zero_behind (text_of lines) tail (no_zero lines are)) ∙ reads_lines lines (until_zero tail) are

pub lines_of_text : (lines : List (List ℕ)) → AreLines lines → whole_lines_before_zero (text_of lines) ≡ lines
lines_of_text lines are = ap (whole_from []) (until_zero_all (text_of lines) (no_zero lines are)) ∙ reads_all lines are

-- behind a text of whole lines others are read as by themselves
pub whole_behind : (text tail : List ℕ) → text ≡ text_of (whole_lines_before_zero text) → whole_lines_before_zero (text ++ tail) ≡ whole_lines_before_zero text ++ whole_lines_before_zero tail
whole_behind text tail whole = ap (λ l. whole_lines_before_zero (l ++ tail)) whole ∙ lines_behind (whole_lines_before_zero text) tail (are_whole_lines text)

module _ (documents : List ℕ) where
  -- behind whole groups others are taken as by themselves
  pub taken_behind : (groups sum tail : List ℕ) → IsClosed documents groups sum
      → lines_taken documents (groups ++ tail) ≡ lines_taken documents groups ++ taken journal_format sum [] (whole_lines_before_zero tail)
  taken_behind groups sum tail closed =
      ap (taken journal_format documents []) (whole_behind groups tail closed.whole)
      ∙ (go_on journal_format documents sum [] (whole_lines_before_zero groups) (whole_lines_before_zero tail) closed.closed).0

  -- a group more
  module _ (groups sum text closing : List ℕ) (lines : List (List ℕ)) (is_closed : IsClosed documents groups sum) (text_is : text ≡ text_of lines)
      (are : AreLines lines) (others : AreOthers journal_format lines) (is_line : IsLine closing) (own : journal_format.own closing ≡ true)
      (closes : journal_format.closes (next_sum sum text) closing ≡ true) where
    group_is : text ++ (closing ++ 10 ∷ []) ≡ text_of (lines ++ closing ∷ [])
    group_is = ap (λ l. l ++ (closing ++ 10 ∷ [])) text_is ∙ sym (text_both lines (closing ∷ []))

    group_lines : AreLines (lines ++ closing ∷ [])
    group_lines = lines_both lines (closing ∷ []) are (is_line, tt)

    read : whole_lines_before_zero (text ++ (closing ++ 10 ∷ [])) ≡ lines ++ closing ∷ []
    read = ap whole_lines_before_zero group_is ∙ lines_of_text (lines ++ closing ∷ []) group_lines

    closes_so : journal_format.closes (journal_format.next sum lines) closing ≡ true
    closes_so = subst (λ t. journal_format.closes (next_sum sum t) closing ≡ true) text_is closes

    group : (taken journal_format sum [] (lines ++ closing ∷ []) ≡ lines) × (last_sum journal_format sum [] (lines ++ closing ∷ []) ≡ Some (next_sum sum (text_of lines)))
    group = is_taken journal_format sum lines closing others own closes_so

    all_read : whole_lines_before_zero (groups ++ (text ++ (closing ++ 10 ∷ []))) ≡ whole_lines_before_zero groups ++ (lines ++ closing ∷ [])
    all_read = whole_behind groups (text ++ (closing ++ 10 ∷ [])) is_closed.whole ∙ ap (λ l. whole_lines_before_zero groups ++ l) read

    pub closed_with : IsClosed documents (groups ++ (text ++ (closing ++ 10 ∷ []))) (next_sum sum text)
    closed_with = record {
      whole = ap (λ l. l ++ (text ++ (closing ++ 10 ∷ []))) is_closed.whole ∙ ap (λ l. text_of (whole_lines_before_zero groups) ++ l) group_is
          ∙ sym (text_both (whole_lines_before_zero groups) (lines ++ closing ∷ [])) ∙ ap text_of (sym all_read);
      closed = ap (last_sum journal_format documents []) all_read
          ∙ (go_on journal_format documents sum [] (whole_lines_before_zero groups) (lines ++ closing ∷ []) is_closed.closed).1
          ∙ group.1 ∙ ap (λ t. Some (next_sum sum t)) (sym text_is);
    }

    pub taken_with : lines_taken documents (groups ++ (text ++ (closing ++ 10 ∷ []))) ≡ lines_taken documents groups ++ lines
    taken_with = taken_behind groups sum (text ++ (closing ++ 10 ∷ [])) is_closed
        ∙ ap (λ l. lines_taken documents groups ++ taken journal_format sum [] l) read ∙ ap (λ l. lines_taken documents groups ++ l) group.0

  -- no group
  pub closed_start : IsClosed documents [] documents
  closed_start = record { whole = refl; closed = refl }

  pub groups_behind : (file tail : List ℕ) → file ≡ header documents ++ groups_in documents file → groups_in documents (file ++ tail) ≡ groups_in documents file ++ tail
  groups_behind file tail begins = drop-append-le (length (header documents)) file tail (omega (arith, ap length begins, length-append (header documents) (groups_in documents file)))

  -- behind a journal
  pub recovered_behind : (file sum tail : List ℕ) → IsJournal documents file sum
      → recovered documents (file ++ tail) ≡ recovered documents file ++ taken journal_format sum [] (whole_lines_before_zero tail)
  recovered_behind file sum tail journal =
      ap (lines_taken documents) (groups_behind file tail journal.begins) ∙ taken_behind (groups_in documents file) sum tail journal.closed

  module _ (file sum text closing : List ℕ) (lines : List (List ℕ)) (journal : IsJournal documents file sum) (text_is : text ≡ text_of lines)
      (are : AreLines lines) (others : AreOthers journal_format lines) (is_line : IsLine closing) (own : journal_format.own closing ≡ true)
      (closes : journal_format.closes (next_sum sum text) closing ≡ true) where
    behind : groups_in documents (file ++ (text ++ (closing ++ 10 ∷ []))) ≡ groups_in documents file ++ (text ++ (closing ++ 10 ∷ []))
    behind = groups_behind file (text ++ (closing ++ 10 ∷ [])) journal.begins

    pub journal_with : IsJournal documents (file ++ (text ++ (closing ++ 10 ∷ []))) (next_sum sum text)
    journal_with = record {
      begins = ap (λ l. l ++ (text ++ (closing ++ 10 ∷ []))) journal.begins ∙ append_assoc (header documents) (groups_in documents file) (text ++ (closing ++ 10 ∷ []))
          ∙ ap (λ l. header documents ++ l) (sym behind);
      closed = subst (λ l. IsClosed documents l (next_sum sum text)) (sym behind)
          (closed_with (groups_in documents file) sum text closing lines journal.closed text_is are others is_line own closes);
    }

    pub recovered_with : recovered documents (file ++ (text ++ (closing ++ 10 ∷ []))) ≡ recovered documents file ++ lines
    recovered_with = ap (lines_taken documents) behind ∙ taken_with (groups_in documents file) sum text closing lines journal.closed text_is are others is_line own closes

-- Lines that are taken are lines

lines_if : (f : Format) (sum : List ℕ) (begun : List (List ℕ)) (line : List ℕ) (lines : List (List ℕ))
    → (f.own line ≡ true) ⊎ (f.own line ≡ false) → (f.closes (f.next sum begun) line ≡ true) ⊎ (f.closes (f.next sum begun) line ≡ false)
    → AreLines begun → AreLines (taken f (f.next sum begun) [] lines) → AreLines (taken f sum (begun ++ line ∷ []) lines) → AreLines (taken f sum begun (line ∷ lines))
lines_if f sum begun line lines (inl own) (inl closes) are anew on = rw (own, closes) (lines_both begun (taken f (f.next sum begun) [] lines) are anew)
lines_if f sum begun line lines (inl own) (inr not) are anew on = rw (own, not) tt
lines_if f sum begun line lines (inr other) closes are anew on = rw other on

pub are_taken : (f : Format) (sum : List ℕ) (begun lines : List (List ℕ)) → AreLines begun → AreLines lines → AreLines (taken f sum begun lines)
are_taken f sum begun [] are others = tt
are_taken f sum begun (line ∷ lines) are others =
    lines_if f sum begun line lines (bool_cases (f.own line)) (bool_cases (f.closes (f.next sum begun) line)) are
    (are_taken f (f.next sum begun) [] lines tt others.1) (are_taken f sum (begun ++ line ∷ []) lines (lines_both begun (line ∷ []) are (others.0, tt)) others.1)

pub are_recovered : (documents file : List ℕ) → AreLines (recovered documents file)
are_recovered documents file = are_taken journal_format documents [] (whole_lines_before_zero (groups_in documents file)) tt (are_whole_lines (groups_in documents file))
