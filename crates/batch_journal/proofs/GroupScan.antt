-- How far the groups of a text are taken, line by line.
use Rattle.std.proofs.Common.{rules, ◌≡◌, ◌≢◌, ℕ, zero, suc, ◌+◌, ◌-◌, ◌≤◌, ◌<◌, true, false, ◌==◌, ◌||◌, List, [], ◌∷◌, ◌++◌, length, length-append, take, drop, take-append-drop, slice_range, slice_index, get_or, refl, sym, ◌∙◌, ap, subst, arith, append_assoc}
use Rattle.std.proofs.lemmas.List.{append-nil, take_at, drop_more, take_all, drop-append-le, take-append-le, drop-take, length-drop, length-take-le}
use lib.Seq.{take-add}
use Rattle.batch_journal.{specs.Lines.IsLine, specs.Lines.AreLines, specs.Lines.text_of, specs.Lines.whole_lines_before_zero, specs.Ends.EndsLine, specs.Groups.is_left, specs.Groups.AreOthers, specs.Journals.journal_format, specs.Journals.next_sum, specs.Journals.IsClosed, proofs.GroupLemmas.left_on, proofs.GroupLemmas.wrong_sum, proofs.LineLemmas.text_both, proofs.JournalLemmas.lines_behind, proofs.JournalLemmas.closed_with, proofs.LastWholeLine.nothing_behind, proofs.LastWholeLine.at_zero}

-- Lines

-- the line that ends there is the first
pub first_line : (at : ℕ) (bytes : List ℕ) → EndsLine at bytes → whole_lines_before_zero bytes ≡ take at bytes ∷ whole_lines_before_zero (drop (at + 1) bytes)
first_line at bytes ends =
    ap whole_lines_before_zero (ends.feed ∙ sym (append_assoc (take at bytes) (10 ∷ []) (drop (at + 1) bytes)))
    ∙ lines_behind (take at bytes ∷ []) (drop (at + 1) bytes) (ends.is_line, tt)

neither : (b : ℕ) → ((b == 0 || b == 10) ≡ true → ⊥) → ((b == 0) ≡ false) × ((b == 10) ≡ false)
neither b none = (search (rules, none), search (rules, none))

-- no zero byte and no line feed precedes it
pub line_until : (bytes : List ℕ) (n : ℕ) → ((k : ℕ) → k < n → (slice_index bytes k == 0 || slice_index bytes k == 10) ≡ true → ⊥) → n ≤ length bytes → IsLine (take n bytes)
line_until [] zero none le = tt
line_until (b ∷ bytes) zero none le = tt
line_until [] (suc n) none le = absurd (omega (arith, le))
line_until (b ∷ bytes) (suc n) none le =
    let here = neither b (none 0 (omega arith)) in
    (here.0, here.1, line_until bytes n (λ k lt is. none (suc k) (omega (arith, lt)) is) (omega (arith, le)))

pub no_line : (bytes : List ℕ) → ((k : ℕ) → k < length bytes → (slice_index bytes k == 0 || slice_index bytes k == 10) ≡ true → ⊥) → whole_lines_before_zero bytes ≡ []
no_line bytes none =
    let is : IsLine bytes = subst IsLine (take_all (length bytes) bytes (omega arith)) (line_until bytes (length bytes) none (omega arith)) in
    ap whole_lines_before_zero (sym (append-nil bytes)) ∙ nothing_behind bytes [] is refl

pub no_line_before_zero : (bytes : List ℕ) (at : ℕ) → ((k : ℕ) → k < at → (slice_index bytes k == 0 || slice_index bytes k == 10) ≡ true → ⊥) → at < length bytes
    → get_or bytes at 0 ≡ 0 → whole_lines_before_zero bytes ≡ []
no_line_before_zero bytes at none lt is_zero =
    ap whole_lines_before_zero (sym (take-append-drop at bytes)) ∙ nothing_behind (take at bytes) (drop at bytes) (line_until bytes at none (omega (arith, lt))) (at_zero bytes at lt is_zero)

pub ends_there : (bytes : List ℕ) (at : ℕ) → ((k : ℕ) → k < at → (slice_index bytes k == 0 || slice_index bytes k == 10) ≡ true → ⊥) → at < length bytes
    → get_or bytes at 0 ≡ 10 → EndsLine at bytes
ends_there bytes at none lt is_feed = record {
  within = lt;
  is_line = line_until bytes at none (omega (arith, lt));
  feed = sym (take-append-drop at bytes) ∙ ap (λ l. take at bytes ++ l) (drop_more bytes at 0 lt) ∙ ap (λ b. take at bytes ++ b ∷ drop (at + 1) bytes) is_feed;
}

-- Groups

module _ (documents bytes : List ℕ) (end at len : ℕ) (sum : List ℕ) (begun : List (List ℕ)) (order : end ≤ at) (within : at ≤ length bytes)
    (text_is : slice_range bytes end at ≡ text_of begun) (are : AreLines begun) (others : AreOthers journal_format begun) where
  range_to : (n : ℕ) → end ≤ n → drop end (take n bytes) ≡ slice_range bytes end n
  range_to n le = let size : n ≡ end + (n - end) = omega (arith, le) in ap (λ k. drop end (take k bytes)) size ∙ drop-take end (n - end) bytes

  range_is : drop end (take at bytes) ≡ slice_range bytes end at
  range_is = range_to at order

  at_front : take at bytes ≡ take end bytes ++ slice_range bytes end at
  at_front =
      sym (take-append-drop end (take at bytes))
      ∙ ap (λ l. l ++ drop end (take at bytes)) (sym (take-append-le end (take at bytes) (drop at bytes) (omega (arith, order, length-take-le at bytes within))) ∙ ap (take end) (take-append-drop at bytes))
      ∙ ap (λ l. take end bytes ++ l) range_is

  behind : drop end bytes ≡ slice_range bytes end at ++ drop at bytes
  behind = ap (drop end) (sym (take-append-drop at bytes)) ∙ drop-append-le end (take at bytes) (drop at bytes) (omega (arith, order, length-take-le at bytes within))
      ∙ ap (λ l. l ++ drop at bytes) range_is

  lines_left : whole_lines_before_zero (drop end bytes) ≡ begun ++ whole_lines_before_zero (drop at bytes)
  lines_left = ap whole_lines_before_zero behind ∙ ap (λ l. whole_lines_before_zero (l ++ drop at bytes)) text_is ∙ lines_behind begun (drop at bytes) are

  begun_left : is_left journal_format sum [] (whole_lines_before_zero (drop end bytes)) ≡ is_left journal_format sum begun (whole_lines_before_zero (drop at bytes))
  begun_left = ap (is_left journal_format sum []) lines_left ∙ left_on journal_format sum [] begun (whole_lines_before_zero (drop at bytes)) others

  pub none_left : whole_lines_before_zero (drop at bytes) ≡ [] → is_left journal_format sum [] (whole_lines_before_zero (drop end bytes)) ≡ true
  none_left none = begun_left ∙ ap (is_left journal_format sum begun) none

  pub none_closed : (line : List ℕ) → EndsLine len (drop at bytes) → line ≡ take len (drop at bytes) → journal_format.own line ≡ true
      → journal_format.closes (next_sum sum (slice_range bytes end at)) line ≡ false → is_left journal_format sum [] (whole_lines_before_zero (drop end bytes)) ≡ true
  none_closed line ends line_is own closes =
      let first = first_line len (drop at bytes) ends in
      begun_left ∙ ap (is_left journal_format sum begun) (first ∙ ap (λ l. l ∷ whole_lines_before_zero (drop (len + 1) (drop at bytes))) (sym line_is))
      ∙ wrong_sum journal_format sum begun line (whole_lines_before_zero (drop (len + 1) (drop at bytes))) own (subst (λ t. journal_format.closes (next_sum sum t) line ≡ false) text_is closes)

  -- the line and its line feed
  step : EndsLine len (drop at bytes) → take (at + (len + 1)) bytes ≡ take at bytes ++ (take len (drop at bytes) ++ 10 ∷ [])
  step ends =
      let line = take len (drop at bytes) in
      let size : length (line ++ 10 ∷ []) ≡ len + 1 = omega (arith, length-append line (10 ∷ []), length-take-le len (drop at bytes) (omega (arith, ends.within))) in
      take-add at (len + 1) bytes
      ∙ ap (λ l. take at bytes ++ l) (ap (take (len + 1)) (ends.feed ∙ sym (append_assoc line (10 ∷ []) (drop (len + 1) (drop at bytes)))) ∙ take_at (line ++ 10 ∷ []) _ (len + 1) size)

  pub closed_there : (line : List ℕ) (next : ℕ) → EndsLine len (drop at bytes) → line ≡ take len (drop at bytes) → next ≡ at + (len + 1) → IsClosed documents (take end bytes) sum
      → journal_format.own line ≡ true → journal_format.closes (next_sum sum (slice_range bytes end at)) line ≡ true
      → IsClosed documents (take next bytes) (next_sum sum (slice_range bytes end at))
  closed_there line next ends line_is next_is closed own closes =
      let text = slice_range bytes end at in
      let is_line : IsLine line = subst IsLine (sym line_is) ends.is_line in
      let file : take next bytes ≡ take end bytes ++ (text ++ (line ++ 10 ∷ [])) =
      ap (λ n. take n bytes) next_is ∙ step ends ∙ ap (λ l. take at bytes ++ (l ++ 10 ∷ [])) (sym line_is) ∙ ap (λ l. l ++ (line ++ 10 ∷ [])) at_front ∙ append_assoc (take end bytes) text (line ++ 10 ∷ []) in
      subst (λ l. IsClosed documents l (next_sum sum text)) (sym file)
      (closed_with documents (take end bytes) sum text line begun closed text_is are others is_line own closes)

  pub begun_there : (line : List ℕ) (next : ℕ) → EndsLine len (drop at bytes) → line ≡ take len (drop at bytes) → next ≡ at + (len + 1)
      → slice_range bytes end next ≡ text_of (begun ++ line ∷ [])
  begun_there line next ends line_is next_is =
      ap (λ n. slice_range bytes end n) next_is ∙ sym (range_to (at + (len + 1)) (omega (arith, order))) ∙ ap (drop end) (step ends)
      ∙ drop-append-le end (take at bytes) (take len (drop at bytes) ++ 10 ∷ []) (omega (arith, order, length-take-le at bytes within))
      ∙ ap (λ l. l ++ (take len (drop at bytes) ++ 10 ∷ [])) range_is
      ∙ ap (λ l. slice_range bytes end at ++ (l ++ 10 ∷ [])) (sym line_is) ∙ ap (λ l. l ++ (line ++ 10 ∷ [])) text_is ∙ sym (text_both begun (line ∷ []))

pub others_more : (begun : List (List ℕ)) (line : List ℕ) → AreOthers journal_format begun → journal_format.own line ≡ false → AreOthers journal_format (begun ++ line ∷ [])
others_more [] line others own = (own, tt)
others_more (first ∷ begun) line others own = (others.0, others_more begun line others.1 own)

-- a line whose first byte isn't `#` closes no group
pub own_if : (at : ℕ) (bytes : List ℕ) → get_or bytes 0 0 ≢ 35 → journal_format.own (take at bytes) ≡ false
own_if zero [] not = refl
own_if zero (b ∷ bytes) not = refl
own_if (suc at) [] not = refl
own_if (suc at) (b ∷ bytes) not = let other : (35 == b) ≡ false = search (rules, not) in rw other refl

pub line_at : (bytes : List ℕ) (at len : ℕ) → slice_range bytes at (at + len) ≡ take len (drop at bytes)
line_at bytes at len = let size : at + len - at ≡ len = omega arith in ap (λ n. take n (drop at bytes)) size

pub none_between : (bytes : List ℕ) (at : ℕ) → slice_range bytes at at ≡ []
none_between bytes at = let size : at - at ≡ 0 = omega arith in ap (λ n. take n (drop at bytes)) size

-- a byte that is one of the two, and not the second
pub is_zero : (b : ℕ) → (b == 0 || b == 10) ≡ true → (b ≡ 10 → ⊥) → b ≡ 0
is_zero b either not = search (rules, either, not)

-- a slice to the end
pub to_end : (bytes : List ℕ) (at : ℕ) → take (length bytes - at) (drop at bytes) ≡ drop at bytes
to_end bytes at = take_all (length bytes - at) (drop at bytes) (omega (arith, length-drop at bytes))
