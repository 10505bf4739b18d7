-- Recovery: files whose lines stay the same, whatever a crash makes of their ends.
use Rattle.std.proofs.Common.{◌≡◌, ◌⊎◌, ℕ, zero, suc, ◌+◌, ◌-◌, ◌≤◌, ◌<◌, Bool, true, false, ◌==◌, List, [], ◌∷◌, ◌++◌, length, length-append, take, drop, take-append-drop, slice_index, codes, nat_eq, refl, sym, ◌∙◌, ap, subst, arith, append_assoc, inl, inr}
use Rattle.std.{proofs.lemmas.List.append-nil, proofs.lemmas.List.take_at, proofs.lemmas.List.drop_at, proofs.lemmas.List.drop-drop, proofs.lemmas.List.length-drop, specs.List.starts_with, proofs.lemmas.Bool.cases_lt, proofs.lemmas.Bool.Decides.Decides-eqb, proofs.lemmas.Slice.Eq.starts_is}
use lib.Seq.{take-add}
use Rattle.batch_journal.{specs.Disks.IsPart, specs.Disks.Left, specs.Disks.Begins, specs.Disks.MayLeave, specs.Disks.MayCut, specs.Disks.Elapses, specs.Disks.LeavesOnly, specs.Lines.AreLines, specs.Lines.until_zero, specs.Lines.whole_from, specs.Lines.whole_lines_before_zero, specs.Groups.taken, specs.Groups.is_left, specs.Journals.journal_format, specs.Journals.header, specs.Journals.groups_in, specs.Journals.recovered, specs.Journals.IsClosed, specs.Journals.IsJournal, specs.Recovery.AreGroupsTaken, specs.Recovery.IsJournalUnbegun, specs.Recovery.KeepsLines, specs.Recovery.StandsTo, specs.Recovery.IsDamaged, specs.Recovery.ClosesTwice, specs.Recovery.closing_count, specs.Recovery.raw_lines, proofs.CrashLemmas.leaves_all, proofs.RunsOfCalls.started, proofs.RunsOfCalls.goes_on, proofs.GroupLemmas.bool_cases, proofs.GroupLemmas.none_taken_first, proofs.GroupLemmas.nothing_taken, proofs.GroupLemmas.left_wrong, proofs.JournalLemmas.recovered_behind, proofs.JournalLemmas.closed_start, proofs.JournalLemmas.lines_behind, proofs.ClosingLines.lines_front}

-- Fronts

abbrev Front : List ℕ → List ℕ → List ℕ → Type 0
Front begun text front = (more : List (List ℕ)) × (whole_from begun (until_zero text) ≡ whole_from begun (until_zero front) ++ more)

front_on : (begun : List ℕ) (b : ℕ) (text front : List ℕ) → ((b == 0) ≡ true) ⊎ ((b == 0) ≡ false) → ((b == 10) ≡ true) ⊎ ((b == 10) ≡ false)
    → Front [] text front → Front (begun ++ b ∷ []) text front → Front begun (b ∷ text) (b ∷ front)
front_on begun b text front (inl is_zero) feed anew on = ([], rw is_zero refl)
front_on begun b text front (inr not_zero) (inl feed) anew on = (anew.0, rw (not_zero, feed) (ap (λ l. begun ∷ l) anew.1))
front_on begun b text front (inr not_zero) (inr other) anew on = (on.0, rw (not_zero, other) on.1)

-- the whole lines of a front are the first of the text's
pub front_lines : (begun text : List ℕ) (n : ℕ) → Front begun text (take n text)
front_lines begun [] zero = ([], refl)
front_lines begun [] (suc n) = ([], refl)
front_lines begun (b ∷ text) zero = (whole_from begun (until_zero (b ∷ text)), refl)
front_lines begun (b ∷ text) (suc n) =
    front_on begun b text (take n text) (bool_cases (b == 0)) (bool_cases (b == 10)) (front_lines [] text n) (front_lines (begun ++ b ∷ []) text n)

-- where nothing is taken of a text, nothing is taken of a front of it
pub none_of_front : (sum text : List ℕ) (n : ℕ) → taken journal_format sum [] (whole_lines_before_zero text) ≡ [] → taken journal_format sum [] (whole_lines_before_zero (take n text)) ≡ []
none_of_front sum text n none =
    let front = front_lines [] text n in
    none_taken_first journal_format sum [] (whole_lines_before_zero (take n text)) front.0 (ap (taken journal_format sum []) (sym front.1) ∙ none)

take_none : (l : List ℕ) → take 0 l ≡ []
take_none [] = refl
take_none (x ∷ l) = refl

take_empty : (k : ℕ) → take {A = ℕ} k [] ≡ []
take_empty zero = refl
take_empty (suc k) = refl

drop_take : (n k : ℕ) (l : List ℕ) → drop n (take k l) ≡ take (k - n) (drop n l)
drop_take zero k l = let e : k ≡ k - 0 = omega arith in ap (λ j. take j l) e
drop_take (suc n) zero [] = sym (take_empty (0 - suc n))
drop_take (suc n) (suc k) [] = sym (take_empty (suc k - suc n))
drop_take (suc n) zero (x ∷ l) = let e : 0 ≡ 0 - suc n = omega arith in sym (take_none (drop n l)) ∙ ap (λ j. take j (drop n l)) e
drop_take (suc n) (suc k) (x ∷ l) = let e : suc k - suc n ≡ k - n = omega arith in drop_take n k l ∙ ap (λ j. take j (drop n l)) (sym e)

empty_drop : (n : ℕ) (l : List ℕ) → length l ≤ n → drop n l ≡ []
empty_drop zero [] le = refl
empty_drop zero (x ∷ l) le = absurd (omega (arith, le))
empty_drop (suc n) [] le = refl
empty_drop (suc n) (x ∷ l) le = empty_drop n l (omega (arith, le))

module _ (documents : List ℕ) where
  pub none_in_front : (file : List ℕ) (k : ℕ) → recovered documents file ≡ [] → recovered documents (take k file) ≡ []
  none_in_front file k none =
      let n = length (header documents) in
      ap (λ l. taken journal_format documents [] (whole_lines_before_zero l)) (drop_take n k file) ∙ none_of_front documents (drop n file) (k - n) none

  none_behind : (file : List ℕ) → length file ≤ length (header documents) → recovered documents file ≡ []
  none_behind file le =
      let none : drop (length (header documents)) file ≡ [] = empty_drop (length (header documents)) file le in
      ap (λ l. taken journal_format documents [] (whole_lines_before_zero l)) none

-- A header that is begun

pub part_length : (part whole : List ℕ) → IsPart part whole → length part ≤ length whole
part_length [] whole is = omega arith
part_length (b ∷ part) [] is = absurd is
part_length (b ∷ part) (x ∷ whole) is = omega (arith, part_length part whole is.1)

same_part : (durable seen behind : List ℕ) → durable ≡ [] → seen ≡ durable ++ behind → behind ≡ seen
same_part durable seen behind is splits = sym (splits ∙ ap (λ l. l ++ behind) is)

pub header_left : (documents durable seen given : List ℕ) (left : Left) → durable ≡ [] → seen ≡ header documents → MayLeave durable seen given left
    → recovered documents left.file ≡ []
header_left documents durable seen given left is_durable is_seen may =
    let behind_is : may.disk.behind ≡ header documents = same_part durable seen may.disk.behind is_durable may.disk.written ∙ is_seen in
    let part : length may.disk.tail ≤ length (header documents) = part_length may.disk.tail (header documents) (subst (λ l. IsPart may.disk.tail l) behind_is may.disk.part) in
    let file : left.file ≡ may.disk.tail = may.disk.leaves ∙ ap (λ l. l ++ may.disk.tail) is_durable in
    none_behind documents left.file (omega (arith, part, ap length file))

pub header_journal : (documents : List ℕ) → IsJournal documents (header documents) documents
header_journal documents =
    let none : groups_in documents (header documents) ≡ [] = empty_drop (length (header documents)) (header documents) (omega arith) in
    record {
      begins = sym (append-nil (header documents)) ∙ ap (λ l. header documents ++ l) (sym none);
      closed = subst (λ l. IsClosed documents l documents) (sym none) (closed_start documents);
    }

pub header_lines : (documents : List ℕ) → recovered documents (header documents) ≡ []
header_lines documents = none_behind documents (header documents) (omega arith)

no_feed_on : (begun : List ℕ) (b : ℕ) (text : List ℕ) → ((b == 0) ≡ true) ⊎ ((b == 0) ≡ false) → ((b == 10) ≡ true) ⊎ ((b == 10) ≡ false) → ((b == 10) ≡ true → ⊥)
    → whole_from (begun ++ b ∷ []) (until_zero text) ≡ [] → whole_from begun (until_zero (b ∷ text)) ≡ []
no_feed_on begun b text (inl is_zero) feed none below = rw is_zero refl
no_feed_on begun b text (inr not_zero) (inl feed) none below = absurd (none feed)
no_feed_on begun b text (inr not_zero) (inr other) none below = rw (not_zero, other) below

-- no line ends behind there either
pub no_feed_behind : (n : ℕ) (text : List ℕ) → ((k : ℕ) → k < length text → (slice_index text k == 10) ≡ true → ⊥)
    → (k : ℕ) → k < length (drop n text) → (slice_index (drop n text) k == 10) ≡ true → ⊥
no_feed_behind zero text none = none
no_feed_behind (suc n) [] none = λ k lt is. absurd (omega (arith, lt))
no_feed_behind (suc n) (b ∷ text) none = no_feed_behind n text (λ k lt is. none (suc k) (omega (arith, lt)) is)

-- no line ends in the text
no_feed_lines : (begun text : List ℕ) → ((k : ℕ) → k < length text → (slice_index text k == 10) ≡ true → ⊥) → whole_from begun (until_zero text) ≡ []
no_feed_lines begun [] none = refl
no_feed_lines begun (b ∷ text) none =
    no_feed_on begun b text (bool_cases (b == 0)) (bool_cases (b == 10)) (λ is. none 0 (omega arith) is)
    (no_feed_lines (begun ++ b ∷ []) text (λ k lt is. none (suc k) (omega (arith, lt)) is))

no_feed : (documents file : List ℕ) → ((k : ℕ) → k < length file → (slice_index file k == 10) ≡ true → ⊥) → recovered documents file ≡ []
no_feed documents file none =
    let n = length (header documents) in
    ap (taken journal_format documents []) (no_feed_lines [] (drop n file) (no_feed_behind n file none))

-- a file in which no journal was begun has none
pub unbegun_lines : (documents file : List ℕ) → IsJournalUnbegun documents file → recovered documents file ≡ []
unbegun_lines documents file (inl none) = no_feed documents file none
unbegun_lines documents file (inr part) = none_behind documents file (part_length file (header documents) part)

-- Files that are cut

module _ (documents file sum : List ℕ) (end : ℕ) (stands : StandsTo documents file end sum) where
  pub lines_to : recovered documents file ≡ recovered documents (take end file)
  lines_to = ap (recovered documents) (sym (take-append-drop end file)) ∙ recovered_behind documents (take end file) sum (drop end file) stands.journal
      ∙ ap (λ l. recovered documents (take end file) ++ l) stands.no_more ∙ append-nil (recovered documents (take end file))

  pub cut_lines : (kept : ℕ) → end ≤ kept → recovered documents (take kept file) ≡ recovered documents file
  cut_lines kept le =
      let size : kept ≡ end + (kept - end) = omega (arith, le) in
      ap (λ n. recovered documents (take n file)) size ∙ ap (recovered documents) (take-add end (kept - end) file)
      ∙ recovered_behind documents (take end file) sum (take (kept - end) (drop end file)) stands.journal
      ∙ ap (λ l. recovered documents (take end file) ++ l) (none_of_front sum (drop end file) (kept - end) stands.no_more)
      ∙ append-nil (recovered documents (take end file)) ∙ sym lines_to

-- The lines with which a text begins are its first whole ones, whatever follows them
front_read : (front more : List (List ℕ)) (text : List ℕ) → raw_lines text ≡ front ++ more → AreLines front → (others : List (List ℕ)) × (whole_lines_before_zero text ≡ front ++ others)
front_read front more text splits are =
    let found = lines_front front more text splits in
    (whole_lines_before_zero found.0, ap whole_lines_before_zero found.1 ∙ lines_behind front found.0 are)

-- How far a file is a journal

module _ (documents file sum : List ℕ) (n end : ℕ) (is : n ≡ length (header documents)) (begins : file ≡ header documents ++ drop n file)
    (found : AreGroupsTaken documents (drop n file) end sum) where
  to_end : take (n + end) file ≡ header documents ++ take end (drop n file)
  to_end = take-add n end file ∙ ap (λ l. l ++ take end (drop n file)) (ap (take n) begins ∙ take_at (header documents) (drop n file) n (sym is))

  groups_to : groups_in documents (take (n + end) file) ≡ take end (drop n file)
  groups_to = ap (groups_in documents) to_end ∙ drop_at (header documents) (take end (drop n file)) (length (header documents)) refl

  pub journal_to : IsJournal documents (take (n + end) file) sum
  journal_to = record {
    begins = to_end ∙ ap (λ l. header documents ++ l) (sym groups_to);
    closed = subst (λ l. IsClosed documents l sum) (sym groups_to) found.closed;
  }

  left_to : is_left journal_format sum [] (whole_lines_before_zero (drop (n + end) file)) ≡ true
  left_to = ap (λ l. is_left journal_format sum [] (whole_lines_before_zero l)) (sym (drop-drop end n file)) ∙ found.left

  pub stands_to : closing_count (drop (n + end) file) ≤ 1 → StandsTo documents file (n + end) sum
  stands_to few = record { within = omega (arith, found.within, length-drop n file, ap length begins, length-append (header documents) (drop n file), is); journal = journal_to; no_more = nothing_taken journal_format sum [] (whole_lines_before_zero (drop (n + end) file)) left_to; few = few }

  pub damaged_to : (line : ℕ) (behind : ClosesTwice (raw_lines (drop (n + end) file))) → line ≡ length (raw_lines (take (n + end) file)) + (length behind.front + 1)
      → IsDamaged documents file line
  damaged_to line behind number = record {
    end = n + end;
    sum = sum;
    journal = journal_to;
    behind = behind;
    wrong = λ are.
        let read = front_read (behind.front ++ behind.closing ∷ []) behind.more (drop (n + end) file) (behind.splits ∙ sym (append_assoc behind.front (behind.closing ∷ []) behind.more)) are in
        left_wrong journal_format sum behind.front behind.closing read.0
        (ap (is_left journal_format sum []) (sym (append_assoc behind.front (behind.closing ∷ []) read.0) ∙ sym read.1) ∙ left_to) behind.others behind.own;
    number = number;
  }

-- Moments

pub keeps_all : (documents durable seen given : List ℕ) (left : Left) → durable ≡ seen → MayLeave durable seen given left → KeepsLines documents seen given left
keeps_all documents durable seen given left synced may =
    record { lines = ap (recovered documents) (leaves_all durable seen given left synced may); output = may.output }

pub keeps_same : (documents file given now now_given : List ℕ) (left : Left) → now ≡ file → now_given ≡ given → KeepsLines documents now now_given left → KeepsLines documents file given left
keeps_same documents file given now now_given left is given_is so =
    record { lines = so.lines ∙ ap (recovered documents) is; output = subst (Begins left.given) given_is so.output }

module _ {D : Type 0} (moment : D → ℕ) (left_since : D → ℕ → Left → Type 0) (old new : D) (documents durable seen given text sum : List ℕ) (end : ℕ)
    (synced : durable ≡ seen) (seen_is : seen ≡ text) where
  pub cut_moments : StandsTo documents text end sum → {is_disk : Type 0} → ((left : Left) → is_disk → left_since old (moment old) left → MayLeave durable seen given left) → is_disk
      → Elapses (moment old) (moment new) (left_since old) (left_since new) (MayCut end seen given)
      → LeavesOnly moment left_since old new (KeepsLines documents seen given)
  cut_moments stands only is time =
      let P : Left → Type 0 = KeepsLines documents seen given in
      goes_on moment left_since old old new P _ (started moment left_since old P (λ left since. keeps_all documents durable seen given left synced (only left is since))) time
      (λ left may. record {
        lines = ap (recovered documents) (may.leaves ∙ ap (take may.kept) seen_is) ∙ cut_lines documents text sum end stands may.kept may.least ∙ ap (recovered documents) (sym seen_is);
        output = may.output;
      })

-- The header

pub header_size : (documents : List ℕ) → length documents ≡ 64 → 84 ≡ length (header documents)
header_size documents size = omega (arith, size, length-append (codes "# batchd journal 1 ") (documents ++ 10 ∷ []), length-append documents (10 ∷ []))

pub begins_so : (documents bytes text : List ℕ) (r : Bool) → text ≡ header documents → 84 ≡ length (header documents)
    → r ≡ starts_with nat_eq bytes text → r ≡ true → bytes ≡ header documents ++ drop 84 bytes
begins_so documents bytes text r is size starts so =
    (starts_is Decides-eqb bytes text r starts).0 so ∙ ap (λ l. l ++ drop (length text) bytes) is
    ∙ ap (λ n. header documents ++ drop n bytes) (ap length is ∙ sym size)

pub not_both : (b : Bool) → b ≡ true → b ≡ false → ⊥
not_both b is not = let e : true ≡ false = sym is ∙ not in absurd (cc e)

pub at_most_one : (n : ℕ) → (1 < n → ⊥) → n ≤ 1
at_most_one n not = elim (cases_lt 1 n) [ inl lt ↦ absurd (not lt) | inr le ↦ le ]

-- A journal that is begun anew

module _ (documents seen : List ℕ) (none : recovered documents seen ≡ []) where
  left_none : (left : Left) → recovered documents left.file ≡ [] → recovered documents left.file ≡ recovered documents seen
  left_none left is = is ∙ sym none

  pub left_cut : (given : List ℕ) (left : Left) → MayCut 0 seen given left → KeepsLines documents seen given left
  left_cut given left may = record { lines = left_none left (ap (recovered documents) may.leaves ∙ none_in_front documents seen may.kept none); output = may.output }

  pub left_header : (durable before now text given had : List ℕ) (left : Left) → durable ≡ take 0 seen → before ≡ take 0 seen → text ≡ header documents → now ≡ before ++ text
      → given ≡ had → MayLeave durable now given left → KeepsLines documents seen had left
  left_header durable before now text given had left is_durable is_before is_text is_now is_given may = record {
    lines = left_none left (header_left documents durable now given left (is_durable ∙ take_none seen) (is_now ∙ ap (λ l. l ++ text) (is_before ∙ take_none seen) ∙ is_text) may);
    output = subst (Begins left.given) is_given may.output;
  }
