-- The bytes that a crash leaves aren't damage.
use Rattle.std.proofs.Common.{◌≡◌, ◌⊎◌, ℕ, ◌+◌, ◌-◌, ◌≤◌, ◌<◌, true, false, ◌==◌, List, [], ◌∷◌, ◌++◌, length, take, drop, take-append-drop, Some, None, codes, refl, sym, ◌∙◌, ap, subst, arith, append_assoc, inl, inr, if◌then◌else◌}
use Rattle.std.proofs.{lemmas.Bool.cases_lt, lemmas.Bool.Decides.Decides-eqb, lemmas.Slice.Eq.starts_is, lemmas.List.append-nil, lemmas.List.append_cancel_left, lemmas.List.drop_at, lemmas.List.drop-drop, lemmas.List.length-drop, lemmas.List.take-append-le, lemmas.List.drop-append-le, Math.Seq.take-append-add}
use Rattle.batch_journal.{specs.Disks.IsPart, specs.Lines.IsLine, specs.Lines.AreLines, specs.Lines.text_of, specs.Lines.whole_from, specs.Lines.whole_lines_before_zero, specs.Groups.Format, specs.Groups.last_sum, specs.Groups.AreOthers, specs.Journals.journal_format, specs.Journals.closing_mark, specs.Journals.header, specs.Journals.groups_in, specs.Journals.IsClosed, specs.Journals.IsJournal, specs.Recovery.IsDamaged, specs.Recovery.CrashIsNoDamage, specs.Recovery.closings, specs.Recovery.raw_lines, proofs.GroupLemmas.bool_cases, proofs.GroupLemmas.go_on, proofs.LineLemmas.reads_lines, proofs.LineLemmas.text_both, proofs.LineLemmas.are_whole_lines, proofs.JournalLemmas.whole_behind, proofs.JournalLemmas.groups_behind, proofs.ClosingLines.closings_both, proofs.ClosingLines.one_closing, proofs.RecoveryLemmas.not_both}

-- Lines that close groups, in a text and in a part of it

abbrev tally : List ℕ → ℕ
tally line = if journal_format.own line then 1 else 0

-- the last line counts, though none ends it
abbrev count : List ℕ → List ℕ → ℕ
count begun [] = tally begun
count begun (b ∷ text) = if b == 10 then tally begun + count [] text else count (begun ++ b ∷ []) text

tally_few : (line : List ℕ) → tally line ≤ 1
tally_few line = elim (bool_cases (journal_format.own line)) [ inl own ↦ rw own (omega arith) | inr other ↦ rw other (omega arith) ]

-- as many as of another line, where that closes a group if this one does
tally_least : (line other : List ℕ) → (journal_format.own line ≡ true → journal_format.own other ≡ true) → tally line ≤ tally other
tally_least line other same = elim (bool_cases (journal_format.own line)) [ inl own ↦ rw (own, same own) (omega arith) | inr not ↦ rw not (omega arith) ]

own_starts : (line : List ℕ) → journal_format.own line ≡ true → (rest : List ℕ) × (line ≡ closing_mark ++ rest)
own_starts line own = (drop (length closing_mark) line, (starts_is Decides-eqb line closing_mark (journal_format.own line) refl).0 own)

starts_own : (line rest : List ℕ) → line ≡ closing_mark ++ rest → journal_format.own line ≡ true
starts_own line rest is = (starts_is Decides-eqb line closing_mark (journal_format.own line) refl).1 rest is

grows : (line more : List ℕ) → tally line ≤ tally (line ++ more)
grows line more = tally_least line (line ++ more) (λ own. let found = own_starts line own in
    starts_own (line ++ more) (found.0 ++ more) (ap (λ l. l ++ more) found.1 ∙ append_assoc closing_mark found.0 more))

counts_begun : (begun text : List ℕ) → tally begun ≤ count begun text
counts_begun begun [] = omega arith
counts_begun begun (b ∷ text) = elim (bool_cases (b == 10)) [
  | inl feed ↦ rw feed (omega arith)
  | inr other ↦ rw other (omega (arith, grows begun (b ∷ []), counts_begun (begun ++ b ∷ []) text))
]

-- a part as long as the whole
abbrev SamePart : List ℕ → List ℕ → Type 0
SamePart [] [] = Unit {0}
SamePart [] (x ∷ xs) = ⊥
SamePart (b ∷ bs) [] = ⊥
SamePart (b ∷ bs) (x ∷ xs) = ((b ≡ 0) ⊎ (b ≡ x)) × SamePart bs xs

same_more : (bs xs : List ℕ) (b x : ℕ) → SamePart bs xs → (b ≡ 0) ⊎ (b ≡ x) → SamePart (bs ++ b ∷ []) (xs ++ x ∷ [])
same_more [] [] b x same is = (is, tt)
same_more [] (y ∷ xs) b x same is = absurd same
same_more (c ∷ bs) [] b x same is = absurd same
same_more (c ∷ bs) (y ∷ xs) b x same is = (same.0, same_more bs xs b x same.1 is)

abbrev NoZero : List ℕ → Type 0
NoZero [] = Unit {0}
NoZero (b ∷ bs) = (b ≡ 0 → ⊥) × NoZero bs

mark_has_none : NoZero closing_mark
mark_has_none = ((λ e. absurd (cc e)), ((λ e. absurd (cc e)), ((λ e. absurd (cc e)), ((λ e. absurd (cc e)), ((λ e. absurd (cc e)), ((λ e. absurd (cc e)), tt))))))

mark_of_part : (mark rest other : List ℕ) → NoZero mark → SamePart (mark ++ rest) other → (more : List ℕ) × (other ≡ mark ++ more)
mark_of_part [] rest other none same = (other, refl)
mark_of_part (m ∷ mark) rest [] none same = absurd same
mark_of_part (m ∷ mark) rest (x ∷ other) none same =
    let below = mark_of_part mark rest other none.1 same.1 in
    elim same.0 [ inl is ↦ absurd (none.0 is) | inr is ↦ (below.0, ap (λ y. y ∷ other) (sym is) ∙ ap (λ l. m ∷ l) below.1) ]

mark_before_zero : (mark begun more rest : List ℕ) → NoZero mark → begun ++ 0 ∷ more ≡ mark ++ rest → (r : List ℕ) × (begun ≡ mark ++ r)
mark_before_zero [] begun more rest none is = (begun, refl)
mark_before_zero (m ∷ mark) [] more rest none is = let head : 0 ≡ m = cc is in absurd (none.0 (sym head))
mark_before_zero (m ∷ mark) (b ∷ begun) more rest none is =
    let head : b ≡ m = cc is in
    let tail : begun ++ 0 ∷ more ≡ mark ++ rest = cc is in
    let below = mark_before_zero mark begun more rest none.1 tail in
    (below.0, ap (λ y. y ∷ begun) head ∙ ap (λ l. m ∷ l) below.1)

part_own : (begun other : List ℕ) → SamePart begun other → journal_format.own begun ≡ true → journal_format.own other ≡ true
part_own begun other same own =
    let found = own_starts begun own in
    let more = mark_of_part closing_mark found.0 other mark_has_none (subst (λ l. SamePart l other) found.1 same) in
    starts_own other more.0 more.1

-- a line in which a zero stands where one ended
joined : (begun other more : List ℕ) → SamePart begun other → tally (begun ++ 0 ∷ more) ≤ tally other
joined begun other more same = tally_least (begun ++ 0 ∷ more) other (λ own.
    let found = own_starts (begun ++ 0 ∷ more) own in
    let front = mark_before_zero closing_mark begun more found.0 mark_has_none found.1 in
    part_own begun other same (starts_own begun front.0 front.1))

feed_of_part : (b x : ℕ) → (b == 10) ≡ true → (b ≡ 0) ⊎ (b ≡ x) → (x == 10) ≡ true
feed_of_part b x feed (inl is) = let clash : false ≡ true = sym (ap (λ y. y == 10) is) ∙ feed in absurd (cc clash)
feed_of_part b x feed (inr is) = sym (ap (λ y. y == 10) is) ∙ feed

zero_of_part : (b x : ℕ) → (b == 10) ≡ false → (x == 10) ≡ true → (b ≡ 0) ⊎ (b ≡ x) → b ≡ 0
zero_of_part b x other feed (inl is) = is
zero_of_part b x other feed (inr is) = absurd (not_both (b == 10) (ap (λ y. y == 10) is ∙ feed) other)

-- no more in the part: at lines of one length, and where a zero joined lines of which the first counts so much
abbrev NoMore : List ℕ → Type 0
NoMore tail =
    ((begun other behind : List ℕ) → SamePart begun other → IsPart tail behind → count begun tail ≤ count other behind)
    × ((begun more other behind : List ℕ) (t : ℕ) → ((x : List ℕ) → tally (begun ++ 0 ∷ x) ≤ t) → IsPart tail behind → count (begun ++ 0 ∷ more) tail ≤ t + count other behind)

module _ (b : ℕ) (tail : List ℕ) (below : NoMore tail) where
  same_on : (begun other : List ℕ) (x : ℕ) (behind : List ℕ) → ((b == 10) ≡ true) ⊎ ((b == 10) ≡ false) → ((x == 10) ≡ true) ⊎ ((x == 10) ≡ false) → SamePart begun other → (b ≡ 0) ⊎ (b ≡ x) → IsPart tail behind
      → count begun (b ∷ tail) ≤ count other (x ∷ behind)
  same_on begun other x behind (inl feed) at same is part =
      rw (feed, feed_of_part b x feed is) (omega (arith, below.0 [] [] behind tt part, tally_least begun other (part_own begun other same)))
  same_on begun other x behind (inr not) (inl feed) same is part =
      let from = below.1 begun [] [] behind (tally other) (λ more. joined begun other more same) part in
      rw (not, feed) (subst (λ y. count (begun ++ y ∷ []) tail ≤ tally other + count [] behind) (sym (zero_of_part b x not feed is)) from)
  same_on begun other x behind (inr not) (inr neither) same is part = rw (not, neither) (below.0 (begun ++ b ∷ []) (other ++ x ∷ []) behind (same_more begun other b x same is) part)

  joined_on : (begun more other : List ℕ) (x : ℕ) (behind : List ℕ) (t : ℕ) → ((b == 10) ≡ true) ⊎ ((b == 10) ≡ false) → ((x == 10) ≡ true) ⊎ ((x == 10) ≡ false)
      → ((y : List ℕ) → tally (begun ++ 0 ∷ y) ≤ t) → (b ≡ 0) ⊎ (b ≡ x) → IsPart tail behind → count (begun ++ 0 ∷ more) (b ∷ tail) ≤ t + count other (x ∷ behind)
  joined_on begun more other x behind t (inl feed) at least is part =
      rw (feed, feed_of_part b x feed is) (omega (arith, below.0 [] [] behind tt part, least more))
  joined_on begun more other x behind t (inr not) (inl feed) least is part =
      let from = below.1 begun (more ++ b ∷ []) [] behind t least part in
      rw (not, feed, append_assoc begun (0 ∷ more) (b ∷ [])) (omega (arith, from))
  joined_on begun more other x behind t (inr not) (inr neither) least is part =
      rw (not, neither, append_assoc begun (0 ∷ more) (b ∷ [])) (below.1 begun (more ++ b ∷ []) (other ++ x ∷ []) behind t least part)

split_same : (b : ℕ) (tail : List ℕ) → NoMore tail → (begun other behind : List ℕ) → SamePart begun other → IsPart (b ∷ tail) behind → count begun (b ∷ tail) ≤ count other behind
split_same b tail below begun other [] same part = absurd part
split_same b tail below begun other (x ∷ behind) same part = same_on b tail below begun other x behind (bool_cases (b == 10)) (bool_cases (x == 10)) same part.0 part.1

split_joined : (b : ℕ) (tail : List ℕ) → NoMore tail → (begun more other behind : List ℕ) (t : ℕ) → ((x : List ℕ) → tally (begun ++ 0 ∷ x) ≤ t) → IsPart (b ∷ tail) behind
    → count (begun ++ 0 ∷ more) (b ∷ tail) ≤ t + count other behind
split_joined b tail below begun more other [] t least part = absurd part
split_joined b tail below begun more other (x ∷ behind) t least part = joined_on b tail below begun more other x behind t (bool_cases (b == 10)) (bool_cases (x == 10)) least part.0 part.1

no_more : (tail : List ℕ) → NoMore tail
no_more [] = (
  λ begun other behind same part. let so = counts_begun other behind in omega (arith, so, tally_least begun other (part_own begun other same)),
  λ begun more other behind t least part. omega (arith, least more),
)
no_more (b ∷ tail) = (split_same b tail (no_more tail), split_joined b tail (no_more tail))

counted : (begun text : List ℕ) → closings (whole_from begun text) ≤ count begun text
counted begun [] = omega arith
counted begun (b ∷ text) = elim (bool_cases (b == 10)) [
  | inl feed ↦ rw feed (elim (bool_cases (journal_format.own begun)) [ inl own ↦ rw own (omega (arith, counted [] text)) | inr other ↦ rw other (omega (arith, counted [] text)) ])
  | inr other ↦ rw other (counted (begun ++ b ∷ []) text)
]

count_line : (begun line rest : List ℕ) → IsLine line → count begun (line ++ 10 ∷ rest) ≡ tally (begun ++ line) + count [] rest
count_line begun [] rest is = ap (λ l. tally l + count [] rest) (sym (append-nil begun))
count_line begun (b ∷ line) rest is = rw is.1 (count_line (begun ++ b ∷ []) line rest is.2 ∙ ap (λ l. tally l + count [] rest) (append_assoc begun (b ∷ []) line))

-- a group has one
one_in_group : (lines : List (List ℕ)) (closing : List ℕ) → AreLines lines → AreOthers journal_format lines → IsLine closing → count [] (text_of lines ++ (closing ++ 10 ∷ [])) ≤ 1
one_in_group [] closing are others is = omega (arith, count_line [] closing [] is, tally_few closing)
one_in_group (line ∷ lines) closing are others is =
    let here : tally line ≡ 0 = rw others.0 refl in
    omega (
      arith,
      ap (count []) (append_assoc line (10 ∷ text_of lines) (closing ++ 10 ∷ [])),
      count_line [] line (text_of lines ++ (closing ++ 10 ∷ [])) are.0,
      here,
      one_in_group lines closing are.1 others.1 is,
    )

-- Texts that a line feed ends

text_feed : (line : List ℕ) (lines : List (List ℕ)) → (front : List ℕ) × (text_of (line ∷ lines) ≡ front ++ 10 ∷ [])
text_feed line [] = (line, refl)
text_feed line (next ∷ lines) =
    let below = text_feed next lines in
    (line ++ 10 ∷ below.0, ap (λ l. line ++ 10 ∷ l) below.1 ∙ sym (append_assoc line (10 ∷ below.0) (10 ∷ [])))

journal_feed : (documents file sum : List ℕ) → IsJournal documents file sum → (front : List ℕ) × (file ≡ front ++ 10 ∷ [])
journal_feed documents file sum journal = go (whole_lines_before_zero (groups_in documents file)) journal.closed.whole
  where
    start : List ℕ
    start = codes "# batchd journal 1 " ++ documents

    start_is : header documents ≡ start ++ 10 ∷ []
    start_is = sym (append_assoc (codes "# batchd journal 1 ") documents (10 ∷ []))

    go : (lines : List (List ℕ)) → groups_in documents file ≡ text_of lines → (front : List ℕ) × (file ≡ front ++ 10 ∷ [])
    go [] is = (start, journal.begins ∙ ap (λ l. header documents ++ l) is ∙ append-nil (header documents) ∙ start_is)
    go (line ∷ lines) is =
        let last = text_feed line lines in
        (header documents ++ last.0, journal.begins ∙ ap (λ l. header documents ++ l) (is ∙ last.1) ∙ sym (append_assoc (header documents) last.0 (10 ∷ [])))

raw_behind : (begun front behind : List ℕ) → whole_from begun ((front ++ 10 ∷ []) ++ behind) ≡ whole_from begun (front ++ 10 ∷ []) ++ whole_from [] behind
raw_behind begun [] behind = refl
raw_behind begun (b ∷ front) behind = elim (bool_cases (b == 10)) [
  | inl feed ↦ rw feed (ap (λ l. begun ∷ l) (raw_behind [] front behind))
  | inr other ↦ rw other (raw_behind (begun ++ b ∷ []) front behind)
]

journal_behind : (documents file sum behind : List ℕ) → IsJournal documents file sum → raw_lines (file ++ behind) ≡ raw_lines file ++ raw_lines behind
journal_behind documents file sum behind journal =
    let ends = journal_feed documents file sum journal in
    ap (λ l. raw_lines (l ++ behind)) ends.1 ∙ raw_behind [] ends.0 behind ∙ ap (λ l. raw_lines l ++ raw_lines behind) (sym ends.1)

-- Groups that are whole

never_empty : (lines : List (List ℕ)) (line : List ℕ) → lines ++ line ∷ [] ≡ [] → ⊥
never_empty [] line is = absurd (cc is)
never_empty (l ∷ lines) line is = absurd (cc is)

-- the first closing line of whole groups closes its own
closes_first : (f : Format) (sum last : List ℕ) (begun lines more front : List (List ℕ)) (closing : List ℕ) (rest : List (List ℕ)) → last_sum f sum begun lines ≡ Some last
    → (begun ≡ [] → lines ≡ [] → ⊥) → lines ++ more ≡ front ++ closing ∷ rest → AreOthers f front → f.own closing ≡ true → AreLines lines
    → AreLines (front ++ closing ∷ []) × (f.closes (f.next sum (begun ++ front)) closing ≡ true)
closes_first f sum last [] [] more front closing rest is some e others own are = absurd (some refl refl)
closes_first f sum last (b ∷ begun) [] more front closing rest is some e others own are = absurd (cc is)
closes_first f sum last begun (line ∷ lines) more [] closing rest is some e others own are =
    let head : line ≡ closing = cc e in
    let own_line : f.own line ≡ true = ap f.own head ∙ own in
    elim (bool_cases (f.closes (f.next sum begun) line)) [
      | inl closes ↦ ((subst IsLine head are.0, tt), ap (λ l. f.closes (f.next sum l) closing) (append-nil begun) ∙ ap (f.closes (f.next sum begun)) (sym head) ∙ closes)
      | inr not ↦ let none : None ≡ Some last = rw (own_line, not) at is in absurd (cc none)
    ]
closes_first f sum last begun (line ∷ lines) more (l ∷ front) closing rest is some e others own are =
    let head : line ≡ l = cc e in
    let tail : lines ++ more ≡ front ++ closing ∷ rest = cc e in
    let other : f.own line ≡ false = ap f.own head ∙ others.0 in
    let on : last_sum f sum (begun ++ line ∷ []) lines ≡ Some last = rw other at is in
    let below = closes_first f sum last (begun ++ line ∷ []) lines more front closing rest on (λ none same. never_empty begun line none) tail others.1 own are.1 in (
      (subst IsLine head are.0, below.0),
      ap (λ x. f.closes (f.next sum x) closing) (ap (λ x. begun ++ x ∷ front) (sym head) ∙ sym (append_assoc begun (line ∷ []) front)) ∙ below.1,
    )

module _ (documents synced sum tail : List ℕ) (line : ℕ) (journal : IsJournal documents synced sum) (damaged : IsDamaged documents (synced ++ tail) line) where
  -- a synced group isn't the damaged one
  pub within : damaged.end < length synced → ⊥
  within lt =
      let end = damaged.end in
      let front = take end synced in
      let behind = drop end synced in
      let first : IsJournal documents front damaged.sum = subst (λ l. IsJournal documents l damaged.sum) (take-append-le end synced tail (omega (arith, lt))) damaged.journal in
      let groups : groups_in documents synced ≡ groups_in documents front ++ behind = ap (groups_in documents) (sym (take-append-drop end synced)) ∙ groups_behind documents front behind first.begins in
      let closed : IsClosed documents (groups_in documents front ++ behind) sum = subst (λ l. IsClosed documents l sum) groups journal.closed in
      let wa = whole_lines_before_zero (groups_in documents front) in
      let wb = whole_lines_before_zero behind in
      let lines : whole_lines_before_zero (groups_in documents front ++ behind) ≡ wa ++ wb = whole_behind (groups_in documents front) behind first.closed.whole in
      let last : last_sum journal_format damaged.sum [] wb ≡ Some sum =
      sym (go_on journal_format documents damaged.sum [] wa wb first.closed.closed).1 ∙ ap (last_sum journal_format documents []) (sym lines) ∙ closed.closed in
      let text : behind ≡ text_of wb = append_cancel_left (groups_in documents front) behind (text_of wb)
      (closed.whole ∙ ap text_of lines ∙ text_both wa wb ∙ ap (λ l. l ++ text_of wb) (sym first.closed.whole)) in
      let raw : wb ++ raw_lines tail ≡ damaged.behind.front ++ damaged.behind.closing ∷ damaged.behind.more =
      sym (reads_lines wb tail (are_whole_lines behind)) ∙ ap (λ l. raw_lines (l ++ tail)) (sym text) ∙ ap raw_lines (sym (drop-append-le end synced tail (omega (arith, lt)))) ∙ damaged.behind.splits in
      let found = closes_first journal_format damaged.sum sum [] wb (raw_lines tail) damaged.behind.front damaged.behind.closing damaged.behind.more last
      (λ same none. omega (arith, lt, length-drop end synced, ap length (text ∙ ap text_of none))) raw damaged.behind.others damaged.behind.own (are_whole_lines behind) in
      not_both _ found.1 (damaged.wrong found.0)

  -- and no second line closes a group behind them
  pub behind_them : length synced ≤ damaged.end → 1 < closings (raw_lines tail)
  behind_them le =
      let k = damaged.end - length synced in
      let size : damaged.end ≡ length synced + k = omega (arith, le) in
      let file = synced ++ tail in
      let front : take damaged.end file ≡ synced ++ take k tail = ap (λ n. take n file) size ∙ take-append-add synced tail k in
      let rest : drop damaged.end file ≡ drop k tail = ap (λ n. drop n file) size ∙ sym (drop-drop k (length synced) file) ∙ ap (drop k) (drop_at synced tail (length synced) refl) in
      let all : raw_lines file ≡ raw_lines synced ++ raw_lines tail = journal_behind documents synced sum tail journal in
      let parts : raw_lines file ≡ raw_lines (take damaged.end file) ++ raw_lines (drop damaged.end file) =
      ap raw_lines (sym (take-append-drop damaged.end file)) ∙ journal_behind documents (take damaged.end file) damaged.sum (drop damaged.end file) damaged.journal in
      let first : raw_lines (take damaged.end file) ≡ raw_lines synced ++ raw_lines (take k tail) = ap raw_lines front ∙ journal_behind documents synced sum (take k tail) journal in
      let d = damaged.behind in
      omega (
        arith,
        ap closings all,
        closings_both (raw_lines synced) (raw_lines tail),
        ap closings parts,
        closings_both (raw_lines (take damaged.end file)) (raw_lines (drop damaged.end file)),
        ap closings first,
        closings_both (raw_lines synced) (raw_lines (take k tail)),
        ap closings d.splits,
        closings_both d.front (d.closing ∷ d.more),
        closings_both (d.closing ∷ []) d.more,
        one_closing d.closing d.own,
        d.another,
      )

pub no_damage : CrashIsNoDamage
no_damage documents synced sum closing tail lines line journal are others is part damaged =
    let most : closings (raw_lines tail) ≤ count [] tail = counted [] tail in
    let fewer : count [] tail ≤ count [] (text_of lines ++ (closing ++ 10 ∷ [])) = (no_more tail).0 [] [] (text_of lines ++ (closing ++ 10 ∷ [])) tt part in
    let least : count [] (text_of lines ++ (closing ++ 10 ∷ [])) ≤ 1 = one_in_group lines closing are others is in
    elim (cases_lt damaged.end (length synced)) [
      | inl lt ↦ within documents synced sum tail line journal damaged lt
      | inr le ↦ let some = behind_them documents synced sum tail line journal damaged le in omega (arith, most, fewer, least, some)
    ]
