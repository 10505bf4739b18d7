-- Groups of a run: the lines that are in the journal and not given on yet.
use Rattle.std.proofs.Common.{◌≡◌, ◌^◌, ℕ, ◌+◌, ◌-◌, ◌≤◌, ◌<◌, Bool, true, false, Result, Ok, Err, OnOk, OnErr, List, [], ◌∷◌, ◌++◌, length, take, drop, take-append-drop, refl, sym, ◌∙◌, ap, subst, arith, append_assoc}
use Rattle.std.proofs.{Math.Seq.drop-append_seam, lemmas.List.drop-take, lemmas.List.length-drop, lemmas.List.length-take-le}
use Rattle.batch_journal.{specs.Lines.IsLine, specs.Lines.text_of, specs.Lines.whole_lines_before_zero, specs.Disks.Left, specs.Disks.MayLeave, specs.Readers.IsGroup, specs.Readers.IsJournalKept, specs.Readers.Recalls, specs.Readers.not_given, specs.Journals.next_sum, specs.Journals.recovered, specs.Journals.IsJournal, specs.Writing.group_text, proofs.LineLemmas.are_whole_lines, proofs.LineLemmas.whole_text, proofs.SumLemmas.closing_is_line, proofs.SumLemmas.closing_is_own, proofs.SumLemmas.closing_closes, proofs.ReaderLemmas.kept_more, proofs.ReaderLemmas.kept_ready, proofs.ReaderLemmas.recalls, proofs.ReaderLemmas.take_less}

rest_of : (documents base seen given ready : List ℕ) → text_of (recovered documents seen) ≡ base ++ (given ++ ready) → not_given documents base seen given ≡ ready
rest_of documents base seen given ready is =
    ap (λ (l : List ℕ). drop (length (base ++ given)) l) (is ∙ sym (append_assoc base given ready)) ∙ drop-append_seam (base ++ given) ready

pub kept_rest : (documents base durable seen given ready sum : List ℕ) → IsJournalKept documents base durable seen given ready sum
    → IsJournalKept documents base durable seen given (not_given documents base seen given) sum
kept_rest documents base durable seen given ready sum kept =
    kept_ready documents base durable seen given ready (not_given documents base seen given) sum (sym (rest_of documents base seen given ready kept.holds)) kept

pub rest_kept : (documents base durable seen given ready sum : List ℕ) → IsJournalKept documents base durable seen given ready sum → not_given documents base seen given ≡ ready
rest_kept documents base durable seen given ready sum kept = rest_of documents base seen given ready kept.holds

pub none_in : (l : List ℕ) (n : ℕ) → length l ≡ n → n ≡ 0 → l ≡ []
none_in [] n size none = refl
none_in (x ∷ l) n size none = absurd (omega (arith, size, none))

-- a group is written
pub kept_group : (documents base durable seen given rest sum lines next new_durable new_seen new_given : List ℕ) (milliseconds : ℕ)
    → IsJournalKept documents base durable seen given rest sum → rest ≡ [] → IsGroup lines → next ≡ next_sum sum lines → IsLine next → milliseconds < 2 ^ 64
    → new_seen ≡ seen ++ group_text lines next milliseconds → new_durable ≡ new_seen → new_given ≡ given
    → IsJournalKept documents base new_durable new_seen new_given lines next
kept_group documents base durable seen given rest sum lines next new_durable new_seen new_given milliseconds kept none group next_is is_line fits is_seen is_durable is_given =
    kept_more documents base durable seen given sum lines next new_durable new_seen new_given milliseconds
    (kept_ready documents base durable seen given rest [] sum none kept) group.whole group.others next_is is_seen is_durable is_given
    (closing_is_line next milliseconds is_line fits) (closing_is_own next milliseconds) (closing_closes next milliseconds fits)

parted : (rest lines : List ℕ) → take (length lines) rest ≡ lines → rest ≡ lines ++ drop (length lines) rest
parted rest lines is = sym (take-append-drop (length lines) rest) ∙ ap (λ l. l ++ drop (length lines) rest) is

-- the next of its lines are given
given_on : (base given rest lines : List ℕ) → take (length lines) rest ≡ lines → base ++ (given ++ rest) ≡ base ++ ((given ++ lines) ++ drop (length lines) rest)
given_on base given rest lines is =
    ap (λ x. base ++ (given ++ x)) (parted rest lines is) ∙ ap (λ x. base ++ x) (sym (append_assoc given lines (drop (length lines) rest)))

pub kept_on : (documents base durable seen given rest sum lines new_durable new_seen new_given : List ℕ) → IsJournalKept documents base durable seen given rest sum
    → take (length lines) rest ≡ lines → new_given ≡ given ++ lines → new_durable ≡ durable → new_seen ≡ seen
    → IsJournalKept documents base new_durable new_seen new_given (drop (length lines) rest) sum
kept_on documents base durable seen given rest sum lines new_durable new_seen new_given kept is is_given is_durable is_seen = record {
  journal = subst (λ f. IsJournal documents f sum) (sym is_seen) kept.journal;
  synced = is_durable ∙ kept.synced ∙ sym is_seen;
  holds = ap (λ f. text_of (recovered documents f)) is_seen ∙ kept.holds ∙ given_on base given rest lines is
      ∙ ap (λ x. base ++ (x ++ drop (length lines) rest)) (sym is_given);
}

pub recalls_on : (documents base durable seen given rest sum lines : List ℕ) (left : Left) → IsJournalKept documents base durable seen given rest sum
    → take (length lines) rest ≡ lines → MayLeave durable seen (given ++ lines) left → Recalls documents base left
recalls_on documents base durable seen given rest sum lines left kept is may =
    recalls documents base durable seen (given ++ lines) (drop (length lines) rest) sum left
    (subst (λ f. IsJournal documents f sum) (sym kept.synced) kept.journal)
    (ap (λ f. text_of (recovered documents f)) kept.synced ∙ kept.holds ∙ given_on base given rest lines is)
    may

-- Of a window

pub whole_front : (bytes : List ℕ) (end fits : ℕ) → end ≤ fits → take end (take fits bytes) ≡ text_of (whole_lines_before_zero (take fits bytes))
    → take end bytes ≡ text_of (whole_lines_before_zero (take end bytes))
whole_front bytes end fits le is =
    whole_text (take end bytes) (whole_lines_before_zero (take fits bytes)) (are_whole_lines (take fits bytes)) (take_less end fits bytes le ∙ is)

pub group_front : (bytes : List ℕ) (end : ℕ) → take end bytes ≡ text_of (whole_lines_before_zero bytes) → take end bytes ≡ text_of (whole_lines_before_zero (take end bytes))
group_front bytes end is = whole_text (take end bytes) (whole_lines_before_zero bytes) (are_whole_lines bytes) is

pub ready_front : (bytes items rest : List ℕ) (end ready : ℕ) → bytes ≡ items → end ≤ length bytes → ready ≡ length (take end bytes) → rest ≡ take end bytes
    → rest ≡ take ready items
ready_front bytes items rest end ready are le size is =
    is ∙ ap (λ n. take n bytes) (sym (size ∙ length-take-le end bytes le)) ∙ ap (λ l. take ready l) are

pub ready_rest : (items rest new left lines : List ℕ) (count ready now : ℕ) → count ≤ ready → rest ≡ take ready items → length lines ≡ count
    → new ≡ drop (length lines) rest → now ≡ ready - length lines → left ≡ drop count items → new ≡ take now left
ready_rest items rest new left lines count ready now le rest_is size new_is now_is left_is =
    let parts : ready ≡ count + (ready - count) = omega (arith, le) in
    new_is ∙ ap (λ n. drop n rest) size ∙ ap (λ l. drop count l) (rest_is ∙ ap (λ n. take n items) parts) ∙ drop-take count (ready - count) items
    ∙ ap (λ n. take n (drop count items)) (sym (now_is ∙ ap (λ n. ready - n) size)) ∙ ap (λ l. take now l) (sym left_is)

-- whatever came of a write
pub within_either : {A E : Type 0} (r : Result A E) (ready : ℕ) (failed : Bool) (lines items : List ℕ) → OnOk r ((failed ≡ false) × (ready ≡ length lines)) → OnErr r (failed ≡ true)
    → (failed ≡ true → ready ≡ 0) → length lines ≤ length items → ready ≤ length items
within_either (Ok u) ready failed lines items ok err none le = omega (arith, ok.1, le)
within_either (Err e) ready failed lines items ok err none le = omega (arith, none err)

pub ready_either : {A E : Type 0} (r : Result A E) (ready : ℕ) (failed : Bool) (bytes items rest : List ℕ) (end : ℕ) → bytes ≡ items → end ≤ length bytes
    → OnOk r ((failed ≡ false) × (ready ≡ length (take end bytes))) → OnErr r (failed ≡ true) → OnOk r (rest ≡ take end bytes) → failed ≡ false → rest ≡ take ready items
ready_either (Ok u) ready failed bytes items rest end are le ok err is works = ready_front bytes items rest end ready are le ok.1 is
ready_either (Err e) ready failed bytes items rest end are le ok err is works = let clash : true ≡ false = sym err ∙ works in absurd (cc clash)

pub within_rest : (items left lines : List ℕ) (count ready now : ℕ) → length lines ≡ count → now ≡ ready - length lines → ready ≤ length items → left ≡ drop count items → now ≤ length left
within_rest items left lines count ready now size now_is within left_is = omega (arith, size, now_is, within, ap length left_is, length-drop count items)
