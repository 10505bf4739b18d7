-- The lines that a journal has for itself are comments.
use Rattle.std.proofs.Common.{rules, ◌≡◌, ◌⊎◌, ℕ, suc, ◌+◌, ◌-◌, ◌<◌, ◌≤◌, Bool, true, false, ◌==◌, ◌&&◌, List, [], ◌∷◌, ◌++◌, length, length-append, take, drop, Option, Some, None, Ok, Err, cond, codes, nat_eq, nat_le, nat_lt, get_or, refl, sym, ◌∙◌, ap, subst, append_assoc, inl, inr, arith}
use Rattle.std.{proofs.lemmas.Bool.and_parts, proofs.lemmas.Bool.cases_Bool, proofs.lemmas.Bool.leb-true, proofs.lemmas.Bool.le-ltb, proofs.lemmas.Bool.Decides.Decides-eqb, proofs.lemmas.List.length-take, proofs.lemmas.Slice.Eq.starts_is, specs.Char.is_ascii_digit, specs.List.starts_with, specs.List.list_all, specs.Str.Lines.strip_carriage_return}
use Rattle.hex.specs.Hex.{encode_lower}
use Rattle.sha2.specs.Sha256.{sha256}
use Rattle.batch_model.specs.Plant.{Setup, Plant}
use Rattle.batch_wire.specs.{EventLine.is_comment, EventLine.event_words, EventLine.event_of_words, EventLine.event_of_line, Transcript.lines_of, Transcript.Exchange, Transcript.silence, Transcript.followed_by, Transcript.Answers, Transcript.Transcript, WrittenTranscript.WritesTranscript, declared.event_line.TheConstants.MAX_LINE_LEN, declared.fault.WireFault.TheVariants.TooLong}
use Rattle.batch_journal.specs.{Groups.taken, Groups.last_sum, Groups.at_rest, Journals.journal_format, Journals.closing_start, Journals.is_time, Journals.next_sum, Journals.header, Journals.groups_in, Journals.recovered, Journals.IsJournal, Lines.IsLine, Lines.AreLines, Lines.text_of, Lines.whole_lines_before_zero}
use Rattle.batch_keep.proofs.AnswersToLines.{lines_of_text, no_last}
use Rattle.batch_serve.proofs.JournalLines.{strip_within_if}

-- Comments

comment_if : (b : Bool) (line : List ℕ) → 1 ≤ length line → is_comment (cond b (take (length (35 ∷ line) - 1) (35 ∷ line)) (35 ∷ line)) ≡ true
comment_if true line some = let size : length (35 ∷ line) - 1 ≡ suc (length line - 1) = omega (arith, some) in ap (λ n. is_comment (take n (35 ∷ line))) size
comment_if false line some = refl

-- a short comment gives nothing
pub comment : (line : List ℕ) → 1 ≤ length line → length line < 1024 → event_of_line (35 ∷ line) ≡ Ok None
comment line some few =
    let b = get_or (35 ∷ line) (length (35 ∷ line) - 1) 0 == 13 in
    let text = strip_carriage_return (35 ∷ line) in
    let short : nat_lt MAX_LINE_LEN (length text) ≡ false = le-ltb MAX_LINE_LEN (length text) (omega (arith, few, strip_within_if b (35 ∷ line))) in
    ap (λ t. cond t (Err TooLong) (cond (is_comment text) (Ok None) (event_of_words (event_words text)))) short
    ∙ ap (λ t. cond t (Ok None) (event_of_words (event_words text))) (comment_if b line some)

closing : (before line : List ℕ) (text : List (List ℕ)) → journal_format.closes (journal_format.next before text) line ≡ true → event_of_line line ≡ Ok None
closing before line text closes =
    let sum = next_sum before (text_of text) in
    let parts = and_parts (starts_with nat_eq line (closing_start sum)) (is_time (drop (length (closing_start sum)) line)) closes in
    let rest = drop (length (closing_start sum)) line in
    let is : line ≡ closing_start sum ++ rest = (starts_is Decides-eqb line (closing_start sum) (starts_with nat_eq line (closing_start sum)) refl).0 parts.0 in
    let time = and_parts (nat_lt 0 (length rest) && nat_le (length rest) 20) (list_all is_ascii_digit rest) parts.1 in
    let few : length rest ≤ 20 = leb-true (length rest) 20 (and_parts (nat_lt 0 (length rest)) (nat_le (length rest) 20) time.0).1 in
    let behind = (codes " sum " ++ (sum ++ 32 ∷ [])) ++ rest in
    let size : length behind ≡ 5 + (length sum + 1) + length rest = omega (arith, length-append (codes " sum " ++ (sum ++ 32 ∷ [])) rest, length-append (codes " sum ") (sum ++ 32 ∷ []), length-append sum (32 ∷ [])) in
    let short : length sum ≤ 16 = omega (arith, length-take 16 (encode_lower (sha256 (before ++ 10 ∷ text_of text)))) in
    ap event_of_line is ∙ comment behind (omega (arith, size)) (omega (arith, size, short, few))

-- The other lines

abbrev pub others : List (List ℕ) → List (List ℕ)
others [] = []
others (line ∷ lines) = cond (journal_format.own line) (others lines) (line ∷ others lines)

none_begun : (sum last : List ℕ) (begun : List (List ℕ)) → at_rest sum begun ≡ Some last → [] ≡ begun ++ []
none_begun sum last [] is = refl
none_begun sum last (line ∷ begun) is = absurd (cc is)

taken_if : (sum last : List ℕ) (begun : List (List ℕ)) (line : List ℕ) (lines : List (List ℕ)) → (journal_format.own line ≡ true) ⊎ (journal_format.own line ≡ false)
    → (journal_format.closes (journal_format.next sum begun) line ≡ true) ⊎ (journal_format.closes (journal_format.next sum begun) line ≡ false)
    → last_sum journal_format sum begun (line ∷ lines) ≡ Some last
    → (last_sum journal_format (journal_format.next sum begun) [] lines ≡ Some last → taken journal_format (journal_format.next sum begun) [] lines ≡ others lines)
    → (last_sum journal_format sum (begun ++ line ∷ []) lines ≡ Some last → taken journal_format sum (begun ++ line ∷ []) lines ≡ (begun ++ line ∷ []) ++ others lines)
    → taken journal_format sum begun (line ∷ lines) ≡ begun ++ others (line ∷ lines)
taken_if sum last begun line lines (inl own) (inl closes) is anew on =
    let below : last_sum journal_format (journal_format.next sum begun) [] lines ≡ Some last = rw (own, closes) at is in
    rw (own, closes) (ap (λ l. begun ++ l) (anew below))
taken_if sum last begun line lines (inl own) (inr not) is anew on = let none : None ≡ Some last = rw (own, not) at is in absurd (cc none)
taken_if sum last begun line lines (inr other) closes is anew on =
    let below : last_sum journal_format sum (begun ++ line ∷ []) lines ≡ Some last = rw other at is in
    rw other (on below ∙ append_assoc begun (line ∷ []) (others lines))

taken_others : (sum last : List ℕ) (begun lines : List (List ℕ)) → last_sum journal_format sum begun lines ≡ Some last → taken journal_format sum begun lines ≡ begun ++ others lines
taken_others sum last begun [] is = none_begun sum last begun is
taken_others sum last begun (line ∷ lines) is =
    taken_if sum last begun line lines (cases_Bool (journal_format.own line)) (cases_Bool (journal_format.closes (journal_format.next sum begun) line)) is
    (taken_others (journal_format.next sum begun) last [] lines) (taken_others sum last (begun ++ line ∷ []) lines)

-- the lines recovered from a journal: all but its own
pub recovered_others : (documents text sum : List ℕ) → IsJournal documents text sum → recovered documents text ≡ others (whole_lines_before_zero (groups_in documents text))
recovered_others documents text sum journal = taken_others documents sum [] (whole_lines_before_zero (groups_in documents text)) journal.closed.closed

-- a line that gives nothing says nothing
silent : (c : Setup) (old new : Plant) (line : List ℕ) (lines : List (List ℕ)) (said : Exchange) → event_of_line line ≡ Ok None → Transcript c old (line ∷ lines) said new → Transcript c old lines said new
silent c old new line lines said none (first, rest, mid, answers, t, is) =
    let so : (first ≡ silence) × (mid ≡ old) = subst (λ e. Answers c old e first mid) none answers in
    subst (λ s. Transcript c old lines s new) (sym (is ∙ ap (λ x. followed_by x rest) so.0)) (subst (λ p. Transcript c p lines rest new) so.1 t)

module _ (c : Setup) (new : Plant) where
  left_if : (sum last : List ℕ) (begun : List (List ℕ)) (line : List ℕ) (lines : List (List ℕ)) (old : Plant) (said : Exchange) → (journal_format.own line ≡ true) ⊎ (journal_format.own line ≡ false)
      → (journal_format.closes (journal_format.next sum begun) line ≡ true) ⊎ (journal_format.closes (journal_format.next sum begun) line ≡ false)
      → last_sum journal_format sum begun (line ∷ lines) ≡ Some last
      → ((one : Plant) (told : Exchange) → last_sum journal_format (journal_format.next sum begun) [] lines ≡ Some last → Transcript c one lines told new → Transcript c one (others lines) told new)
      → ((one : Plant) (told : Exchange) → last_sum journal_format sum (begun ++ line ∷ []) lines ≡ Some last → Transcript c one lines told new → Transcript c one (others lines) told new)
      → Transcript c old (line ∷ lines) said new → Transcript c old (others (line ∷ lines)) said new
  left_if sum last begun line lines old said (inl own) (inl closes) is anew on t =
      let below : last_sum journal_format (journal_format.next sum begun) [] lines ≡ Some last = rw (own, closes) at is in
      rw own (anew old said below (silent c old new line lines said (closing sum line begun closes) t))
  left_if sum last begun line lines old said (inl own) (inr not) is anew on t = let none : None ≡ Some last = rw (own, not) at is in absurd (cc none)
  left_if sum last begun line lines old said (inr other) closes is anew on (first, rest, mid, answers, t, same) =
      let below : last_sum journal_format sum (begun ++ line ∷ []) lines ≡ Some last = rw other at is in
      rw other (first, rest, mid, answers, on mid rest below t, same)

  left_out : (sum last : List ℕ) (begun lines : List (List ℕ)) (old : Plant) (said : Exchange) → last_sum journal_format sum begun lines ≡ Some last
      → Transcript c old lines said new → Transcript c old (others lines) said new
  left_out sum last begun [] old said is t = t
  left_out sum last begun (line ∷ lines) old said is t =
      left_if sum last begun line lines old said (cases_Bool (journal_format.own line)) (cases_Bool (journal_format.closes (journal_format.next sum begun) line)) is
      (λ one told. left_out (journal_format.next sum begun) last [] lines one told) (λ one told. left_out sum last (begun ++ line ∷ []) lines one told) t

pub line_both : (a b : List ℕ) → IsLine a → IsLine b → IsLine (a ++ b)
line_both [] b is more = more
line_both (x ∷ a) b is more = (is.0, is.1, line_both a b is.2 more)

start_line : IsLine (codes "# batchd journal 1 ")
start_line = search rules

-- a transcript of the file's lines is one of the lines recovered from it
pub of_recovered : (c : Setup) (old new : Plant) (documents text sum : List ℕ) (said : Exchange) → IsJournal documents text sum → IsLine documents → length documents ≡ 64
    → AreLines (whole_lines_before_zero (groups_in documents text))
    → Transcript c old (lines_of text) said new → Transcript c old (recovered documents text) said new
of_recovered c old new documents text sum said journal digits size are t =
    let groups = groups_in documents text in
    let lines = whole_lines_before_zero groups in
    let first = codes "# batchd journal 1 " ++ documents in
    let is : text ≡ text_of (first ∷ lines) = journal.begins ∙ ap (λ l. header documents ++ l) journal.closed.whole
    ∙ ap (λ l. l ++ text_of lines) (sym (append_assoc (codes "# batchd journal 1 ") documents (10 ∷ []))) ∙ append_assoc first (10 ∷ []) (text_of lines) in
    let split : lines_of text ≡ first ∷ (lines ++ [] ∷ []) = ap lines_of is ∙ lines_of_text (first ∷ lines) (line_both (codes "# batchd journal 1 ") documents start_line digits, are) in
    let behind = codes " batchd journal 1 " ++ documents in
    let few : length behind ≡ 18 + 64 = length-append (codes " batchd journal 1 ") documents ∙ ap (λ n. 18 + n) size in
    let silence_first : event_of_line first ≡ Ok None = comment behind (omega (arith, few)) (omega (arith, few)) in
    let rest = no_last c old new lines said (silent c old new first (lines ++ [] ∷ []) said silence_first (subst (λ l. Transcript c old l said new) split t)) in
    subst (λ l. Transcript c old l said new) (sym (taken_others documents sum [] lines journal.closed.closed)) (left_out c new documents sum [] lines old said journal.closed.closed rest)

pub replays : (c : Setup) (old new : Plant) (documents text sum : List ℕ) (before after : Option (List ℕ)) → IsJournal documents text sum → IsLine documents → length documents ≡ 64
    → AreLines (whole_lines_before_zero (groups_in documents text)) → WritesTranscript c old (lines_of text) new before after → WritesTranscript c old (recovered documents text) new before after
replays c old new documents text sum before after journal digits size are w = record {
  said = w.said;
  transcript = of_recovered c old new documents text sum w.said journal digits size are w.transcript;
  leads = w.leads;
  appends = w.appends;
}
