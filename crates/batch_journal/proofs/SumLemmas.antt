-- Sums and closing lines are lines.
use Rattle.std.proofs.Common.{rules, ◌≡◌, ℕ, zero, suc, ◌+◌, ◌/◌, ◌%◌, ◌^◌, ◌<◌, true, false, ◌==◌, List, [], ◌∷◌, ◌++◌, length, take, decimal, slice_index, get_or, nat_eq, refl, ◌∙◌, arith, append_assoc}
use Rattle.std.{proofs.lemmas.Fmt.decimal_by_steps, proofs.lemmas.Fmt.decimal_nonempty, proofs.lemmas.Fmt.length-decimal-le, proofs.lemmas.List.drop_at, proofs.lemmas.List.Folds.list_all-append, proofs.lemmas.Bool.lt-ltb, proofs.lemmas.Bool.le-leb, specs.Char.is_ascii_digit, specs.List.starts_with, specs.List.list_all, proofs.lemmas.Bool.Decides.Decides-eqb, proofs.lemmas.Slice.Eq.starts_is}
use Rattle.hex.specs.Hex.{encode_with, encode_lower, lower_digits}
use Rattle.batch_journal.{specs.Lines.IsLine, specs.Journals.closing_mark, specs.Journals.closing_start, specs.Journals.is_time, specs.Journals.journal_format, specs.Writing.closing_line, proofs.LineLemmas.line_more, proofs.LastWholeLine.is_not}

pub line_both : (a b : List ℕ) → IsLine a → IsLine b → IsLine (a ++ b)
line_both [] b is others = others
line_both (x ∷ a) b is others = (is.0, is.1, line_both a b is.2 others)

pub line_front : (n : ℕ) (a : List ℕ) → IsLine a → IsLine (take n a)
line_front zero [] is = tt
line_front zero (x ∷ a) is = tt
line_front (suc n) [] is = tt
line_front (suc n) (x ∷ a) is = (is.0, is.1, line_front n a is.2)

pub line_byte : (a : List ℕ) (k : ℕ) → IsLine a → k < length a → ((slice_index a k == 0) ≡ false) × ((slice_index a k == 10) ≡ false)
line_byte [] k is lt = absurd (omega (arith, lt))
line_byte (x ∷ a) zero is lt = (is.0, is.1)
line_byte (x ∷ a) (suc k) is lt = line_byte a k is.2 (omega (arith, lt))

digits_line : IsLine lower_digits
digits_line = search rules

high : (b : ℕ) → b < 256 → b / 16 < length lower_digits
high b lt = search (rules, lt)

low : (b : ℕ) → b % 16 < length lower_digits
low b = search rules

pub encoded_line : (bytes : List ℕ) → ((i : ℕ) → get_or bytes i 0 < 256) → IsLine (encode_lower bytes)
unfolding encode_with
encoded_line [] fits = tt
encoded_line (b ∷ bytes) fits =
    let first = line_byte lower_digits (b / 16) digits_line (high b (fits 0)) in
    let second = line_byte lower_digits (b % 16) digits_line (low b) in
    (first.0, first.1, (second.0, second.1, encoded_line bytes (λ i. fits (suc i))))

digit_line : (d : ℕ) → ((48 + d == 0) ≡ false) × ((48 + d == 10) ≡ false)
digit_line d = (is_not (48 + d) 0 (λ e. omega (arith, e)), is_not (48 + d) 10 (λ e. omega (arith, e)))

pub decimal_line : (n : ℕ) → n < 2 ^ 64 → IsLine (decimal n)
decimal_line n fits =
    decimal_by_steps (λ n ds. IsLine ds) (λ n lt. ((digit_line n).0, (digit_line n).1, tt))
    (λ n ds le is. line_more ds (48 + n % 10) is (digit_line (n % 10)).0 (digit_line (n % 10)).1) n fits

mark_line : IsLine closing_mark
mark_line = search rules

pub closing_is_line : (sum : List ℕ) (n : ℕ) → IsLine sum → n < 2 ^ 64 → IsLine (closing_line sum n)
closing_is_line sum n is fits =
    line_both (closing_start sum) (decimal n) (line_both closing_mark (sum ++ 32 ∷ []) mark_line (line_more sum 32 is refl refl)) (decimal_line n fits)

pub closing_is_own : (sum : List ℕ) (n : ℕ) → journal_format.own (closing_line sum n) ≡ true
closing_is_own sum n =
    (starts_is Decides-eqb (closing_line sum n) closing_mark (journal_format.own (closing_line sum n)) refl).1 ((sum ++ 32 ∷ []) ++ decimal n)
    (append_assoc closing_mark (sum ++ 32 ∷ []) (decimal n))

digit : (d : ℕ) → d < 10 → is_ascii_digit (48 + d) ≡ true
digit d lt = search (rules, lt)

decimal_time : (n : ℕ) → n < 2 ^ 64 → is_time (decimal n) ≡ true
decimal_time n fits =
    let all : list_all is_ascii_digit (decimal n) ≡ true = decimal_by_steps (λ n ds. list_all is_ascii_digit ds ≡ true)
    (λ n lt. rw (digit n lt) refl)
    (λ n ds le is. list_all-append is_ascii_digit ds ((48 + n % 10) ∷ []) ∙ rw (is, digit (n % 10) (search rules)) refl) n fits in
    rw (lt-ltb 0 (length (decimal n)) (decimal_nonempty n fits), le-leb (length (decimal n)) 20 (length-decimal-le 20 n (omega arith) (omega (arith, fits)) fits), all) refl

pub closing_closes : (sum : List ℕ) (n : ℕ) → n < 2 ^ 64 → journal_format.closes sum (closing_line sum n) ≡ true
closing_closes sum n fits =
    let starts : starts_with nat_eq (closing_line sum n) (closing_start sum) ≡ true =
    (starts_is Decides-eqb (closing_line sum n) (closing_start sum) (starts_with nat_eq (closing_line sum n) (closing_start sum)) refl).1 (decimal n) refl in
    rw (starts, drop_at (closing_start sum) (decimal n) (length (closing_start sum)) refl, decimal_time n fits) refl
