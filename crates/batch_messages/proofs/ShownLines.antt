-- A shown text is one line.
use Rattle.std.proofs.Common.{◌≡◌, ◌≢◌, ◌+◌, ◌<◌, ◌==◌, ◌/◌, ◌%◌, ℕ, Bool, true, false, List, [], ◌∷◌, ◌++◌, flat_map, chars, encode_utf8, encode_utf8_all, if◌then◌else◌, nat_lt, refl, sym, ◌∙◌, arith, append-nil, ap, ◌⊎◌, ◌≤◌, inl, inr, ne_eqb}
use Rattle.std.proofs.lemmas.{Bool.Decides.nat_tests, List.Elements.All-append, List.Elements.All-from_get_or, Str.encodes-append, Str.inside_one}
use Rattle.batch_messages.specs.Shown.{IsOneLine, escape, hex_digit, is_control, shown, shown_char}

-- a character that is no line feed has no byte of a line feed
char_is_one_line : (c : ℕ) → c ≢ 10 → IsOneLine (encode_utf8 c)
char_is_one_line c other =
    All-from_get_or (λ byte. byte ≢ 10) (encode_utf8 c) 0
    (λ i within is. other (inside_one c [] (encode_utf8 c) i (sym (append-nil (encode_utf8 c))) within (omega (arith, is)) ∙ is))

nothing_is_one_line : IsOneLine []
nothing_is_one_line k d within = absurd (omega (arith, within))

then_one_line : (c : ℕ) (cs : List ℕ) → c ≢ 10 → IsOneLine (encode_utf8_all cs) → IsOneLine (encode_utf8_all (c ∷ cs))
then_one_line c cs other rest = All-append (λ byte. byte ≢ 10) (encode_utf8 c) (encode_utf8_all cs) (char_is_one_line c other) rest

digit_ends_no_line : (digit : ℕ) (small : Bool) → (if small then 48 + digit else 87 + digit) ≢ 10
digit_ends_no_line digit true is = omega (arith, is)
digit_ends_no_line digit false is = omega (arith, is)

slash_ends_no_line : ◌≢◌ {A = ℕ} 92 10
slash_ends_no_line is = omega (arith, is)

letter_ends_no_line : ◌≢◌ {A = ℕ} 120 10
letter_ends_no_line is = omega (arith, is)

control_10 : (c : ℕ) → is_control c ≡ false → c ≢ 10
control_10 c is same = let bad : is_control 10 ≡ false = rw same at is in absurd cc

shown_char_is : (c : ℕ) (control slash : Bool) → is_control c ≡ control
    → IsOneLine (encode_utf8_all (if control then escape c else (if slash then 92 ∷ 92 ∷ [] else c ∷ [])))
shown_char_is c true slash is =
    let high = hex_digit (c / 16) in
    let low = hex_digit (c % 16) in
    then_one_line 92 (120 ∷ high ∷ low ∷ []) slash_ends_no_line
    (then_one_line 120 (high ∷ low ∷ []) letter_ends_no_line
    (then_one_line high (low ∷ []) (digit_ends_no_line (c / 16) (nat_lt (c / 16) 10))
    (then_one_line low [] (digit_ends_no_line (c % 16) (nat_lt (c % 16) 10)) nothing_is_one_line)))
shown_char_is c false true is =
    then_one_line 92 (92 ∷ []) slash_ends_no_line (then_one_line 92 [] slash_ends_no_line nothing_is_one_line)
shown_char_is c false false is = then_one_line c [] (control_10 c is) nothing_is_one_line

chars_are_one_line : (cs : List ℕ) → IsOneLine (encode_utf8_all (flat_map shown_char cs))
chars_are_one_line [] = nothing_is_one_line
chars_are_one_line (c ∷ cs) =
    rw (encodes-append (shown_char c) (flat_map shown_char cs))
    (All-append (λ byte. byte ≢ 10) (encode_utf8_all (shown_char c)) (encode_utf8_all (flat_map shown_char cs))
    (shown_char_is c (is_control c) (c == 92) refl) (chars_are_one_line cs))

pub shown_is_one_line : (text : List ℕ) → IsOneLine (shown text)
shown_is_one_line text = chars_are_one_line (chars text)

-- a shown text is its first character as shown, and then the shown rest
pub shown_step : (text rest : List ℕ) (c : ℕ) → chars text ≡ c ∷ chars rest → shown text ≡ encode_utf8_all (shown_char c) ++ shown rest
shown_step text rest c parts = rw (parts, encodes-append (shown_char c) (flat_map shown_char (chars rest)))

-- one character, as it is shown

pub shown_control : (c : ℕ) → (c < 32) ⊎ ((32 ≤ c) × (c ≡ 127)) → shown_char c ≡ escape c
shown_control c (inl low) =
    let is : is_control c ≡ true = grind (arith, nat_tests) in
    ap (λ b. if b then escape c else (if c == 92 then 92 ∷ 92 ∷ [] else c ∷ [])) is
shown_control c (inr (_, same)) = rw same refl

pub shown_plain : (c : ℕ) → 32 ≤ c → c ≢ 127 → c ≢ 92 → shown_char c ≡ c ∷ []
shown_plain c above other plain =
    let is : is_control c ≡ false = grind (arith, nat_tests) in
    let no_slash : (c == 92) ≡ false = ne_eqb c 92 plain in
    ap (λ b. if b then escape c else (if c == 92 then 92 ∷ 92 ∷ [] else c ∷ [])) is
    ∙ ap (λ b. if b then 92 ∷ 92 ∷ [] else c ∷ []) no_slash
