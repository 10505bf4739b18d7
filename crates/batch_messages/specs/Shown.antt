-- trusted: texts of a user, printed so that they make no line of their own.
use Rattle.std.specs.Prelude.{◌≢◌, ◌+◌, ◌||◌, ◌==◌, ◌/◌, ◌%◌, ℕ, Bool, List, [], ◌∷◌, chars, encode_utf8_all, if◌then◌else◌, nat_lt}
use Rattle.std.specs.List.{All, flat_map}

abbrev pub hex_digit : ℕ → ℕ
hex_digit digit = if nat_lt digit 10 then 48 + digit else 87 + digit

abbrev pub is_control : ℕ → Bool
is_control c = nat_lt c 32 || c == 127

-- `\x` and two digits
abbrev pub escape : ℕ → List ℕ
escape c = 92 ∷ 120 ∷ hex_digit (c / 16) ∷ hex_digit (c % 16) ∷ []

-- a control character is written as an escape, and a backslash twice
abbrev pub shown_char : ℕ → List ℕ
shown_char c = if is_control c then escape c else (if c == 92 then 92 ∷ 92 ∷ [] else c ∷ [])

abbrev pub shown : List ℕ → List ℕ
shown text = encode_utf8_all (flat_map shown_char (chars text))

-- no line ends in the text
abbrev pub IsOneLine : List ℕ → Type 0
IsOneLine text = All (λ byte. byte ≢ 10) text
