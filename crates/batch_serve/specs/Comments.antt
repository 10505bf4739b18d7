-- trusted: comments of a record: those that are written, and a text without its comments.
use Rattle.std.specs.Prelude.{◌≡◌, ℕ, ◌+◌, ◌/◌, ◌%◌, Bool, true, false, ◌&&◌, List, [], ◌∷◌, ◌++◌, take, flat_map, Option, Some, codes, decimal, nat_le, nat_lt, ◌==◌, if◌then◌else◌}
use Rattle.std.specs.Str.Lines.{strip_carriage_return}
use Rattle.batch_serve.specs.declared.remarked.TextSpot.{TextSpot}
use Rattle.batch_serve.specs.declared.remarked.TextSpot.TheVariants.{Start, Line, Comment}

-- Texts with comments

-- the spot at which a text ends after this byte: at the start of a line, in the midst of one, or in a comment
abbrev pub next_spot : TextSpot → ℕ → TextSpot
next_spot Start b = if b == 10 then Start else (if b == 35 then Comment else Line)
next_spot Line b = if b == 10 then Start else Line
next_spot Comment b = if b == 10 then Start else Comment

abbrev pub spot_behind : TextSpot → List ℕ → TextSpot
spot_behind spot [] = spot
spot_behind spot (b ∷ bytes) = spot_behind (next_spot spot b) bytes

-- the byte is one of a comment, which begins with `#` at the start of a line and has the line feed at its end
abbrev pub is_hidden : TextSpot → ℕ → Bool
is_hidden Start b = b == 35
is_hidden Line b = false
is_hidden Comment b = true

abbrev pub kept_from : TextSpot → List ℕ → List ℕ
kept_from spot [] = []
kept_from spot (b ∷ bytes) = if is_hidden spot b then kept_from (next_spot spot b) bytes else b ∷ kept_from (next_spot spot b) bytes

-- the text but for its comments
abbrev pub without_comments : List ℕ → List ℕ
without_comments text = kept_from Start text

-- a text was written after the known contents, and plain is the contents with that text without its comments
pub record IsRemarked (before after plain : Option (List ℕ)) : Type 0 where
  pub known : (held : List ℕ) → before ≡ Some held
      → (text : List ℕ) × (after ≡ Some (held ++ text)) × (plain ≡ Some (held ++ without_comments text))

-- The comments

abbrev pub hex_digit : ℕ → ℕ
hex_digit digit = if nat_lt digit 10 then 48 + digit else 87 + digit

abbrev pub is_printable : ℕ → Bool
is_printable b = nat_le 32 b && nat_le b 126

-- `\x` and two digits
abbrev pub escape : ℕ → List ℕ
escape b = 92 ∷ 120 ∷ hex_digit (b / 16) ∷ hex_digit (b % 16) ∷ []

-- a byte outside printable ASCII is written by its escape
abbrev pub escaped_byte : ℕ → List ℕ
escaped_byte b = if is_printable b then b ∷ [] else escape b

abbrev pub escaped : List ℕ → List ℕ
escaped text = flat_map escaped_byte text

-- the line without the carriage return at its end; of one that is too long, the first 1,025 bytes
abbrev pub echoed : List ℕ → List ℕ
echoed line = take 1025 (strip_carriage_return line)

abbrev pub echo_text : List ℕ → List ℕ
echo_text line = codes "# > " ++ (escaped (echoed line) ++ 10 ∷ [])

abbrev pub time_text : ℕ → List ℕ
time_text milliseconds = codes "# at " ++ (decimal milliseconds ++ 10 ∷ [])

-- the comments before the answer to a line: the time if it is due, and the line if echoes are asked for
abbrev pub remark_text : Bool → Bool → ℕ → List ℕ → List ℕ
remark_text due echo milliseconds line =
    (if due then time_text milliseconds else []) ++ (if echo then echo_text line else [])
