-- trusted: the whole lines of a text whose end a crash may have torn.
use Rattle.std.specs.Prelude.{◌≡◌, ℕ, List, [], ◌∷◌, ◌++◌, ⊤, if◌then◌else◌, ◌==◌, false}

-- a line's bytes: no zero and no line feed
abbrev pub IsLine : List ℕ → Type 0
IsLine [] = ⊤
IsLine (b ∷ bs) = ((b == 0) ≡ false) × ((b == 10) ≡ false) × IsLine bs

abbrev pub AreLines : List (List ℕ) → Type 0
AreLines [] = ⊤
AreLines (line ∷ lines) = IsLine line × AreLines lines

-- each line with its line feed
abbrev pub text_of : List (List ℕ) → List ℕ
text_of [] = []
text_of (line ∷ lines) = line ++ 10 ∷ text_of lines

-- the prefix before the first zero
abbrev pub until_zero : List ℕ → List ℕ
until_zero [] = []
until_zero (b ∷ bs) = if b == 0 then [] else b ∷ until_zero bs

-- the lines that a line feed ends, the first of which began with these bytes
abbrev pub whole_from : List ℕ → List ℕ → List (List ℕ)
whole_from begun [] = []
whole_from begun (b ∷ bs) = if b == 10 then begun ∷ whole_from [] bs else whole_from (begun ++ b ∷ []) bs

-- the whole lines before the first zero
abbrev pub whole_lines_before_zero : List ℕ → List (List ℕ)
whole_lines_before_zero text = whole_from [] (until_zero text)
