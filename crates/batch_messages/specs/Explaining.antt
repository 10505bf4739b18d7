-- trusted: the codes that have an explanation, the code in a text, and the printed explanation.
use Rattle.std.specs.Prelude.{◌≡◌, ◌++◌, ◌∷◌, [], ℕ, List, Option, Some, None, codes, find, flat_map, map}
use Rattle.std.specs.Char.{is_ascii_whitespace}
use Rattle.std.specs.List.{slice_split}
use Rattle.std.specs.Option.{option_or}
use Rattle.std.specs.Str.{str_eq_ignore_ascii_case}
use Rattle.batch_messages.specs.declared.explanation.Explanation.{Explanation}

-- the codes of all refusals
abbrev pub refusal_codes : List (List ℕ)
refusal_codes =
    codes "A1" ∷ codes "A2" ∷ codes "C1" ∷ codes "D1" ∷ codes "D2" ∷ codes "D3" ∷ codes "D4" ∷ codes "D5" ∷ codes "D6" ∷ codes "D7" ∷ codes "D8" ∷ codes "D9"
    ∷ codes "E1" ∷ codes "E2" ∷ codes "E3" ∷ codes "E4" ∷ codes "E5" ∷ codes "E6" ∷ codes "E7" ∷ codes "E8" ∷ codes "E9" ∷ codes "E10" ∷ codes "E11" ∷ codes "E12" ∷ codes "E13"
    ∷ codes "F1" ∷ codes "F2" ∷ codes "J1" ∷ codes "J2" ∷ codes "J3" ∷ codes "K1" ∷ codes "K2" ∷ codes "K3" ∷ codes "K4" ∷ codes "R1"
    ∷ codes "V1" ∷ codes "V2" ∷ codes "V3" ∷ codes "V4" ∷ codes "V5" ∷ codes "V6" ∷ codes "V7" ∷ codes "V8" ∷ codes "V9" ∷ codes "V10" ∷ codes "V11"
    ∷ codes "W1" ∷ codes "W2" ∷ codes "W3" ∷ codes "W4" ∷ codes "W5" ∷ codes "W6" ∷ []

-- The code that texts ask about

-- the pieces between white space, empty ones among them
abbrev pub pieces_of : List ℕ → List (List ℕ)
pieces_of text = slice_split is_ascii_whitespace text

-- the code that a word is, in capitals or not
abbrev pub code_of_word : List ℕ → Option (List ℕ)
code_of_word word = find (λ code. str_eq_ignore_ascii_case code word) refusal_codes

-- the code of the first that has one
abbrev pub first_code : {X : Type 0} → (X → Option (List ℕ)) → List X → Option (List ℕ)
first_code code [] = None
first_code code (x ∷ xs) = option_or (code x) (first_code code xs)

abbrev pub code_in : List ℕ → Option (List ℕ)
code_in text = first_code code_of_word (pieces_of text)

abbrev pub code_among : List (List ℕ) → Option (List ℕ)
code_among texts = first_code code_in texts

-- The printed text

-- the meaning of a code in one line
abbrev pub meant : Explanation → List ℕ
meant e = e.code.now ++ (codes ": " ++ (e.meaning.now ++ codes ".\n"))

-- the same, and the remedy in a second line
abbrev pub explanation_text : Explanation → List ℕ
explanation_text e = e.code.now ++ (codes ": " ++ (e.meaning.now ++ (codes ".\nTo do: " ++ (e.remedy.now ++ codes ".\n"))))

-- without texts the meaning of each code, else the explanation of the first code in them
abbrev pub TellsCodes : List (List ℕ) → List ℕ → Type 0
TellsCodes [] text =
    (explanations : List Explanation) × (map (λ e. e.code.now) explanations ≡ refusal_codes) × (text ≡ flat_map meant explanations)
TellsCodes (first ∷ more) text = (explanation : Explanation) × (code_among (first ∷ more) ≡ Some explanation.code.now) × (text ≡ explanation_text explanation)

-- there are texts, and no code in them
abbrev pub HaveNoCode : List (List ℕ) → Type 0
HaveNoCode [] = ⊥
HaveNoCode (first ∷ more) = code_among (first ∷ more) ≡ None
