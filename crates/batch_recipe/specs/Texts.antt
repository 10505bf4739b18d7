-- trusted: the texts of lines and places.
use Rattle.std.specs.Prelude.{ℕ, zero, suc, List, [], ◌∷◌, ◌++◌, codes, decimal}
use Rattle.batch_recipe.specs.Tree.{Place}

-- the words with one space between, and a line feed
abbrev pub line_text : List (List ℕ) → List ℕ
line_text [] = codes "\n"
line_text (word ∷ []) = word ++ codes "\n"
line_text (word ∷ next ∷ others) = word ++ (codes " " ++ line_text (next ∷ others))

-- the numbers of a place, with dots between
abbrev pub place_text : Place → List ℕ
place_text [] = []
place_text (n ∷ []) = decimal n
place_text (n ∷ m ∷ below) = decimal n ++ (codes "." ++ place_text (m ∷ below))

-- the text before the number at this depth of a place
abbrev pub dot_text : ℕ → List ℕ
dot_text zero = []
dot_text (suc depth) = codes "."
