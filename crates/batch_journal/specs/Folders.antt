-- private: the folder of a file.
use Rattle.std.specs.Prelude.{ℕ, List, [], ◌∷◌, Option, Some, None, codes}

-- a path's own folder; of a name alone the one that the process is in
abbrev pub folder_text : Option (List ℕ) → List ℕ
folder_text None = codes "."
folder_text (Some []) = codes "."
folder_text (Some (b ∷ bytes)) = b ∷ bytes
