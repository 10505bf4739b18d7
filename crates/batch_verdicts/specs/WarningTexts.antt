-- trusted: the lines of warnings on documents that are accepted.
use Rattle.std.specs.Prelude.{ℕ, List, [], ◌∷◌, ◌++◌}
use Rattle.std.specs.List.{flat_map}
use Rattle.batch_cell.specs.declared.cell.Cell.{Cell}
use Rattle.batch_recipe.specs.declared.recipe.Recipe.{Recipe}
use Rattle.batch_messages.specs.WarningWords.{recipe_warning, unit_warning}
use Rattle.batch_warnings.specs.Warnings.{units_without_modules, warnings_of}
use Rattle.batch_warnings.specs.declared.warning.RecipeWarning.{RecipeWarning}
use Rattle.batch_verdicts.specs.Saying.{message_line}

abbrev pub unit_line : List ℕ → Cell → ℕ → List ℕ
unit_line path c unit = message_line (unit_warning path c unit)

-- the lines on the cell of the document at this path
abbrev pub units_text : List ℕ → Cell → List ℕ → List ℕ
units_text path c units = flat_map (unit_line path c) units

abbrev pub recipe_line : List ℕ → Recipe → RecipeWarning → List ℕ
recipe_line path r warning = message_line (recipe_warning path r warning)

abbrev pub recipe_warnings_text : List ℕ → Recipe → List RecipeWarning → List ℕ
recipe_warnings_text path r warnings = flat_map (recipe_line path r) warnings

-- the lines on the recipe of the document at this path
abbrev pub lines_on : List ℕ → Recipe → List ℕ
lines_on path r = recipe_warnings_text path r (warnings_of r)

-- the lines on the recipes of the documents at these paths, in their order
abbrev pub recipes_text : List (List ℕ) → List Recipe → List ℕ
recipes_text [] rs = []
recipes_text (path ∷ paths) [] = []
recipes_text (path ∷ paths) (r ∷ rs) = lines_on path r ++ recipes_text paths rs

-- a line for each warning, on the cell and then on the recipes
abbrev pub warnings_text : List ℕ → Cell → List (List ℕ) → List Recipe → List ℕ
warnings_text cell c paths rs = units_text cell c (units_without_modules c) ++ recipes_text paths rs
