-- private: recipes that are read one after the other, with the lines of the warnings on their documents.
use Rattle.std.specs.Prelude.{◌≡◌, ℕ, List, [], ◌∷◌, ◌++◌, None, Some, string_bytes, ⊤}
use Rattle.batch_outline.specs.Trimmed.{AreTrimmedRecipes, IsTrimmed}
use Rattle.batch_recipe.specs.declared.recipe.Recipe.{Recipe}
use Rattle.batch_verdicts.specs.WarningTexts.{lines_on, recipes_text}
use Rattle.batch_verdicts.specs.declared.gathering.ReadRecipes.{ReadRecipes}
use Rattle.batch_verdicts.specs.declared.warnings.WarningLines.{WarningLines}

-- these are the lines, if there are any
abbrev pub HoldsLines : WarningLines → List ℕ → Type 0
HoldsLines lines text = elim lines.text [ None ↦ ⊤ | Some held ↦ string_bytes held ≡ text ]

-- they were appended
abbrev pub AddsLines : WarningLines → WarningLines → List ℕ → Type 0
AddsLines old new text = (before : List ℕ) → HoldsLines old before → HoldsLines new (before ++ text)

-- the recipe was appended, and the lines of the warnings on its document at this path
pub record AddsRecipe (old new : ReadRecipes) (path : List ℕ) (whole : Recipe) : Type 0 where
  pub trimmed : Recipe
  pub is_trimmed : IsTrimmed whole trimmed
  pub added : new.recipes.items ≡ old.recipes.items ++ trimmed ∷ []
  pub lines : AddsLines old.lines new.lines (lines_on path whole)

-- they are these recipes, of the documents at these paths
pub record HoldsRecipes (recipes : ReadRecipes) (paths : List (List ℕ)) (whole : List Recipe) : Type 0 where
  pub trimmed : AreTrimmedRecipes whole recipes.recipes.items
  pub lines : HoldsLines recipes.lines (recipes_text paths whole)
