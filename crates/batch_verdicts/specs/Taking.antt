-- private: documents whose texts are taken once they are read.
use Rattle.std.specs.Prelude.{◌≡◌, ℕ, List, ◌++◌}
use Rattle.batch_cell.specs.declared.cell.Cell.{Cell}
use Rattle.batch_recipe.specs.declared.recipe.Recipe.{Recipe}
use Rattle.batch_outline.specs.Trimmed.{AreTrimmedRecipes}
use Rattle.batch_verify.specs.CertificateText.{Rank}
use Rattle.batch_verify.specs.ClearedSet.{ClearedSet}
use Rattle.batch_verdicts.specs.Digested.{ReadsTexts}
use Rattle.batch_verdicts.specs.Judging.{IsClearedBy}
use Rattle.batch_verdicts.specs.Gathering.{HoldsRecipes}
use Rattle.batch_verdicts.specs.Reading.{Gives, ReadsCertificate}
use Rattle.batch_verdicts.specs.declared.gathering.ReadRecipes.{ReadRecipes}

-- the documents at these paths are these recipes, and their texts were taken
pub record AreTaken {T : Type 0} (has_taken : T → List (List ℕ) → Type 0) (gives : Gives) (paths : List (List ℕ)) (recipes : ReadRecipes) (old new : T) : Type 0 where
  pub whole : List Recipe
  pub texts : List (List ℕ)
  pub read : ReadsTexts gives paths texts whole
  pub holds : HoldsRecipes recipes paths whole
  pub taken : (before : List (List ℕ)) → has_taken old before → has_taken new (before ++ texts)

-- the documents behind that of the cell are the certificate and the recipes of this set, and the texts of the recipes were taken
pub record ClearsBehind {T : Type 0} (has_taken : T → List (List ℕ) → Type 0) (gives : Gives) (certificate : List ℕ) (paths : List (List ℕ)) (c : Cell) (set : ClearedSet) (old new : T) : Type 0 where
  pub ranks : List Rank
  pub whole : List Recipe
  pub texts : List (List ℕ)
  pub same_cell : set.cell ≡ c
  pub certificate_read : ReadsCertificate gives certificate ranks
  pub read : ReadsTexts gives paths texts whole
  pub trimmed : AreTrimmedRecipes whole set.recipes
  pub taken : (before : List (List ℕ)) → has_taken old before → has_taken new (before ++ texts)
  pub cleared : IsClearedBy set.cell set.recipes ranks
