-- trusted: documents that are read one after the other, with the digest of their texts, by which a journal names them.
use Rattle.std.specs.Prelude.{◌≡◌, ℕ, List, [], ◌∷◌, Some, ⊤}
use Rattle.batch_cell.specs.declared.cell.Cell.{Cell}
use Rattle.batch_recipe.specs.declared.recipe.Recipe.{Recipe}
use Rattle.batch_reader.specs.CellDocument.{IsCellDocument}
use Rattle.batch_reader.specs.RecipeDocument.{IsRecipeDocument}
use Rattle.batch_outline.specs.Trimmed.{AreTrimmedRecipes}
use Rattle.batch_verify.specs.CertificateText.{Rank}
use Rattle.batch_verify.specs.ClearedSet.{ClearedSet}
use Rattle.batch_journal.specs.Digests.{digits_of}
use Rattle.batch_verdicts.specs.Judging.{IsClearedBy}
use Rattle.batch_verdicts.specs.Reading.{Gives, ReadsCertificate}

-- this text was read there, and stands for this cell or recipe

abbrev pub ReadsCellText : Gives → List ℕ → List ℕ → Cell → Type 0
ReadsCellText gives path text c = gives path (Some text) × IsCellDocument text c

abbrev pub ReadsRecipeText : Gives → List ℕ → List ℕ → Recipe → Type 0
ReadsRecipeText gives path text r = gives path (Some text) × IsRecipeDocument text r

-- a text and its recipe for each path, in their order
abbrev pub ReadsTexts : Gives → List (List ℕ) → List (List ℕ) → List Recipe → Type 0
ReadsTexts gives [] [] [] = ⊤
ReadsTexts gives (path ∷ paths) (text ∷ texts) (r ∷ rs) = ReadsRecipeText gives path text r × ReadsTexts gives paths texts rs
ReadsTexts gives _ _ _ = ⊥

-- the documents at these paths make this set, which their certificate clears, and these are the digits of the texts of its cell and
-- its recipes. Charts that no node follows are dropped
pub record AreDigested (gives : Gives) (cell certificate : List ℕ) (paths : List (List ℕ)) (set : ClearedSet) (digits : List ℕ) : Type 0 where
  pub cell_text : List ℕ
  pub texts : List (List ℕ)
  pub ranks : List Rank
  pub recipes : List Recipe
  pub cell_read : ReadsCellText gives cell cell_text set.cell
  pub certificate_read : ReadsCertificate gives certificate ranks
  pub recipes_read : ReadsTexts gives paths texts recipes
  pub trimmed : AreTrimmedRecipes recipes set.recipes
  pub cleared : IsClearedBy set.cell set.recipes ranks
  pub names : digits ≡ digits_of (cell_text ∷ texts)
