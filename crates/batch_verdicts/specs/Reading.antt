-- trusted: documents that are read one after the other.
use Rattle.std.specs.Prelude.{◌≡◌, ℕ, List, [], ◌∷◌, Option, Some, None, ⊤}
use Rattle.batch_cell.specs.declared.cell.Cell.{Cell}
use Rattle.batch_recipe.specs.declared.recipe.Recipe.{Recipe}
use Rattle.batch_reader.specs.CellDocument.{IsCellDocument}
use Rattle.batch_reader.specs.RecipeDocument.{IsRecipeDocument}
use Rattle.batch_model.specs.Setups.{setup_of}
use Rattle.batch_outline.specs.Showing.{shown_recipes}
use Rattle.batch_outline.specs.Trimmed.{AreTrimmedRecipes}
use Rattle.batch_verify.specs.CertificateText.{Rank, IsCertificateText}
use Rattle.batch_verify.specs.ClearedSet.{ClearedSet}
use Rattle.batch_verdicts.specs.Drawing.{IsDrawn}
use Rattle.batch_verdicts.specs.Judging.{IsChecked, IsClearedBy}
use Rattle.batch_verdicts.specs.VerdictTexts.{accepted_text}
use Rattle.batch_verdicts.specs.WarningTexts.{warnings_text}
use Rattle.batch_verdicts.specs.declared.refusal.Halt.{Halt}
use Rattle.batch_verdicts.specs.declared.refusal.Halt.TheVariants.{Refused, Every, Unread, Memory}

-- the possible results of reading a path: these bytes, or at None that nothing can be read there
abbrev pub Gives : Type 1
Gives = List ℕ → Option (List ℕ) → Type 0

-- the effect of a text of warnings
abbrev pub Warns : Type 1
Warns = List ℕ → Type 0

-- nothing was judged: nothing can be read at the path, or there was no memory
abbrev pub IsUnread : Gives → List ℕ → Halt → Type 0
IsUnread gives path (Refused refusal) = ⊥
IsUnread gives path (Every refusals) = ⊥
IsUnread gives path (Unread message) = gives path None
IsUnread gives path Memory = ⊤

abbrev pub ReadsCell : Gives → List ℕ → Cell → Type 0
ReadsCell gives path c = (bytes : List ℕ) × gives path (Some bytes) × IsCellDocument bytes c

abbrev pub ReadsRecipe : Gives → List ℕ → Recipe → Type 0
ReadsRecipe gives path r = (bytes : List ℕ) × gives path (Some bytes) × IsRecipeDocument bytes r

abbrev pub ReadsCertificate : Gives → List ℕ → List Rank → Type 0
ReadsCertificate gives path ranks = (bytes : List ℕ) × gives path (Some bytes) × IsCertificateText bytes ranks

-- a recipe for each path, in their order
abbrev pub ReadsRecipes : Gives → List (List ℕ) → List Recipe → Type 0
ReadsRecipes gives [] [] = ⊤
ReadsRecipes gives (path ∷ paths) (r ∷ rs) = ReadsRecipe gives path r × ReadsRecipes gives paths rs
ReadsRecipes gives _ _ = ⊥

-- this is so of the cell and the recipes that the documents at these paths are
pub record IsSoOf (gives : Gives) (cell : List ℕ) (paths : List (List ℕ)) (is_so : Cell → List Recipe → Type 0) : Type 0 where
  pub equipment : Cell
  pub recipes : List Recipe
  pub cell_read : ReadsCell gives cell equipment
  pub recipes_read : ReadsRecipes gives paths recipes
  pub judged : is_so equipment recipes

-- they are this cell and these recipes, and the program warned of their parts that can hardly be meant so
pub record AreReadWarned (gives : Gives) (warns : Warns) (cell : List ℕ) (paths : List (List ℕ)) (equipment : Cell) (recipes : List Recipe) : Type 0 where
  pub cell_read : ReadsCell gives cell equipment
  pub recipes_read : ReadsRecipes gives paths recipes
  pub warned : warns (warnings_text cell equipment paths recipes)

-- it is so of the recipes once the charts that no node follows are dropped
abbrev pub IsSoTrimmed : (List Recipe → Type 0) → List Recipe → Type 0
IsSoTrimmed is_so rs = (trimmed : List Recipe) × AreTrimmedRecipes rs trimmed × is_so trimmed

-- the program warned of their parts that can hardly be meant so, and it is so of them without the charts that no node follows
abbrev pub IsSoWarned : Gives → Warns → List ℕ → List (List ℕ) → (Cell → List Recipe → Type 0) → Type 0
IsSoWarned gives warns cell paths is_so = IsSoOf gives cell paths (λ c rs. warns (warnings_text cell c paths rs) × IsSoTrimmed (is_so c) rs)

-- the output of `check` on the documents at these paths
abbrev pub ChecksDocuments : Gives → Warns → List ℕ → List (List ℕ) → List ℕ → Type 0
ChecksDocuments gives warns cell paths text = IsSoWarned gives warns cell paths (λ c rs. IsChecked c rs text)

-- the output of `check --dot` on them
abbrev pub DrawsDocuments : Gives → Warns → List ℕ → List (List ℕ) → List ℕ → Type 0
DrawsDocuments gives warns cell paths text = IsSoWarned gives warns cell paths (λ c rs. IsDrawn c rs text)

-- the output of `show` on them: the nodes of the recipes' expanded trees, whether they can be cleared or not
abbrev pub ShowsDocuments : Gives → List ℕ → List (List ℕ) → List ℕ → Type 0
ShowsDocuments gives cell paths text = IsSoOf gives cell paths (λ c rs. text ≡ shown_recipes rs)

-- the documents at these paths are the cell, a certificate of these ranks, and the recipes
pub record AreRead (gives : Gives) (cell certificate : List ℕ) (paths : List (List ℕ)) (equipment : Cell) (ranks : List Rank) (recipes : List Recipe) : Type 0 where
  pub cell_read : ReadsCell gives cell equipment
  pub certificate_read : ReadsCertificate gives certificate ranks
  pub recipes_read : ReadsRecipes gives paths recipes

-- they make this set, which their certificate clears. Charts that no node follows are dropped
pub record AreCleared (gives : Gives) (cell certificate : List ℕ) (paths : List (List ℕ)) (set : ClearedSet) : Type 0 where
  pub ranks : List Rank
  pub recipes : List Recipe
  pub read : AreRead gives cell certificate paths set.cell ranks recipes
  pub trimmed : AreTrimmedRecipes recipes set.recipes
  pub cleared : IsClearedBy set.cell set.recipes ranks

-- the output of `verify` on them: it accepts the set that they make, once it has warned of it
abbrev pub VerifiesDocuments : Gives → Warns → List ℕ → List ℕ → List (List ℕ) → List ℕ → Type 0
VerifiesDocuments gives warns cell certificate paths text =
    (text ≡ accepted_text)
    × ((set : ClearedSet) × (cleared : AreCleared gives cell certificate paths set) × warns (warnings_text cell set.cell paths cleared.recipes))

-- recipes make the same set for a cell without the charts that no node follows
abbrev pub SetsStay : Type 0
SetsStay = (c : Cell) (rs trimmed : List Recipe) → AreTrimmedRecipes rs trimmed → setup_of c trimmed ≡ setup_of c rs
