-- private: looking at one document after the other.
use Rattle.std.specs.Prelude.{◌≡◌, ◌⊎◌, List, [], ◌∷◌, ◌++◌, ℕ, Bool, Option, Some, None}
use Rattle.batch_cell.specs.declared.cell.Cell.{Cell}
use Rattle.batch_outline.specs.Trimmed.{AreTrimmedRecipes}
use Rattle.batch_recipe.specs.declared.recipe.Recipe.{Recipe}
use Rattle.batch_verdicts.specs.Every.{AreLooked, AreKeptIf}
use Rattle.batch_verdicts.specs.Gathering.{AddsRecipe, HoldsRecipes}
use Rattle.batch_verdicts.specs.Halting.{HaltsAtCell, HaltsAtRecipe}
use Rattle.batch_verdicts.specs.Reading.{AreReadWarned, Gives, ReadsCell, ReadsRecipe, ReadsRecipes, Warns}
use Rattle.batch_verdicts.specs.declared.gathering.ReadRecipes.{ReadRecipes}
use Rattle.batch_verdicts.specs.declared.refusal.DocumentRefusal.{DocumentRefusal}
use Rattle.batch_verdicts.specs.declared.refusal.Halt.TheVariants.{Refused}

-- the cell's document is read, or its refusal is appended to the others
abbrev pub IsCellLooked : Gives → List ℕ → List DocumentRefusal → Option Cell → List DocumentRefusal → Type 0
IsCellLooked gives path before (Some c) after = ReadsCell gives path c × (after ≡ before)
IsCellLooked gives path before None after =
    (refusal : DocumentRefusal) × HaltsAtCell gives path (Refused refusal) × (after ≡ before ++ refusal ∷ [])

-- one more recipe, or one more refusal
abbrev pub IsLooked : Gives → List ℕ → ReadRecipes → List DocumentRefusal → ReadRecipes → List DocumentRefusal → Type 0
IsLooked gives path recipes refusals more others =
    ((r : Recipe) × ReadsRecipe gives path r × AddsRecipe recipes more path r × (others ≡ refusals))
    ⊎ ((refusal : DocumentRefusal) × HaltsAtRecipe gives path (Refused refusal) × (more ≡ recipes) × (others ≡ refusals ++ refusal ∷ []))

-- the refusals of the documents at these paths follow those before
pub record LooksOn (gives : Gives) (paths : List (List ℕ)) (before : List DocumentRefusal) (recipes : ReadRecipes) (after : List DocumentRefusal) : Type 0 where
  pub whole : List Recipe
  pub here : List DocumentRefusal
  pub looked : AreLooked gives paths whole here
  pub joined : after ≡ before ++ here
  -- the lines are those of all documents, if none is refused
  pub holds : here ≡ [] → HoldsRecipes recipes paths whole

-- all documents are read
pub record AreAllRead (gives : Gives) (cell : List ℕ) (paths : List (List ℕ)) (c : Cell) (recipes : ReadRecipes) : Type 0 where
  pub whole : List Recipe
  pub cell_read : ReadsCell gives cell c
  pub recipes_read : ReadsRecipes gives paths whole
  pub holds : HoldsRecipes recipes paths whole

-- they are read and warned of, and if all refusals are to be reported, no rule is broken
pub record IsReadAsked (all : Bool) (gives : Gives) (warns : Warns) (cell : List ℕ) (paths : List (List ℕ)) (c : Cell) (recipes : List Recipe) : Type 0 where
  pub whole : List Recipe
  pub read : AreReadWarned gives warns cell paths c whole
  pub trimmed : AreTrimmedRecipes whole recipes
  pub kept : AreKeptIf all c recipes
