-- trusted: which document or refusal ends a command.
use Rattle.std.specs.Prelude.{◌≡◌, ℕ, List, [], ◌∷◌, Some, ◌⊎◌}
use Rattle.batch_cell.specs.declared.cell.Cell.{Cell}
use Rattle.batch_recipe.specs.declared.recipe.Recipe.{Recipe}
use Rattle.batch_verify.specs.CertificateText.{Rank}
use Rattle.batch_verdicts.specs.Judging.{RefusesCell, RefusesCertificate, RefusesRecipe, RefusesSet}
use Rattle.batch_verdicts.specs.Reading.{AreRead, Gives, IsSoTrimmed, IsUnread, ReadsCell, ReadsCertificate, ReadsRecipe, Warns}
use Rattle.batch_verdicts.specs.WarningTexts.{warnings_text}
use Rattle.batch_verdicts.specs.declared.refusal.Halt.{Halt}
use Rattle.batch_verdicts.specs.declared.refusal.Halt.TheVariants.{Memory}

-- the document at the path can't be read, or is refused

abbrev pub HaltsAtCell : Gives → List ℕ → Halt → Type 0
HaltsAtCell gives path h = IsUnread gives path h ⊎ ((bytes : List ℕ) × gives path (Some bytes) × RefusesCell path bytes h)

abbrev pub HaltsAtCertificate : Gives → List ℕ → Halt → Type 0
HaltsAtCertificate gives path h = IsUnread gives path h ⊎ ((bytes : List ℕ) × gives path (Some bytes) × RefusesCertificate bytes h)

abbrev pub HaltsAtRecipe : Gives → List ℕ → Halt → Type 0
HaltsAtRecipe gives path h = IsUnread gives path h ⊎ ((bytes : List ℕ) × gives path (Some bytes) × RefusesRecipe path bytes h)

-- one of the documents at these paths does, and those before it are recipes; past them only memory can be wanting
abbrev pub HaltsAtRecipes : Gives → List (List ℕ) → Halt → Type 0
HaltsAtRecipes gives [] h = h ≡ Memory
HaltsAtRecipes gives (path ∷ paths) h = HaltsAtRecipe gives path h ⊎ ((r : Recipe) × ReadsRecipe gives path r × HaltsAtRecipes gives paths h)

-- the first document that can't be read or is refused
abbrev pub HaltsAtDocuments : Gives → List ℕ → List (List ℕ) → Halt → Type 0
HaltsAtDocuments gives cell recipes h = HaltsAtCell gives cell h ⊎ ((c : Cell) × ReadsCell gives cell c × HaltsAtRecipes gives recipes h)

-- the first document of a set that can't be read or is refused
abbrev pub HaltsReading : Gives → List ℕ → List ℕ → List (List ℕ) → Halt → Type 0
HaltsReading gives cell certificate recipes h =
    HaltsAtCell gives cell h
    ⊎ ((c : Cell) × ReadsCell gives cell c
    × (HaltsAtCertificate gives certificate h ⊎ ((ranks : List Rank) × ReadsCertificate gives certificate ranks × HaltsAtRecipes gives recipes h)))

-- one of them does, or all are read and the set isn't cleared
abbrev pub HaltsClearing : Gives → List ℕ → List ℕ → List (List ℕ) → Halt → Type 0
HaltsClearing gives cell certificate paths h =
    HaltsReading gives cell certificate paths h
    ⊎ ((c : Cell) × (ranks : List Rank) × (rs : List Recipe) × AreRead gives cell certificate paths c ranks rs
    × IsSoTrimmed (λ trimmed. RefusesSet c trimmed ranks h) rs)

-- the same of `verify`, which warns of documents that are all read
abbrev pub HaltsVerifying : Gives → Warns → List ℕ → List ℕ → List (List ℕ) → Halt → Type 0
HaltsVerifying gives warns cell certificate paths h =
    (HaltsReading gives cell certificate paths h × warns [])
    ⊎ ((c : Cell) × (ranks : List Rank) × (rs : List Recipe) × AreRead gives cell certificate paths c ranks rs
    × warns (warnings_text cell c paths rs) × IsSoTrimmed (λ trimmed. RefusesSet c trimmed ranks h) rs)
