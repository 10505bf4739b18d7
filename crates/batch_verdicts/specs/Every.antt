-- trusted: all refusals of documents, and the recipes that break a rule, as `check --all` reports them.
use Rattle.std.specs.Prelude.{◌≡◌, ◌⊎◌, ℕ, ◌+◌, Bool, true, false, List, [], ◌∷◌, ◌++◌, None, ⊤, string_bytes}
use Rattle.batch_cell.specs.declared.cell.Cell.{Cell}
use Rattle.batch_recipe.specs.declared.recipe.Recipe.{Recipe}
use Rattle.batch_model.specs.Setups.{master_of, setup_of}
use Rattle.batch_verify.specs.Refusals.{IsFirstBrokenBy}
use Rattle.batch_verify.specs.Verifying.{IsRecipeSet}
use Rattle.batch_verify.specs.declared.rule.Broken.{Broken}
use Rattle.batch_check.specs.Checking.{IsSoundMaster}
use Rattle.batch_check.specs.declared.fault.CheckFault.TheVariants as check
use Rattle.batch_verdicts.specs.Drawing.{RefusesDrawing}
use Rattle.batch_verdicts.specs.Halting.{HaltsAtCell, HaltsAtDocuments, HaltsAtRecipe}
use Rattle.batch_verdicts.specs.Judging.{RefusesCheck}
use Rattle.batch_verdicts.specs.Reading.{Gives, IsSoWarned, IsUnread, ReadsCell, ReadsRecipe, Warns}
use Rattle.batch_verdicts.specs.VerdictTexts.{fault_text}
use Rattle.batch_verdicts.specs.declared.refusal.DocumentRefusal.{DocumentRefusal}
use Rattle.batch_verdicts.specs.declared.refusal.Halt.{Halt}
use Rattle.batch_verdicts.specs.declared.refusal.Halt.TheVariants.{Refused, Every, Memory}
use Rattle.batch_verdicts.specs.declared.refusal.RefusalKind.TheVariants.{Fault}

-- Documents

-- the document at the path is a cell, and nothing is refused, or it is refused so
abbrev pub IsCellRefused : Gives → List ℕ → List DocumentRefusal → Type 0
IsCellRefused gives path refusals =
    ((c : Cell) × ReadsCell gives path c × (refusals ≡ []))
    ⊎ ((refusal : DocumentRefusal) × HaltsAtCell gives path (Refused refusal) × (refusals ≡ refusal ∷ []))

-- these recipes are those of the documents at these paths that aren't refused, and the others are refused so, in their order
abbrev pub AreLooked : Gives → List (List ℕ) → List Recipe → List DocumentRefusal → Type 0
AreLooked gives [] recipes refusals = (recipes ≡ []) × (refusals ≡ [])
AreLooked gives (path ∷ paths) recipes refusals =
    ((r : Recipe) × (rs : List Recipe) × ReadsRecipe gives path r × (recipes ≡ r ∷ rs) × AreLooked gives paths rs refusals)
    ⊎ ((refusal : DocumentRefusal) × (others : List DocumentRefusal) × HaltsAtRecipe gives path (Refused refusal) × (refusals ≡ refusal ∷ others)
    × AreLooked gives paths recipes others)

-- all refusals of the documents at these paths
pub record AreRefusalsOf (gives : Gives) (cell : List ℕ) (paths : List (List ℕ)) (refusals : List DocumentRefusal) : Type 0 where
  pub of_cell : List DocumentRefusal
  pub of_recipes : List DocumentRefusal
  pub recipes : List Recipe
  pub cell_refused : IsCellRefused gives cell of_cell
  pub looked : AreLooked gives paths recipes of_recipes
  pub joined : refusals ≡ of_cell ++ of_recipes

-- they are reported, if there are any
abbrev pub RefusesDocuments : Gives → List ℕ → List (List ℕ) → Halt → Type 0
RefusesDocuments gives cell paths (Every refusals) = AreRefusalsOf gives cell paths refusals.items × ¬ (refusals.items ≡ [])
RefusesDocuments gives cell paths _ = ⊥

-- one of the documents at these paths can't be read, or memory is wanting, and then nothing else is reported
abbrev pub IsOneUnread : Gives → List (List ℕ) → Halt → Type 0
IsOneUnread gives [] h = h ≡ Memory
IsOneUnread gives (path ∷ paths) h = IsUnread gives path h ⊎ IsOneUnread gives paths h

abbrev pub HaltsAtAll : Gives → List ℕ → List (List ℕ) → Halt → Type 0
HaltsAtAll gives cell paths h = RefusesDocuments gives cell paths h ⊎ IsOneUnread gives (cell ∷ paths) h

-- Rules

-- the recipe with this number breaks no rule but that on ranks, or it is refused for the first that it breaks
abbrev pub IsRuleRefused : Cell → List Recipe → ℕ → Recipe → List DocumentRefusal → Type 0
IsRuleRefused c rs number r refusals =
    (IsSoundMaster (setup_of c rs) (master_of c r) × (refusals ≡ []))
    ⊎ ((broken : Broken) × (refusal : DocumentRefusal) × IsFirstBrokenBy (setup_of c rs) None (master_of c r) broken
    × (string_bytes refusal.text ≡ fault_text c rs (check.Recipe number broken)) × (refusal.kind ≡ Fault) × (refusals ≡ refusal ∷ []))

-- all of these recipes, whose numbers begin with this one, in their order
abbrev pub AreRulesRefused : Cell → List Recipe → ℕ → List Recipe → List DocumentRefusal → Type 0
AreRulesRefused c rs number [] refusals = refusals ≡ []
AreRulesRefused c rs number (r ∷ more) refusals =
    (here : List DocumentRefusal) × (rest : List DocumentRefusal) × IsRuleRefused c rs number r here × AreRulesRefused c rs (number + 1) more rest
    × (refusals ≡ here ++ rest)

-- the refusals of a set of recipes are reported, if there are any
abbrev pub RefusesRules : Cell → List Recipe → Halt → Type 0
RefusesRules c rs (Every refusals) =
    IsRecipeSet (setup_of c rs).recipes × AreRulesRefused c rs 0 rs refusals.items × ¬ (refusals.items ≡ [])
RefusesRules c rs h = h ≡ Memory

-- the recipes are no set, or none breaks a rule
abbrev pub AreRulesKept : Cell → List Recipe → Type 0
AreRulesKept c rs = ¬ (IsRecipeSet (setup_of c rs).recipes) ⊎ AreRulesRefused c rs 0 rs []

-- The end of a command

-- a document is refused or can't be read, with no word of warning; or all are read, the program warns of them, and rules are broken
abbrev pub HaltsAtLook : Gives → Warns → List ℕ → List (List ℕ) → Halt → Type 0
HaltsAtLook gives warns cell paths h =
    (HaltsAtAll gives cell paths h × warns []) ⊎ IsSoWarned gives warns cell paths (λ c rs. RefusesRules c rs h)

-- a command ends so before the recipes are judged, if all refusals are to be reported, and if the first alone is
abbrev pub HaltsBefore : Bool → Gives → Warns → List ℕ → List (List ℕ) → Halt → Type 0
HaltsBefore true gives warns cell paths h = HaltsAtLook gives warns cell paths h
HaltsBefore false gives warns cell paths h = HaltsAtDocuments gives cell paths h × warns []

-- if all are to be reported, no rule is broken
abbrev pub AreKeptIf : Bool → Cell → List Recipe → Type 0
AreKeptIf true c rs = AreRulesKept c rs
AreKeptIf false c rs = ⊤

-- it ends so, or this is so of the recipes
abbrev pub HaltsAsked : Bool → Gives → Warns → List ℕ → List (List ℕ) → (Cell → List Recipe → Type 0) → Halt → Type 0
HaltsAsked all gives warns cell paths is_so h =
    HaltsBefore all gives warns cell paths h ⊎ IsSoWarned gives warns cell paths (λ c rs. AreKeptIf all c rs × is_so c rs)

-- why `check` prints no certificate
abbrev pub HaltsChecking : Bool → Gives → Warns → List ℕ → List (List ℕ) → Halt → Type 0
HaltsChecking all gives warns cell paths h = HaltsAsked all gives warns cell paths (λ c rs. RefusesCheck c rs h) h

-- the same of a drawing
abbrev pub HaltsDrawing : Bool → Gives → Warns → List ℕ → List (List ℕ) → Halt → Type 0
HaltsDrawing all gives warns cell paths h = HaltsAsked all gives warns cell paths (λ c rs. RefusesDrawing c rs h) h
