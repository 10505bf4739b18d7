-- trusted: recipes without the charts that no node follows.
use Rattle.std.specs.Prelude.{◌≡◌, ◌⊎◌, ℕ, ◌+◌, List, [], ◌∷◌, Some, ⊤, slice_get}
use Rattle.batch_recipe.specs.declared.act.Act.{Act}
use Rattle.batch_recipe.specs.declared.act.Work.TheVariants.{Follows}
use Rattle.batch_recipe.specs.declared.acts.Acts.{Acts}
use Rattle.batch_recipe.specs.declared.acts.LabelTable.{LabelTable}
use Rattle.batch_recipe.specs.declared.acts.LabelTable.TheVariants.{UnitProcedures, Operations}
use Rattle.batch_recipe.specs.declared.chart.Chart.TheVariants.{Skip}
use Rattle.batch_recipe.specs.declared.entry.Entry.{Entry}
use Rattle.batch_recipe.specs.declared.entry.Kind.TheVariants as kind
use Rattle.batch_recipe.specs.declared.recipe.Recipe.{Recipe}

-- some node is the act with this number in the table
abbrev pub HasNode : List Entry → LabelTable → ℕ → Type 0
HasNode entries table number = (k : ℕ) × (e : Entry) × (slice_get entries k ≡ Some e) × (e.kind ≡ kind.Act table number)

-- the act with `skip` in place of its chart
pub record IsWithoutChart (whole trimmed : Act) : Type 0 where
  pub name : trimmed.name ≡ whole.name
  pub unit : trimmed.unit ≡ whole.unit
  pub reserves : trimmed.reserves ≡ whole.reserves
  pub needs : trimmed.needs ≡ whole.needs
  pub work : trimmed.work ≡ Follows Skip

-- the same act, or no node is this act, and it is without its chart
abbrev pub IsTrimmedAct : List Entry → LabelTable → ℕ → Act → Act → Type 0
IsTrimmedAct entries table number whole trimmed = (trimmed ≡ whole) ⊎ (¬ (HasNode entries table number) × IsWithoutChart whole trimmed)

-- act by act, from this number in the table on
abbrev pub AreTrimmedActs : List Entry → LabelTable → ℕ → List Act → List Act → Type 0
AreTrimmedActs entries table number [] [] = ⊤
AreTrimmedActs entries table number (a ∷ acts) (b ∷ trimmed) = IsTrimmedAct entries table number a b × AreTrimmedActs entries table (number + 1) acts trimmed
AreTrimmedActs entries table number _ _ = ⊥

pub record AreTrimmed (entries : List Entry) (whole trimmed : Acts) : Type 0 where
  pub procedure : trimmed.procedure ≡ whole.procedure
  pub unit_procedures : AreTrimmedActs entries UnitProcedures 0 whole.unit_procedures.items trimmed.unit_procedures.items
  pub operations : AreTrimmedActs entries Operations 0 whole.operations.items trimmed.operations.items
  pub phases : trimmed.phases ≡ whole.phases

-- the recipe, but for charts that no node follows
pub record IsTrimmed (whole trimmed : Recipe) : Type 0 where
  pub header : trimmed.header ≡ whole.header
  pub basis : trimmed.basis ≡ whole.basis
  pub inputs : trimmed.inputs ≡ whole.inputs
  pub parameters : trimmed.parameters ≡ whole.parameters
  pub outputs : trimmed.outputs ≡ whole.outputs
  pub roles : trimmed.roles ≡ whole.roles
  pub acts : AreTrimmed whole.outline.entries.items whole.acts trimmed.acts
  pub outline : trimmed.outline ≡ whole.outline

-- recipe by recipe
abbrev pub AreTrimmedRecipes : List Recipe → List Recipe → Type 0
AreTrimmedRecipes [] [] = ⊤
AreTrimmedRecipes (whole ∷ recipes) (trimmed ∷ others) = IsTrimmed whole trimmed × AreTrimmedRecipes recipes others
AreTrimmedRecipes _ _ = ⊥
