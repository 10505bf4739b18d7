-- trusted: the keys of each kind of table, and the form of each value.
use Rattle.std.specs.Prelude.{ℕ, Bool, true, false, not, ◌&&◌, ◌||◌, nat_eq, List, [], ◌∷◌, is_some, codes}
use Rattle.std.specs.Cmp.Lexicographic.{pointwise}
use Rattle.std.specs.List.{list_any}
use Rattle.toml.specs.Data.{Members, get_member}
use Rattle.batch_cell.specs.declared.module.TheConstants.{MAX_PHASES}
use Rattle.batch_cell.specs.declared.shared.TheConstants.{MAX_CAPACITY}
use Rattle.batch_recipe.specs.declared.act.TheConstants.{MAX_NEEDS, MAX_REPORTS, MAX_RESERVES, MAX_VALUES}
use Rattle.batch_recipe.specs.declared.header.TheConstants.{MAX_VERSION_LEN, MAX_TEXT_LEN}
use Rattle.batch_recipe.specs.declared.scaling.TheConstants.{MAX_SIZE, MAX_VALUE}
use Rattle.batch_reader.specs.Entries.{all_keys}
use Rattle.batch_reader.specs.declared.fault.TableKind.{TableKind}
use Rattle.batch_reader.specs.declared.fault.TableKind.TheVariants.{Cell, Unit, Module, Shared, Recipe, Input, Parameter, Output, Role, Procedure, UnitProcedure, Operation, Phase, Desk}
use Rattle.batch_reader.specs.declared.keys.Key.{Key as KeyRow}
use Rattle.batch_reader.specs.declared.keys.TheConstants.{MAX_LAG, MAX_PATH_LEN}
use Rattle.batch_reader.specs.declared.keys.ValueForm.{ValueForm}
use Rattle.batch_reader.specs.declared.keys.ValueForm.TheVariants as form

pub record Key : Type 0 where
  pub word : List ℕ
  pub form : ValueForm
  pub is_needed : Bool

-- the key of a row of the code's table
abbrev pub key_said : KeyRow → Key
key_said row = record { word = row.0.now; form = row.2; is_needed = row.1 }

abbrev pub needed : List ℕ → ValueForm → Key
needed word value = record { word = word; form = value; is_needed = true }

abbrev pub optional : List ℕ → ValueForm → Key
optional word value = record { word = word; form = value; is_needed = false }

-- tables of this word
abbrev pub tables : List ℕ → Key
tables word = optional word form.Tables

-- the keys of an input or a parameter
abbrev pub quantity_keys : List Key
quantity_keys =
    needed (codes "name") form.FreeName
    ∷ needed (codes "value") (form.Number 0 MAX_VALUE) ∷ needed (codes "min") (form.Least MAX_VALUE) ∷ needed (codes "max") (form.Number 0 MAX_VALUE)
    ∷ optional (codes "fixed") form.Truth ∷ []

abbrev pub needs_key : Key
needs_key = optional (codes "needs") (form.Needs MAX_NEEDS)

abbrev pub reserves_key : Key
reserves_key = optional (codes "reserves") (form.Names 0 MAX_RESERVES)

-- the keys of tables of this kind
abbrev pub keys_of : TableKind → List Key
keys_of Cell = needed (codes "cell") form.Name ∷ tables (codes "unit") ∷ tables (codes "module") ∷ tables (codes "shared") ∷ []
keys_of Unit = needed (codes "name") form.Name ∷ optional (codes "class") form.Name ∷ []
keys_of Module = needed (codes "name") form.Name ∷ optional (codes "unit") form.Name ∷ needed (codes "phases") (form.Names 1 MAX_PHASES) ∷ []
keys_of Shared = needed (codes "name") form.Name ∷ needed (codes "capacity") (form.Number 1 MAX_CAPACITY) ∷ []
keys_of Recipe =
    needed (codes "recipe") form.Name
    ∷ needed (codes "version") (form.Text MAX_VERSION_LEN) ∷ needed (codes "basis") (form.Number 1 MAX_SIZE)
    ∷ optional (codes "product") (form.Text MAX_TEXT_LEN) ∷ optional (codes "author") (form.Text MAX_TEXT_LEN) ∷ optional (codes "info") (form.Text MAX_TEXT_LEN)
    ∷ tables (codes "procedure") ∷ tables (codes "input") ∷ tables (codes "parameter") ∷ tables (codes "output")
    ∷ tables (codes "role") ∷ tables (codes "unit_procedure") ∷ tables (codes "operation") ∷ tables (codes "phase") ∷ []
keys_of Input = quantity_keys
keys_of Parameter = quantity_keys
keys_of Output = needed (codes "name") form.FreeName ∷ []
keys_of Role = needed (codes "name") form.Name ∷ needed (codes "class") form.Name ∷ []
keys_of Procedure = needed (codes "chart") form.Chart ∷ needs_key ∷ []
keys_of UnitProcedure =
    needed (codes "name") form.FreeName
    ∷ needed (codes "unit") form.Name ∷ optional (codes "role") form.Name ∷ needed (codes "chart") form.ChartWithoutPar ∷ needs_key ∷ reserves_key ∷ []
keys_of Operation = needed (codes "name") form.FreeName ∷ needed (codes "chart") form.Chart ∷ needs_key ∷ reserves_key ∷ []
keys_of Phase =
    needed (codes "name") form.FreeName ∷ optional (codes "runs") form.Name ∷ needs_key
    ∷ optional (codes "values") (form.Names 0 MAX_VALUES) ∷ optional (codes "reports") (form.Names 0 MAX_REPORTS) ∷ reserves_key ∷ []
keys_of Desk =
    needed (codes "name") form.Name
    ∷ optional (codes "input") (form.Path MAX_PATH_LEN) ∷ optional (codes "output") (form.Path MAX_PATH_LEN)
    ∷ optional (codes "unit") form.Name ∷ optional (codes "stays") form.Truth ∷ optional (codes "lag") (form.Number 1 MAX_LAG) ∷ []

-- the key may be in the table, of this kind: a module's phases only beside its unit, a unit procedure's unit only without a role
abbrev pub may_stand : TableKind → List ℕ → Members → Bool
may_stand Module word table = not (pointwise nat_eq word (codes "phases")) || is_some (get_member (codes "unit") table)
may_stand UnitProcedure word table = not (pointwise nat_eq word (codes "unit")) || not (is_some (get_member (codes "role") table))
may_stand _ word table = true

-- tables of this kind have the key, and it may stand in this one
unfoldable pub is_known : TableKind → Members → List ℕ → Bool
is_known kind table word = list_any (λ (key : Key). pointwise nat_eq key.word word && may_stand kind key.word table) (keys_of kind)

-- the table, of this kind, has no keys but those that may stand in it
abbrev pub has_known_keys : TableKind → Members → Bool
has_known_keys kind table = all_keys (is_known kind table) table
