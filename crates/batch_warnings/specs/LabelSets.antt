-- private: the labels of charts, in sets.
use Rattle.std.specs.Prelude.{◌≡◌, Bool, ◌||◌, List}
use Rattle.std.specs.Borrow.{Bor}
use Rattle.std.specs.List.{list_any}
use Rattle.batch_recipe.specs.Conditions.{Name, same_name}
use Rattle.batch_recipe.specs.declared.acts.Acts.{Acts}
use Rattle.batch_recipe.specs.declared.acts.LabelTable.{LabelTable}
use Rattle.batch_warnings.specs.Warnings.{act_has_label, acts_above}

-- the name is one of these
abbrev pub holds_name : List (Bor Name) → Name → Bool
holds_name names name = list_any (λ other. same_name name other.now) names

-- the names that pass the test were added, and no others
abbrev pub AddsNames : (Name → Bool) → List (Bor Name) → List (Bor Name) → Type 0
AddsNames is_added old new = (name : Name) → holds_name new name ≡ (holds_name old name || is_added name)

-- the names are the labels of the charts that name acts of the table
abbrev pub AreLabelsFor : Acts → LabelTable → List (Bor Name) → Type 0
AreLabelsFor acts table names = (name : Name) → holds_name names name ≡ list_any (act_has_label name) (acts_above acts table)
