-- private: the spans on which phase steps passed.
use Rattle.std.specs.Prelude.{◌≡◌, ℕ, List, Option, Some, None, option_copied, slice_set}
use Rattle.std.specs.List.{slice_index_or}
use Rattle.batch_cell.specs.declared.cell.Cell.{Cell}
use Rattle.batch_recipe.specs.Outlines.{act_of_kind}
use Rattle.batch_recipe.specs.declared.act.Act.{Act}
use Rattle.batch_recipe.specs.declared.acts.Acts.{Acts}
use Rattle.batch_recipe.specs.declared.acts.LabelTable.TheVariants.{Phases}
use Rattle.batch_recipe.specs.declared.entry.Kind.{Kind}
use Rattle.batch_recipe.specs.declared.entry.Kind.TheVariants as kind
use Rattle.batch_recipe.specs.declared.role.Role.{Role}
use Rattle.batch_set.specs.Looked.{needs_by}
use Rattle.batch_set.specs.declared.linked.LinkedRecipe.{LinkedRecipe}
use Rattle.batch_verify.specs.Spans.{IsAtMost, IsPassed}
use Rattle.batch_verify.specs.declared.passed.Passed.{Passed}
use Rattle.batch_verify.specs.declared.site.Site.{Site}
use Rattle.batch_verify.specs.declared.span.Span.{Span}

-- the spans noted for the act, of those noted for the phase steps
abbrev pub passed_at : List (Option Passed) → Kind → Option Passed
passed_at passed (kind.Act Phases number) = slice_index_or passed number None
passed_at passed _ = None

-- the spans noted, after those of the act are noted
abbrev pub with_passed : List (Option Passed) → Kind → Passed → List (Option Passed)
with_passed passed (kind.Act Phases number) spans = slice_set passed number (Some spans)
with_passed passed _ spans = passed

-- P holds of the spans noted for each act
abbrev pub AreNoted : (Kind → Passed → Type 0) → List (Option Passed) → Type 0
AreNoted P passed = (k : Kind) (p : Passed) → passed_at passed k ≡ Some p → P k p

-- the act of the kind passes on these spans
abbrev pub HasPassed : Cell → Option (List ℕ) → List Role → Acts → LinkedRecipe → List (Option ℕ) → List (Option ℕ) → Kind → Passed → Type 0
HasPassed c ranks roles acts linked lowest highest k p = (a : Act) → act_of_kind acts k ≡ Some a → IsPassed c ranks roles lowest highest (needs_by linked k) a p.above p.within

-- at this site, where the roles are taken within these bounds
abbrev pub AreNotedAt : Site → List Role → List (Option ℕ) → List (Option Passed) → Type 0
AreNotedAt low roles highest = AreNoted (HasPassed low.cell.now (option_copied low.ranks) roles low.acts.now low.linked.now low.takers.now highest)

-- an act that passed on these spans passes from this span too
pub record Allows (p : Passed) (above : Span) : Type 0 where
  pub unit : p.above.unit ≡ above.unit
  pub last : IsAtMost above.last p.above.last

-- this span is noted for the act, below spans on which it passed and from which it passes
pub record IsKnownBelow (passed : List (Option Passed)) (k : Kind) (above within : Span) : Type 0 where
  pub spans : Passed
  pub noted : passed_at passed k ≡ Some spans
  pub allows : Allows spans above
  pub is : within ≡ spans.within
