-- Names that are added to a set.
use Rattle.std.proofs.Common.{arith, ◌≡◌, Bool, ◌||◌, List, ap, ◌∙◌}
use Rattle.std.specs.Borrow.{Bor}
use Rattle.batch_recipe.specs.Conditions.{Name}
use Rattle.batch_warnings.specs.LabelSets.{AddsNames, holds_name}

either : (a b c : Bool) → ((a || b) || c) ≡ (a || (b || c))
either a b c = grind (arith)

module _ (p q : Name → Bool) (a b : List (Bor Name)) where
  -- by another test that gives the same
  pub adds-as : ((name : Name) → p name ≡ q name) → AddsNames p a b → AddsNames q a b
  adds-as same adds name = adds name ∙ ap (λ t. holds_name a name || t) (same name)

  -- by two tests, one after the other
  pub adds-both : (c : List (Bor Name)) → AddsNames p a b → AddsNames q b c → AddsNames (λ name. p name || q name) a c
  adds-both c adds more name = more name ∙ ap (λ t. t || q name) (adds name) ∙ either (holds_name a name) (p name) (q name)
