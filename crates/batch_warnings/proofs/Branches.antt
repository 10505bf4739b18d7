-- The labels and values that a chart names, branch by branch.
use Rattle.std.proofs.Common.{arith, ◌≡◌, Bool, ◌||◌, List, [], ◌∷◌, map, refl}
use Rattle.std.specs.List.{list_any}
use Rattle.batch_recipe.specs.{Conditions.Name, Diagram.Diagram, Diagram.seq, Diagram.sel, Diagram.diagram_of, Diagram.diagrams_of, Diagram.cases_of, declared.chart.Chart.Chart, declared.condition.Condition.Condition}
use Rattle.batch_warnings.specs.Warnings.{diagram_compares, condition_names, has_label}

either : (a b c : Bool) → ((a || b) || c) ≡ (a || (b || c))
either a b c = grind (arith)

module _ (name : Name) where
  -- the branches of a `seq` or `par`
  pub branches_labelled : (charts : List Chart)
      → list_any (λ chart. has_label name (diagram_of chart)) charts ≡ has_label name (seq (diagrams_of (map diagram_of charts)))
  branches_labelled [] = refl
  branches_labelled (c ∷ cs) = grind (arith, branches_labelled cs)

  -- the branches of a `sel`
  pub choices_labelled : (choices : List (Condition × Chart)) (last : Diagram)
      → (list_any (λ choice. has_label name (diagram_of choice.1)) choices || has_label name last)
      ≡ has_label name (sel (cases_of (map (λ choice. (choice.0, diagram_of choice.1)) choices) last))
  choices_labelled [] last = refl
  choices_labelled (c ∷ cs) last = grind (arith, choices_labelled cs last, either)

  pub branches_compare : (charts : List Chart)
      → list_any (λ chart. diagram_compares name (diagram_of chart)) charts ≡ diagram_compares name (seq (diagrams_of (map diagram_of charts)))
  branches_compare [] = refl
  branches_compare (c ∷ cs) = grind (arith, branches_compare cs)

  pub choices_compare : (choices : List (Condition × Chart)) (last : Diagram)
      → (list_any (λ choice. condition_names name choice.0 || diagram_compares name (diagram_of choice.1)) choices || diagram_compares name last)
      ≡ diagram_compares name (sel (cases_of (map (λ choice. (choice.0, diagram_of choice.1)) choices) last))
  choices_compare [] last = refl
  choices_compare (c ∷ cs) last = grind (arith, choices_compare cs last, either)
