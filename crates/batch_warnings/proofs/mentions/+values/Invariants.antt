use Rattle.std.proofs.Common.{◌≡◌, ◌||◌, false, take}
use Rattle.std.specs.List.{list_any}
use Rattle.batch_recipe.specs.Diagram.{diagram_of}
use Rattle.batch_warnings.specs.Warnings.{diagram_compares, condition_names}
use Rattle.batch_warnings.proofs.mentions.+values.Given as goal

-- no branch so far compares the value
abbrev pub invariant-any_choice_compares-loop-choice : goal.invariant-any_choice_compares-loop-choice
invariant-any_choice_compares-loop-choice l =
    list_any (λ choice. condition_names l.name choice.0 || diagram_compares l.name (diagram_of choice.1)) (take l.choice-index l.choices) ≡ false

abbrev pub invariant-any_compares-loop-chart : goal.invariant-any_compares-loop-chart
invariant-any_compares-loop-chart l = list_any (λ chart. diagram_compares l.name (diagram_of chart)) (take l.chart-index l.charts) ≡ false
