use Rattle.std.proofs.Common.{take}
use Rattle.std.specs.List.{list_any}
use Rattle.batch_recipe.specs.Diagram.{diagram_of}
use Rattle.batch_warnings.specs.{LabelSets.AddsNames, Warnings.has_label}
use Rattle.batch_warnings.proofs.labels.+labels.Given as goal

-- the labels of the branches so far were added
abbrev pub invariant-add_of_choices-loop-choice : goal.invariant-add_of_choices-loop-choice
invariant-add_of_choices-loop-choice l =
    AddsNames (λ name. list_any (λ choice. has_label name (diagram_of choice.1)) (take l.choice-index l.choices)) l.initial.labels.keys l.labels.keys

abbrev pub invariant-add_of_each-loop-chart : goal.invariant-add_of_each-loop-chart
invariant-add_of_each-loop-chart l =
    AddsNames (λ name. list_any (λ chart. has_label name (diagram_of chart)) (take l.chart-index l.charts)) l.initial.labels.keys l.labels.keys
