use Rattle.std.proofs.Common.{◌≡◌, ◌&&◌, true, take}
use Rattle.std.specs.List.{list_all}
use Rattle.batch_reader.specs.{ChartForm.names_compared, Naming.is_declared}
use Rattle.batch_recipe.specs.{Diagram.diagram_of, WellFormed.is_among}
use Rattle.batch_reader.proofs.chart_names.+declared.Given as goal

-- the branches so far name nothing that isn't declared
abbrev pub invariant-are_cases_declared-loop-choice : goal.invariant-are_cases_declared-loop-choice
invariant-are_cases_declared-loop-choice l =
    list_all (λ choice. list_all (is_among l.values.keys) (names_compared choice.0) && is_declared l.labels.keys l.values.keys (diagram_of choice.1)) (take l.choice-index l.choices) ≡ true

abbrev pub invariant-are_declared-loop-chart : goal.invariant-are_declared-loop-chart
invariant-are_declared-loop-chart l = list_all (λ chart. is_declared l.labels.keys l.values.keys (diagram_of chart)) (take l.chart-index l.charts) ≡ true
