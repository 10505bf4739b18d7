-- private: the names that the acts of a recipe use, and their declarations.
use Rattle.std.specs.Prelude.{Bool, ◌&&◌, List, []}
use Rattle.std.specs.List.{list_all}
use Rattle.batch_reader.specs.ChartForm.{labels_of_chart, values_of_chart}
use Rattle.batch_recipe.specs.Conditions.{Name}
use Rattle.batch_recipe.specs.Diagram.{Diagram}
use Rattle.batch_recipe.specs.WellFormed.{is_among, are_distinct, act_names, is_work}
use Rattle.batch_recipe.specs.declared.acts.Acts.{Acts}

-- the labels of a chart are among `labels`, and the names that its conditions compare among `values`
abbrev pub is_declared : List Name → List Name → Diagram → Bool
is_declared labels values chart = list_all (is_among labels) (labels_of_chart chart) && list_all (is_among values) (values_of_chart chart)

-- the names of the acts of each table differ
abbrev pub act_names_differ : Acts → Bool
act_names_differ a =
    are_distinct (act_names a.unit_procedures.items) && (are_distinct (act_names a.operations.items) && are_distinct (act_names a.phases.items))

-- the names of values differ, and those of the acts of each table
abbrev pub names_differ : List Name → Acts → Bool
names_differ values a = are_distinct values && act_names_differ a

-- each act names acts of the table below it and values alone
abbrev pub acts_are_declared : List Name → Acts → Bool
acts_are_declared values a =
    is_work (act_names a.unit_procedures.items) values a.procedure
    && (list_all (is_work (act_names a.operations.items) values) a.unit_procedures.items
    && (list_all (is_work (act_names a.phases.items) values) a.operations.items
    && list_all (is_work [] values) a.phases.items))
