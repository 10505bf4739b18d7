-- surface: the properties of a chart of the grammar, in the words of a recipe's tests.
use Rattle.std.specs.Prelude.{◌≡◌, true, List, [], ◌∷◌, ◌++◌, All}
use Rattle.std.specs.List.{list_all}
use Rattle.batch_recipe.specs.Conditions.{Name}
use Rattle.batch_recipe.specs.Diagram.{Diagram, label, skip, seq, par, sel, loop, Diagrams, none, more, Cases, otherwise, when}
use Rattle.batch_recipe.specs.WellFormed.{is_among, is_chart}
use Rattle.batch_recipe.specs.declared.chart.TheConstants.{MAX_DEPTH}
use Rattle.batch_recipe.specs.declared.condition.Condition.{Condition}
use Rattle.batch_recipe.specs.declared.condition.Term.TheVariants.{Named, Number}
use Rattle.batch_reader.specs.ChartGrammar.{IsLabel}

-- the labels of a chart, in order
abbrev mutual
  pub labels_of_chart : Diagram → List Name
  labels_of_chart (label name) = name ∷ []
  labels_of_chart skip = []
  labels_of_chart (seq ds) = labels_of_all ds
  labels_of_chart (par ds) = labels_of_all ds
  labels_of_chart (sel cs) = labels_of_chart_cases cs
  labels_of_chart (loop turns c d) = labels_of_chart d

  pub labels_of_all : Diagrams → List Name
  labels_of_all none = []
  labels_of_all (more d ds) = labels_of_chart d ++ labels_of_all ds

  pub labels_of_chart_cases : Cases → List Name
  labels_of_chart_cases (otherwise d) = labels_of_chart d
  labels_of_chart_cases (when c d cs) = labels_of_chart d ++ labels_of_chart_cases cs

-- the names that a condition compares
abbrev pub names_compared : Condition → List Name
names_compared c = c.name ∷ elim c.term [ Named name ↦ name ∷ [] | Number n ↦ [] ]

-- the names that the conditions of a chart compare, in order
abbrev mutual
  pub values_of_chart : Diagram → List Name
  values_of_chart (label name) = []
  values_of_chart skip = []
  values_of_chart (seq ds) = values_of_all ds
  values_of_chart (par ds) = values_of_all ds
  values_of_chart (sel cs) = values_of_cases cs
  values_of_chart (loop turns c d) = names_compared c ++ values_of_chart d

  pub values_of_all : Diagrams → List Name
  values_of_all none = []
  values_of_all (more d ds) = values_of_chart d ++ values_of_all ds

  pub values_of_cases : Cases → List Name
  values_of_cases (otherwise d) = values_of_chart d
  values_of_cases (when c d cs) = (names_compared c ++ values_of_chart d) ++ values_of_cases cs

-- labels and names are names and none of the six words, and if they are declared, the chart is one of a recipe:
-- nesting, branches, turns and numbers are in their limits
pub record IsFormed (chart : Diagram) : Type 0 where
  pub labels : All IsLabel (labels_of_chart chart)
  pub values : All IsLabel (values_of_chart chart)
  pub limits : (labels values : List Name) → list_all (is_among labels) (labels_of_chart chart) ≡ true → list_all (is_among values) (values_of_chart chart) ≡ true
      → is_chart labels values MAX_DEPTH chart ≡ true
