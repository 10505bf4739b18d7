-- surface: the label that made the node at a place, found by going down the charts.
use Rattle.std.specs.Prelude.{ℕ, zero, suc, List, [], ◌∷◌, Option, Some, None}
use Rattle.batch_recipe.specs.Conditions.{Name}
use Rattle.batch_recipe.specs.Diagram.{Diagram, label, skip, seq, par, sel, loop, Diagrams, none, more, Cases, otherwise, when, diagram_of}
use Rattle.batch_recipe.specs.Expanding.{act_named}
use Rattle.batch_recipe.specs.Procedure.{tables_from}
use Rattle.batch_recipe.specs.Tree.{Place}
use Rattle.batch_recipe.specs.declared.act.Act.{Act}
use Rattle.batch_recipe.specs.declared.act.Work.{Work}
use Rattle.batch_recipe.specs.declared.act.Work.TheVariants.{Follows, Runs}
use Rattle.batch_recipe.specs.declared.acts.Acts.{Acts}
use Rattle.batch_recipe.specs.declared.acts.LabelTable.TheVariants.{UnitProcedures}

-- at a place below a chart, where `named` gives that at a place below one of the chart's labels
abbrev mutual
  pub label_along : (Name → Place → Option Name) → Diagram → Place → Option Name
  label_along named (label name) q = named name q
  label_along named skip q = None
  label_along named (seq ds) [] = None
  label_along named (seq ds) (i ∷ q) = label_along_each named ds i q
  label_along named (par ds) [] = None
  label_along named (par ds) (i ∷ q) = label_along_each named ds i q
  label_along named (sel cs) [] = None
  label_along named (sel cs) (i ∷ q) = label_along_cases named cs i q
  label_along named (loop turns until d) [] = None
  label_along named (loop turns until d) (zero ∷ q) = label_along named d q
  label_along named (loop turns until d) (suc i ∷ q) = None

  -- below branch i
  pub label_along_each : (Name → Place → Option Name) → Diagrams → ℕ → Place → Option Name
  label_along_each named none i q = None
  label_along_each named (more d ds) zero q = label_along named d q
  label_along_each named (more d ds) (suc i) q = label_along_each named ds i q

  pub label_along_cases : (Name → Place → Option Name) → Cases → ℕ → Place → Option Name
  label_along_cases named (otherwise d) zero q = label_along named d q
  label_along_cases named (otherwise d) (suc i) q = None
  label_along_cases named (when c d cs) zero q = label_along named d q
  label_along_cases named (when c d cs) (suc i) q = label_along_cases named cs i q

-- below an act, whose chart is its child 0
abbrev pub label_below : (Name → Place → Option Name) → Work → ℕ → Place → Option Name
label_below named (Follows c) zero q = label_along named (diagram_of c) q
label_below named (Follows c) (suc i) q = None
label_below named (Runs phase values reports) i q = None

-- at or below a label, whose act is looked up in the first table, and the labels of its chart in the tables after it
abbrev pub label_named : List (List Act) → Name → Place → Option Name
label_named [] name [] = Some name
label_named [] name (i ∷ q) = None
label_named (table ∷ tables) name [] = Some name
label_named (table ∷ tables) name (i ∷ q) = elim (act_named table name) [ None ↦ None | Some a ↦ label_below (label_named tables) a.work i q ]

-- in a recipe; no label made the procedure, which has the recipe's name
abbrev pub label_at : Acts → Place → Option Name
label_at acts [] = None
label_at acts (zero ∷ []) = Some acts.procedure.name
label_at acts (zero ∷ i ∷ q) = label_below (label_named (tables_from acts (Some UnitProcedures))) acts.procedure.work i q
label_at acts (suc i ∷ q) = None
