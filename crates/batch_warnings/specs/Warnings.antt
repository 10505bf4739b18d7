-- trusted: the parts of a cell and of a recipe that are accepted though they can hardly be meant so.
use Rattle.std.specs.Prelude.{ℕ, ◌+◌, Bool, false, ◌&&◌, ◌||◌, not, List, [], ◌∷◌, ◌++◌, map, Some, None, if◌then◌else◌}
use Rattle.std.specs.List.{list_any}
use Rattle.batch_cell.specs.Equipment.{belongs_to}
use Rattle.batch_cell.specs.declared.cell.Cell.{Cell}
use Rattle.batch_recipe.specs.Conditions.{Name, same_name}
use Rattle.batch_recipe.specs.Diagram.{Cases, Diagram, Diagrams, diagram_of, label, loop, more, none, otherwise, par, sel, seq, skip, when}
use Rattle.batch_recipe.specs.Formula.{is_in_range}
use Rattle.batch_recipe.specs.WellFormed.{is_among, reports_with}
use Rattle.batch_recipe.specs.declared.act.Act.{Act}
use Rattle.batch_recipe.specs.declared.act.UnitChoice.TheVariants.{Unit, Role}
use Rattle.batch_recipe.specs.declared.act.Work.TheVariants.{Follows, Runs}
use Rattle.batch_recipe.specs.declared.acts.Acts.{Acts}
use Rattle.batch_recipe.specs.declared.condition.Condition.{Condition}
use Rattle.batch_recipe.specs.declared.condition.Term.TheVariants.{Named, Number}
use Rattle.batch_recipe.specs.declared.acts.LabelTable.{LabelTable}
use Rattle.batch_recipe.specs.declared.acts.LabelTable.TheVariants.{UnitProcedures, Operations, Phases}
use Rattle.batch_recipe.specs.Procedure.{table_at}
use Rattle.batch_recipe.specs.declared.quantity.Quantity.{Quantity}
use Rattle.batch_recipe.specs.declared.recipe.Recipe.{Recipe}
use Rattle.batch_warnings.specs.declared.warning.QuantityTable.{QuantityTable}
use Rattle.batch_warnings.specs.declared.warning.QuantityTable.TheVariants.{Inputs, Parameters}
use Rattle.batch_warnings.specs.declared.warning.RecipeWarning.{RecipeWarning}
use Rattle.batch_warnings.specs.declared.warning.RecipeWarning.TheVariants.{UnnamedAct, ValueOutOfRange, UnreportedOutput, UnusedRole, ScaledParameter}

-- the chart has this label
abbrev mutual
  pub has_label : Name → Diagram → Bool
  has_label name (label own) = same_name name own
  has_label name skip = false
  has_label name (seq ds) = branch_has_label name ds
  has_label name (par ds) = branch_has_label name ds
  has_label name (sel cs) = choice_has_label name cs
  has_label name (loop turns c d) = has_label name d

  pub branch_has_label : Name → Diagrams → Bool
  branch_has_label name none = false
  branch_has_label name (more d ds) = has_label name d || branch_has_label name ds

  pub choice_has_label : Name → Cases → Bool
  choice_has_label name (otherwise d) = has_label name d
  choice_has_label name (when c d cs) = has_label name d || choice_has_label name cs

-- the condition compares the value of this name
abbrev pub condition_names : Name → Condition → Bool
condition_names name c = same_name name c.name || elim c.term [ Named other ↦ same_name name other | Number n ↦ false ]

-- a condition of the chart does
abbrev mutual
  pub diagram_compares : Name → Diagram → Bool
  diagram_compares name (label own) = false
  diagram_compares name skip = false
  diagram_compares name (seq ds) = branch_compares name ds
  diagram_compares name (par ds) = branch_compares name ds
  diagram_compares name (sel cs) = choice_compares name cs
  diagram_compares name (loop turns c d) = condition_names name c || diagram_compares name d

  pub branch_compares : Name → Diagrams → Bool
  branch_compares name none = false
  branch_compares name (more d ds) = diagram_compares name d || branch_compares name ds

  pub choice_compares : Name → Cases → Bool
  choice_compares name (otherwise d) = diagram_compares name d
  choice_compares name (when c d cs) = (condition_names name c || diagram_compares name d) || choice_compares name cs

abbrev pub act_has_label : Name → Act → Bool
act_has_label name a = elim a.work [ Follows c ↦ has_label name (diagram_of c) | Runs phase values reports ↦ false ]

abbrev pub act_compares : Name → Act → Bool
act_compares name a = elim a.work [ Follows c ↦ diagram_compares name (diagram_of c) | Runs phase values reports ↦ false ]

-- the acts whose labels name those of a table
abbrev pub acts_above : Acts → LabelTable → List Act
acts_above acts UnitProcedures = acts.procedure ∷ []
acts_above acts Operations = acts.unit_procedures.items
acts_above acts Phases = acts.operations.items

abbrev pub is_named : Acts → LabelTable → Act → Bool
is_named acts table a = list_any (act_has_label a.name) (acts_above acts table)

abbrev pub is_compared : Acts → Name → Bool
is_compared acts name =
    (act_compares name acts.procedure || list_any (act_compares name) acts.unit_procedures.items) || list_any (act_compares name) acts.operations.items

abbrev pub act_reports : Name → Act → Bool
act_reports name a = is_among (reports_with a.work) name

abbrev pub takes_role : Name → Act → Bool
takes_role name a = elim a.unit [ None ↦ false | Some choice ↦ elim choice [ Unit unit ↦ false | Role role ↦ same_name name role ] ]

abbrev pub takes_value : Name → Act → Bool
takes_value name a = elim a.work [ Follows c ↦ false | Runs phase values reports ↦ is_among values.items name ]

-- the numbers, counted from n, of those that pass
abbrev pub numbers_passing : {X : Type 0} → (X → Bool) → ℕ → List X → List ℕ
numbers_passing p n [] = []
numbers_passing p n (x ∷ xs) = if p x then n ∷ numbers_passing p (n + 1) xs else numbers_passing p (n + 1) xs

abbrev pub unnamed_in : Acts → LabelTable → List RecipeWarning
unnamed_in acts table = map (UnnamedAct table) (numbers_passing (λ a. not (is_named acts table a)) 0 (table_at acts table))

abbrev pub quantities_in : Recipe → QuantityTable → List Quantity
quantities_in r Inputs = r.inputs.items
quantities_in r Parameters = r.parameters.items

abbrev pub out_of_range : Recipe → QuantityTable → List RecipeWarning
out_of_range r table = map (ValueOutOfRange table) (numbers_passing (λ q. not (is_in_range r.basis r.basis q)) 0 (quantities_in r table))

abbrev pub unreported : Recipe → List RecipeWarning
unreported r = map UnreportedOutput
    (numbers_passing (λ name. is_compared r.acts name && not (list_any (act_reports name) r.acts.phases.items)) 0 r.outputs.items)

abbrev pub unused_roles : Recipe → List RecipeWarning
unused_roles r = map UnusedRole (numbers_passing (λ role. not (list_any (takes_role role.name) r.acts.unit_procedures.items)) 0 r.roles.items)

abbrev pub scaled_parameters : Recipe → List RecipeWarning
scaled_parameters r = map ScaledParameter
    (numbers_passing (λ q. not q.fixed && list_any (takes_value q.name) r.acts.phases.items) 0 r.parameters.items)

-- the warnings on a recipe, in their order
abbrev pub warnings_of : Recipe → List RecipeWarning
warnings_of r =
    unnamed_in r.acts UnitProcedures ++ unnamed_in r.acts Operations ++ unnamed_in r.acts Phases
    ++ out_of_range r Inputs ++ out_of_range r Parameters ++ unreported r ++ unused_roles r ++ scaled_parameters r

-- the numbers of a cell's units to which no module belongs
abbrev pub units_without_modules : Cell → List ℕ
units_without_modules cell = numbers_passing (λ u. not (list_any (belongs_to u.name) cell.modules.items)) 0 cell.units.items
