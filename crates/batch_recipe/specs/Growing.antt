-- surface: the entries that acts grow to, chart by chart, each label looked up once, and their conditions.
use Rattle.std.specs.Prelude.{◌≡◌, ◌≤◌, ◌<◌, ℕ, ◌+◌, List, [], ◌∷◌, ◌++◌, length, map, position, slice_get, Option, Some, None, Result, Ok, Err, ⊤}
use Rattle.batch_recipe.specs.Conditions.{Name, same_name}
use Rattle.batch_recipe.specs.Diagram.{Diagram, label, skip, seq, par, sel, loop, Diagrams, none, more, Cases, otherwise, when, diagram_of, diagrams_of, cases_of}
use Rattle.batch_recipe.specs.Procedure.{table_at}
use Rattle.batch_recipe.specs.declared.act.Act.{Act}
use Rattle.batch_recipe.specs.Expanding.{unit_count}
use Rattle.batch_recipe.specs.declared.act.Work.{Work}
use Rattle.batch_recipe.specs.declared.act.Work.TheVariants.{Follows, Runs}
use Rattle.batch_recipe.specs.declared.acts.Acts.{Acts}
use Rattle.batch_recipe.specs.declared.acts.LabelTable.{LabelTable}
use Rattle.batch_recipe.specs.declared.acts.LabelTable.TheVariants.{UnitProcedures, Operations, Phases}
use Rattle.batch_recipe.specs.declared.chart.Chart.{Chart}
use Rattle.batch_recipe.specs.declared.condition.Condition.{Condition}
use Rattle.batch_recipe.specs.declared.entry.Entry.{Entry}
use Rattle.batch_recipe.specs.declared.entry.Kind.{Kind}
use Rattle.batch_recipe.specs.declared.entry.Kind.TheVariants as kind
use Rattle.batch_recipe.specs.declared.outline_fault.OutlineFault.{OutlineFault}
use Rattle.batch_recipe.specs.declared.outline_fault.OutlineFault.TheVariants.{TooMany, Memory}
use Rattle.batch_recipe.specs.declared.recipe.TheConstants.{MAX_NODES}

-- the head of an entry: its kind, its count of needs and its detail
pub record Head : Type 0 where
  pub kind : Kind
  pub needs : ℕ
  pub detail : ℕ

-- the head of a node that is no act
abbrev pub plain_head : Kind → ℕ → Head
plain_head k o = record { kind = k; needs = 0; detail = o }

abbrev pub entry : Head → ℕ → ℕ → ℕ → Entry
entry h m u i = record { kind = h.kind; end = m; parent = u; child = i; needs = h.needs; detail = h.detail }

-- a node at n, and those below it
abbrev pub topped : Head → ℕ → ℕ → ℕ → List Entry → List Entry
topped h n u i below = entry h (n + 1 + length below) u i ∷ below

abbrev pub bare_entries : ℕ → ℕ → ℕ → List Entry
bare_entries n u i = entry (plain_head kind.Skip 0) (n + 1) u i ∷ []

-- how many needs an act has, its unit and those that it reserves among them
abbrev pub needs_count : Act → ℕ
needs_count a = length a.needs.items + length a.reserves.items + unit_count a.unit

-- the unit procedure of an act, where those above it stand under o
abbrev pub unit_number : LabelTable → ℕ → ℕ → ℕ
unit_number UnitProcedures k o = k
unit_number Operations k o = o
unit_number Phases k o = o

-- the entries of a label, from n on, as child i of u, after j conditions
abbrev pub Labels : Type 0
Labels = Name → ℕ → ℕ → ℕ → ℕ → List Entry

abbrev pub LabelConditions : Type 0
LabelConditions = Name → List Condition

-- Conditions in the order of their nodes

abbrev pub conditions_of_cases : Cases → List Condition
conditions_of_cases (otherwise d) = []
conditions_of_cases (when c d cs) = c ∷ conditions_of_cases cs

abbrev mutual
  pub conditions_along : LabelConditions → Diagram → List Condition
  conditions_along told (label name) = told name
  conditions_along told skip = []
  conditions_along told (seq ds) = conditions_along_each told ds
  conditions_along told (par ds) = conditions_along_each told ds
  conditions_along told (sel cs) = conditions_of_cases cs ++ conditions_along_cases told cs
  conditions_along told (loop turns until d) = until ∷ conditions_along told d

  pub conditions_along_each : LabelConditions → Diagrams → List Condition
  conditions_along_each told none = []
  conditions_along_each told (more d ds) = conditions_along told d ++ conditions_along_each told ds

  pub conditions_along_cases : LabelConditions → Cases → List Condition
  conditions_along_cases told (otherwise d) = conditions_along told d
  conditions_along_cases told (when c d cs) = conditions_along told d ++ conditions_along_cases told cs

abbrev pub conditions_below : LabelConditions → Work → List Condition
conditions_below told (Follows c) = conditions_along told (diagram_of c)
conditions_below told (Runs phase values reports) = []

-- the number of the act that a label names
abbrev pub number_in : List Act → Name → Option ℕ
number_in table name = position (λ a. same_name a.name name) table

abbrev pub conditions_named : Acts → List LabelTable → LabelConditions
conditions_named acts [] name = []
conditions_named acts (level ∷ levels) name = elim (number_in (table_at acts level) name) [
  | None ↦ []
  | Some k ↦ elim (slice_get (table_at acts level) k) [ None ↦ [] | Some a ↦ conditions_below (conditions_named acts levels) a.work ]
]

-- Entries

abbrev mutual
  pub grown : LabelConditions → Labels → ℕ → ℕ → ℕ → ℕ → Diagram → List Entry
  grown told named n j u i (label name) = named name n j u i
  grown told named n j u i skip = bare_entries n u i
  grown told named n j u i (seq ds) = topped (plain_head kind.Seq 0) n u i (grown_each told named (n + 1) j n 0 ds)
  grown told named n j u i (par ds) = topped (plain_head kind.Par 0) n u i (grown_each told named (n + 1) j n 0 ds)
  grown told named n j u i (sel cs) = topped (plain_head kind.Sel j) n u i (grown_cases told named (n + 1) (j + length (conditions_of_cases cs)) n 0 cs)
  grown told named n j u i (loop turns until d) = topped (plain_head (kind.Loop turns) j) n u i (grown told named (n + 1) (j + 1) n 0 d)

  pub grown_each : LabelConditions → Labels → ℕ → ℕ → ℕ → ℕ → Diagrams → List Entry
  grown_each told named n j u i none = []
  grown_each told named n j u i (more d ds) =
      grown told named n j u i d ++ grown_each told named (n + length (grown told named n j u i d)) (j + length (conditions_along told d)) u (i + 1) ds

  pub grown_cases : LabelConditions → Labels → ℕ → ℕ → ℕ → ℕ → Cases → List Entry
  grown_cases told named n j u i (otherwise d) = grown told named n j u i d
  grown_cases told named n j u i (when c d cs) =
      grown told named n j u i d ++ grown_cases told named (n + length (grown told named n j u i d)) (j + length (conditions_along told d)) u (i + 1) cs

abbrev pub grown_work : LabelConditions → Labels → ℕ → ℕ → Work → List Entry
grown_work told named n j (Follows c) = grown told named (n + 1) j n 0 (diagram_of c)
grown_work told named n j (Runs phase values reports) = []

-- the head of an act under the unit procedure o
abbrev pub act_head : Kind → ℕ → Act → Head
act_head k o a = record { kind = k; needs = needs_count a; detail = o }

abbrev pub grown_act : LabelConditions → Labels → Kind → ℕ → ℕ → ℕ → ℕ → ℕ → Act → List Entry
grown_act told named k o n j u i a = topped (act_head k o a) n u i (grown_work told named n j a.work)

abbrev pub levels_from : Option LabelTable → List LabelTable
levels_from None = []
levels_from (Some UnitProcedures) = UnitProcedures ∷ Operations ∷ Phases ∷ []
levels_from (Some Operations) = Operations ∷ Phases ∷ []
levels_from (Some Phases) = Phases ∷ []

-- the entries that labels stand for below the unit procedure o
abbrev pub grown_named : Acts → List LabelTable → ℕ → Labels
grown_named acts [] o name n j u i = bare_entries n u i
grown_named acts (level ∷ levels) o name n j u i = elim (number_in (table_at acts level) name) [
  | None ↦ bare_entries n u i
  | Some k ↦ elim (slice_get (table_at acts level) k) [
    | None ↦ bare_entries n u i
    | Some a ↦ grown_act (conditions_named acts levels) (grown_named acts levels (unit_number level k o)) (kind.Act level k) (unit_number level k o) n j u i a
  ]
]

-- The entries of a recipe's acts, from a level on

abbrev pub told_from : Acts → Option LabelTable → LabelConditions
told_from acts level = conditions_named acts (levels_from level)

abbrev pub named_from : Acts → Option LabelTable → ℕ → Labels
named_from acts level o = grown_named acts (levels_from level) o

abbrev pub act_entries : Acts → Option LabelTable → Kind → ℕ → ℕ → ℕ → ℕ → ℕ → Act → List Entry
act_entries acts level k o n j u i a = grown_act (told_from acts level) (named_from acts level o) k o n j u i a

abbrev pub act_conditions : Acts → Option LabelTable → Act → List Condition
act_conditions acts level a = conditions_below (told_from acts level) a.work

abbrev pub chart_entries : Acts → Option LabelTable → ℕ → ℕ → ℕ → ℕ → ℕ → Diagram → List Entry
chart_entries acts level o n j u i d = grown (told_from acts level) (named_from acts level o) n j u i d

abbrev pub chart_conditions : Acts → Option LabelTable → Diagram → List Condition
chart_conditions acts level d = conditions_along (told_from acts level) d

abbrev pub branch_entries : Acts → Option LabelTable → ℕ → ℕ → ℕ → ℕ → ℕ → List Diagram → List Entry
branch_entries acts level o n j u i ds = grown_each (told_from acts level) (named_from acts level o) n j u i (diagrams_of ds)

abbrev pub branch_conditions : Acts → Option LabelTable → List Diagram → List Condition
branch_conditions acts level ds = conditions_along_each (told_from acts level) (diagrams_of ds)

-- a node and its branches
abbrev pub parts_entries : Acts → Option LabelTable → Kind → ℕ → ℕ → ℕ → ℕ → ℕ → List Diagram → List Entry
parts_entries acts level k o n j u i ds = topped (plain_head k 0) n u i (branch_entries acts level o (n + 1) j n 0 ds)

-- the cases of a selection
abbrev pub choice_cases : List (Condition × Chart) → Chart → Cases
choice_cases choices last = cases_of (map (λ choice. (choice.0, diagram_of choice.1)) choices) (diagram_of last)

abbrev pub choice_entries : Acts → Option LabelTable → ℕ → ℕ → ℕ → ℕ → ℕ → List (Condition × Chart) → Chart → List Entry
choice_entries acts level o n j u i choices last = grown_cases (told_from acts level) (named_from acts level o) n j u i (choice_cases choices last)

abbrev pub choice_conditions : Acts → Option LabelTable → List (Condition × Chart) → Chart → List Condition
choice_conditions acts level choices last = conditions_along_cases (told_from acts level) (choice_cases choices last)

-- the entries of a recipe's outline
abbrev pub entries_of : Acts → List Entry
entries_of acts = act_entries acts (Some UnitProcedures) kind.Procedure 0 0 0 0 0 acts.procedure

-- and its conditions
abbrev pub conditions_of : Acts → List Condition
conditions_of acts = act_conditions acts (Some UnitProcedures) acts.procedure

-- all these entries were added to those before, or there are too many
abbrev pub HasGrown : List Entry → List Entry → List Entry → Result (Unit {0}) OutlineFault → Type 0
HasGrown before es after (Ok _) = (after ≡ before ++ es) × (length after ≤ MAX_NODES)
HasGrown before es after (Err TooMany) = MAX_NODES < length before + length es
HasGrown before es after (Err Memory) = ⊤

abbrev pub HasAdded : List Condition → List Condition → List Condition → Result (Unit {0}) OutlineFault → Type 0
HasAdded before cs after (Ok _) = after ≡ before ++ cs
HasAdded before cs after (Err fault) = ⊤

abbrev pub HasBegun : List Entry → Head → ℕ → ℕ → List Entry → Result ℕ OutlineFault → Type 0
HasBegun before h u i after (Ok n) = (n ≡ length before) × (after ≡ before ++ entry h (n + 1) u i ∷ []) × (length after ≤ MAX_NODES)
HasBegun before h u i after (Err TooMany) = MAX_NODES ≤ length before
HasBegun before h u i after (Err Memory) = ⊤

-- the node's end is that of the list
abbrev pub HasEnded : List Entry → ℕ → List Entry → Type 0
HasEnded before n after = (front below : List Entry) (h : Head) (m u i : ℕ) → before ≡ front ++ entry h m u i ∷ below → length front ≡ n
    → after ≡ front ++ entry h (length before) u i ∷ below
