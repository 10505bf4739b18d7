-- private: the lines along charts, as they are written.
use Rattle.std.specs.Prelude.{ℕ, ◌+◌, List, [], ◌∷◌, ◌++◌, map, Option, Some, None, codes, decimal}
use Rattle.std.specs.List.{flat_map}
use Rattle.batch_recipe.specs.Conditions.{Name}
use Rattle.batch_recipe.specs.Diagram.{Diagram, label, skip, seq, par, sel, loop, Diagrams, none, more, Cases, otherwise, when, diagram_of, diagrams_of, cases_of}
use Rattle.batch_recipe.specs.Expanding.{act_named, unit_chosen, unit_named}
use Rattle.batch_recipe.specs.Procedure.{sites, tables_from}
use Rattle.batch_recipe.specs.declared.act.Act.{Act}
use Rattle.batch_recipe.specs.declared.act.UnitChoice.{UnitChoice}
use Rattle.batch_recipe.specs.declared.act.Work.{Work}
use Rattle.batch_recipe.specs.declared.act.Work.TheVariants.{Follows, Runs}
use Rattle.batch_recipe.specs.declared.acts.Acts.{Acts}
use Rattle.batch_recipe.specs.declared.acts.LabelTable.{LabelTable}
use Rattle.batch_recipe.specs.declared.chart.Chart.{Chart}
use Rattle.batch_recipe.specs.declared.condition.Condition.{Condition}
use Rattle.batch_recipe.specs.declared.need.Need.{Need}
use Rattle.batch_recipe.specs.declared.recipe.Recipe.{Recipe}
use Rattle.batch_recipe.specs.declared.role.Role.{Role as RecipeRole}
use Rattle.batch_outline.specs.declared.lines.Seat as declared
use Rattle.batch_outline.specs.Showing.{act_text, condition_text, itself, kind_below, spaced}

-- the seat of a line: the text of its place, the names of the resources held above, a space before each, and when it is chosen
pub record Seat : Type 0 where
  pub place : List ℕ
  pub held : List ℕ
  pub branch : List ℕ

abbrev pub seat_of : declared.Seat → Seat
seat_of s = record { place = s.place.now; held = s.held.now; branch = s.branch.now }

-- the seat of child i, with the text of when it is chosen
abbrev pub seat_below : List ℕ → List ℕ → ℕ → List ℕ → Seat
seat_below place held i branch = record { place = place ++ (codes "." ++ decimal i); held = held; branch = branch }

abbrev pub held_text : List ℕ → List ℕ
held_text [] = []
held_text (b ∷ held) = codes " holds" ++ (b ∷ held)

-- a line: its place, this head, the resources held above, these turns, and its branch
abbrev pub line : Seat → List ℕ → List ℕ → List ℕ
line s head turns = s.place ++ (codes " " ++ (head ++ (held_text s.held ++ (turns ++ (s.branch ++ codes "\n")))))

abbrev pub plain_line : Seat → List ℕ → List ℕ
plain_line s head = line s head []

abbrev pub loop_text : ℕ → Condition → List ℕ
loop_text turns until = codes " turns " ++ (decimal turns ++ (codes " until " ++ condition_text until))

abbrev pub if_text : Condition → List ℕ
if_text c = codes " if " ++ condition_text c

-- the lines of a label at a seat
abbrev pub Labels : Type 0
Labels = Name → Seat → List ℕ

abbrev mutual
  pub along : Labels → Seat → Diagram → List ℕ
  along named s (label name) = named name s
  along named s skip = plain_line s (codes "skip")
  along named s (seq ds) = plain_line s (codes "seq") ++ along_each named s.place s.held 0 ds
  along named s (par ds) = plain_line s (codes "par") ++ along_each named s.place s.held 0 ds
  along named s (sel cs) = plain_line s (codes "sel") ++ along_cases named s.place s.held 0 cs
  along named s (loop turns until d) = line s (codes "loop") (loop_text turns until) ++ along named (seat_below s.place s.held 0 []) d

  pub along_each : Labels → List ℕ → List ℕ → ℕ → Diagrams → List ℕ
  along_each named p h i none = []
  along_each named p h i (more d ds) = along named (seat_below p h i []) d ++ along_each named p h (i + 1) ds

  pub along_cases : Labels → List ℕ → List ℕ → ℕ → Cases → List ℕ
  along_cases named p h i (otherwise d) = along named (seat_below p h i (codes " else")) d
  along_cases named p h i (when c d cs) = along named (seat_below p h i (if_text c)) d ++ along_cases named p h (i + 1) cs

-- the names of the resources that an act asks for, a space before each
abbrev pub asked_unit : Option UnitChoice → List ℕ
asked_unit None = []
asked_unit (Some own) = spaced (unit_chosen itself own)

-- the unit of the unit procedure with this name
abbrev pub unit_of_name : Acts → Name → List ℕ
unit_of_name acts name = unit_named (sites itself acts) name

abbrev pub asked_reserves : Acts → List Name → List ℕ
asked_reserves acts names = flat_map (λ (name : Name). spaced (unit_of_name acts name)) names

abbrev pub asked_needs : List Need → List ℕ
asked_needs needs = flat_map (λ (need : Need). spaced need.resource) needs

abbrev pub asked_text : Acts → Act → List ℕ
asked_text acts a = asked_unit a.unit ++ (asked_reserves acts a.reserves.items ++ asked_needs a.needs.items)

abbrev pub below_act : Labels → List ℕ → List ℕ → Work → List ℕ
below_act named p h (Follows c) = along named (seat_below p h 0 []) (diagram_of c)
below_act named p h (Runs phase values reports) = []

-- an act of this kind
abbrev pub act_lines : List RecipeRole → Acts → Labels → Seat → List ℕ → Act → List ℕ
act_lines roles acts named s kind a = plain_line s (act_text roles kind a) ++ below_act named s.place (s.held ++ asked_text acts a) a.work

abbrev pub named_lines : List RecipeRole → Acts → List (List Act) → Labels
named_lines roles acts [] name s = plain_line s (codes "skip")
named_lines roles acts (table ∷ tables) name s = elim (act_named table name) [
  | None ↦ plain_line s (codes "skip")
  | Some a ↦ act_lines roles acts (named_lines roles acts tables) s (kind_below a.unit a.work) a
]

-- The lines of a recipe, from a level on

abbrev pub labels_from : Recipe → Option LabelTable → Labels
labels_from r level = named_lines r.roles.items r.acts (tables_from r.acts level)

abbrev pub part_lines : Recipe → Option LabelTable → List ℕ → List ℕ → ℕ → List Chart → List ℕ
part_lines r level p h i parts = along_each (labels_from r level) p h i (diagrams_of (map diagram_of parts))

abbrev pub choice_lines : Recipe → Option LabelTable → List ℕ → List ℕ → ℕ → List (Condition × Chart) → Chart → List ℕ
choice_lines r level p h i choices last =
    along_cases (labels_from r level) p h i (cases_of (map (λ choice. (choice.0, diagram_of choice.1)) choices) (diagram_of last))
