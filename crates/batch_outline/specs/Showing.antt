-- trusted: the lines of a recipe's expanded tree, one for each node, in the order of their places.
use Rattle.std.specs.Prelude.{ℕ, ◌-◌, List, [], ◌∷◌, ◌++◌, Option, Some, None, codes, decimal, find, length, map, take, nat_lt, true, false}
use Rattle.std.specs.List.{flat_map}
use Rattle.batch_recipe.specs.ActsAtNodes.{ActList, procedure_acts}
use Rattle.batch_recipe.specs.Conditions.{Name, same_name}
use Rattle.batch_recipe.specs.Expanding.{Binding}
use Rattle.batch_recipe.specs.Nodes.{Node, needs_of}
use Rattle.batch_recipe.specs.Procedure.{bound_nodes, bound_tree}
use Rattle.batch_recipe.specs.Texts.{place_text}
use Rattle.batch_recipe.specs.Tree.{Place, Tree, act, skip, seq, par, sel, loop, Task, runs, follows, Trees, no_trees, tree, Choices, otherwise, choice}
use Rattle.batch_recipe.specs.declared.act.Act.{Act}
use Rattle.batch_recipe.specs.declared.act.UnitChoice.{UnitChoice}
use Rattle.batch_recipe.specs.declared.act.UnitChoice.TheVariants.{Unit, Role}
use Rattle.batch_recipe.specs.declared.act.Work.{Work}
use Rattle.batch_recipe.specs.declared.act.Work.TheVariants.{Follows, Runs}
use Rattle.batch_recipe.specs.declared.condition.Condition.{Condition}
use Rattle.batch_recipe.specs.declared.condition.Op.{Op}
use Rattle.batch_recipe.specs.declared.condition.Op.TheVariants.{Less, AtMost, Equal, NotEqual, AtLeast, Greater}
use Rattle.batch_recipe.specs.declared.condition.Term.{Term}
use Rattle.batch_recipe.specs.declared.condition.Term.TheVariants.{Named, Number}
use Rattle.batch_recipe.specs.declared.need.Need.{Need}
use Rattle.batch_recipe.specs.declared.recipe.Recipe.{Recipe}
use Rattle.batch_recipe.specs.declared.role.Role.{Role as RecipeRole}

-- Branches of selections

-- when a node is chosen: it is no branch of a `sel`, or its condition holds, or none before it does
pub data Branch : Type 0 where
  no_branch : Branch
  chosen_if : Condition → Branch
  chosen_else : Branch

-- the branches of the nodes of a tree, in the order of the places; that of the tree itself is given
abbrev mutual
  pub branches : Branch → Tree → List Branch
  branches b (act s w) = b ∷ branches_within w
  branches b skip = b ∷ []
  branches b (seq ts) = b ∷ branches_of_each ts
  branches b (par ts) = b ∷ branches_of_each ts
  branches b (sel cs) = b ∷ branches_of_choices cs
  branches b (loop turns until t) = b ∷ branches no_branch t

  pub branches_within : Task → List Branch
  branches_within (runs phase) = []
  branches_within (follows name t) = branches no_branch t

  pub branches_of_each : Trees → List Branch
  branches_of_each no_trees = []
  branches_of_each (tree t ts) = branches no_branch t ++ branches_of_each ts

  pub branches_of_choices : Choices → List Branch
  branches_of_choices (otherwise t) = branches chosen_else t
  branches_of_choices (choice c t cs) = branches (chosen_if c) t ++ branches_of_choices cs

-- Rows

-- a node, its act, if it is one, and when it is chosen
pub record Row : Type 0 where
  pub at : Node
  pub own : Option Act
  pub branch : Branch

abbrev pub rows : List Node → ActList → List Branch → List Row
rows (n ∷ ns) (a ∷ list) (b ∷ bs) = record { at = n; own = a; branch = b } ∷ rows ns list bs
rows _ _ _ = []

-- each role stands for the unit that will take it
abbrev pub itself : Binding
itself role = role

-- the rows of the recipe's expanded tree
abbrev pub rows_of : Recipe → List Row
rows_of r = rows (bound_nodes itself r.acts) (procedure_acts r.acts) (branches no_branch (bound_tree itself r.acts))

-- Words

-- a word with a space before it
abbrev pub spaced : List ℕ → List ℕ
spaced word = codes " " ++ word

-- a heading and these words, a space before each; nothing without words
abbrev pub listed : List ℕ → List (List ℕ) → List ℕ
listed what [] = []
listed what (word ∷ words) = spaced what ++ flat_map spaced (word ∷ words)

abbrev pub op_text : Op → List ℕ
op_text Less = codes "<"
op_text AtMost = codes "<="
op_text Equal = codes "="
op_text NotEqual = codes "/="
op_text AtLeast = codes ">="
op_text Greater = codes ">"

abbrev pub term_text : Term → List ℕ
term_text (Named name) = name
term_text (Number n) = decimal n

abbrev pub condition_text : Condition → List ℕ
condition_text c = c.name ++ (codes " " ++ (op_text c.op ++ (codes " " ++ term_text c.term)))

-- a resource, and after a star the number of its units, if it is more than one
abbrev pub need_text : Need → List ℕ
need_text need = elim (nat_lt 1 need.units) [ false ↦ need.resource | true ↦ need.resource ++ (codes "*" ++ decimal need.units) ]

-- Acts

abbrev pub role_named : List RecipeRole → Name → Option RecipeRole
role_named roles name = find (λ (r : RecipeRole). same_name r.name name) roles

-- the class of a role
abbrev pub class_text : List RecipeRole → Name → List ℕ
class_text roles name = elim (role_named roles name) [ None ↦ [] | Some role ↦ codes " of " ++ role.class ]

-- on which unit, or on which role of which class
abbrev pub unit_text : List RecipeRole → Option UnitChoice → List ℕ
unit_text roles None = []
unit_text roles (Some (Unit unit)) = codes " on " ++ unit
unit_text roles (Some (Role role)) = codes " on " ++ (role ++ class_text roles role)

abbrev pub phase_text : Work → List ℕ
phase_text (Follows chart) = []
phase_text (Runs phase values reports) = codes " runs " ++ phase

-- an act below the procedure: unit procedures alone have a unit or a role, and phase steps alone run a phase
abbrev pub kind_below : Option UnitChoice → Work → List ℕ
kind_below (Some unit) work = codes "unit_procedure"
kind_below None (Follows chart) = codes "operation"
kind_below None (Runs phase values reports) = codes "phase"

-- the procedure alone has a place of one number
abbrev pub kind_text : Place → Act → List ℕ
kind_text [] a = codes "procedure"
kind_text (root ∷ []) a = codes "procedure"
kind_text (root ∷ i ∷ below) a = kind_below a.unit a.work

-- the act, of this kind, with its name, its unit, its phase, the unit procedures that it reserves, and its needs
abbrev pub act_text : List RecipeRole → List ℕ → Act → List ℕ
act_text roles kind a =
    kind ++ (spaced a.name ++ (unit_text roles a.unit ++ (phase_text a.work ++ (listed (codes "reserves") a.reserves.items
    ++ listed (codes "needs") (map need_text a.needs.items)))))

-- Lines

abbrev pub form_text : Tree → List ℕ
form_text (act s w) = []
form_text skip = codes "skip"
form_text (seq ts) = codes "seq"
form_text (par ts) = codes "par"
form_text (sel cs) = codes "sel"
form_text (loop turns until t) = codes "loop"

abbrev pub head_text : List RecipeRole → Node → Option Act → List ℕ
head_text roles at None = form_text at.here
head_text roles at (Some a) = act_text roles (kind_text at.place a) a

-- the resources that are asked for on the path above the node: those of its own needs are the last of all on its path
abbrev pub asked_above : Node → List Name
asked_above at = take (length at.asked - length (needs_of at.here)) at.asked

-- the greatest number of turns, and the condition that ends the loop
abbrev pub turns_text : Tree → List ℕ
turns_text (loop turns until t) = codes " turns " ++ (decimal turns ++ (codes " until " ++ condition_text until))
turns_text _ = []

abbrev pub branch_text : Branch → List ℕ
branch_text no_branch = []
branch_text (chosen_if c) = codes " if " ++ condition_text c
branch_text chosen_else = codes " else"

abbrev pub row_text : List RecipeRole → Row → List ℕ
row_text roles row =
    place_text row.at.place ++ (codes " " ++ (head_text roles row.at row.own ++ (listed (codes "holds") (asked_above row.at)
    ++ (turns_text row.at.here ++ (branch_text row.branch ++ codes "\n")))))

-- the recipe's name, and below it the nodes of its expanded tree
abbrev pub recipe_text : Recipe → List ℕ
recipe_text r = codes "recipe " ++ (r.acts.procedure.name ++ (codes "\n" ++ flat_map (row_text r.roles.items) (rows_of r)))

abbrev pub shown_recipes : List Recipe → List ℕ
shown_recipes recipes = flat_map recipe_text recipes
