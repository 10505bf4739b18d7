-- surface: clearance of each unit procedure by itself: on every unit that may be its own, for all choices of units of reserved ones.
use Rattle.std.specs.Prelude.{◌≡◌, ◌↔◌, ℕ, ◌+◌, List, [], ◌∷◌, map, IsTrue, Option, Some, None, ⊤}
use Rattle.batch_cell.specs.declared.cell.Cell as equipment
use Rattle.batch_recipe.specs.Conditions.{Name}
use Rattle.batch_recipe.specs.Diagram as chart
use Rattle.batch_recipe.specs.Diagram.{Diagram, Diagrams, Cases, diagram_of}
use Rattle.batch_recipe.specs.Expanding.{Binding, unbound, Sites, expanded, expanded_each, expanded_cases, task_of, act_named, asked_in_order, reserves_from, unit_named, unit_with, named_tree_with}
use Rattle.batch_recipe.specs.Needs.{resources_needed}
use Rattle.batch_recipe.specs.Nodes.{child}
use Rattle.batch_recipe.specs.Procedure.{procedure_tree}
use Rattle.batch_recipe.specs.Tree.{Place, Tree, act, skip, seq, par, sel, loop}
use Rattle.batch_recipe.specs.WellFormed.{is_among}
use Rattle.batch_recipe.specs.declared.act.Act.{Act}
use Rattle.batch_recipe.specs.declared.act.UnitChoice.{UnitChoice}
use Rattle.batch_recipe.specs.declared.act.UnitChoice.TheVariants.{Unit, Role}
use Rattle.batch_recipe.specs.declared.act.Work.{Work}
use Rattle.batch_recipe.specs.declared.act.Work.TheVariants.{Follows, Runs}
use Rattle.batch_recipe.specs.declared.recipe.Recipe as document
use Rattle.batch_model.specs.Lists.{Has, Each}
use Rattle.batch_model.specs.Plant.{Role as Declared, Setup}
use Rattle.batch_model.specs.Cleared.{Ranking, is_procedure, in_procedure, part, parts, procedure_parts, IsClear, ReservesFollow, HasCandidates, IsServed, IsClearedRecipe}
use Rattle.batch_model.specs.Recipes.{recipe_of}
use Rattle.batch_model.specs.Setups.{master_of}

-- the unit may take the role
abbrev pub MayTake : List Declared → Name → Name → Type 0
MayTake roles role unit =
    (declared : Declared) × Has roles declared × (declared.name ≡ role) × IsTrue (is_among declared.candidates unit)

-- the unit is the one chosen, or it may take the role
abbrev pub MayBe : List Declared → UnitChoice → Name → Type 0
MayBe roles (Unit own) unit = own ≡ unit
MayBe roles (Role role) unit = MayTake roles role unit

-- the unit procedure may run on the unit
abbrev pub MayRun : List Declared → Option UnitChoice → Name → Type 0
MayRun roles None unit = ⊥
MayRun roles (Some choice) unit = MayBe roles choice unit

-- the unit procedure on a unit, whose chart's labels are looked up in the tables
abbrev pub tree_on : Sites → List (List Act) → Name → Act → Place → Tree
tree_on sites tables unit a place =
    act (record {
      place = place;
      needs = asked_in_order (Some unit) (map (unit_named sites) a.reserves.items) a.needs.items;
      reserves = reserves_from 1 a.reserves.items;
    })
    (task_of (named_tree_with sites tables unit) unit a.name place a.work)

module _ (setup : Setup) (rank : Ranking) (roles : List Declared) (Serves : Binding → Type 0) (units : List Act) (tables : List (List Act)) where
  abbrev pub sites_of : Binding → Sites
  sites_of bound = record { bound = bound; unit_procedures = units }

  -- the tree of a label of the procedure's chart, if no unit takes any role
  abbrev pub label_tree : Name → Place → Tree
  label_tree = named_tree_with (sites_of unbound) (units ∷ tables) []

  -- the node itself is clear
  abbrev pub NodeIsClear : Place → List Name → Tree → Type 0
  NodeIsClear place asked chart = IsClear setup rank (part in_procedure place asked chart)

  -- the unit procedure is clear on every unit on which it may run, whatever units take the roles of those that are reserved
  abbrev pub UnitProcedureIsClear : Place → List Name → Option Act → Type 0
  UnitProcedureIsClear place asked None = NodeIsClear place asked skip
  UnitProcedureIsClear place asked (Some a) =
      (unit : Name) → MayRun roles a.unit unit → (bound : Binding) → Serves bound → unit_with bound a.unit ≡ Some unit
      → Each (IsClear setup rank) (parts in_procedure place asked (tree_on (sites_of bound) tables unit a place))

  -- in the procedure's chart, each unit procedure is so, and each node outside unit procedures is clear
  abbrev mutual
    pub ChartIsClear : Place → List Name → Diagram → Type 0
    ChartIsClear place asked (chart.label name) = UnitProcedureIsClear place asked (act_named units name)
    ChartIsClear place asked chart.skip = NodeIsClear place asked skip
    ChartIsClear place asked (chart.seq charts) =
        NodeIsClear place asked (seq (expanded_each label_tree place 0 charts)) × ChartsAreClear place asked 0 charts
    ChartIsClear place asked (chart.par charts) =
        NodeIsClear place asked (par (expanded_each label_tree place 0 charts)) × ChartsAreClear place asked 0 charts
    ChartIsClear place asked (chart.sel cases) =
        NodeIsClear place asked (sel (expanded_cases label_tree place 0 cases)) × CasesAreClear place asked 0 cases
    ChartIsClear place asked (chart.loop turns until body) =
        NodeIsClear place asked (loop turns until (expanded label_tree (child place 0) body)) × ChartIsClear (child place 0) asked body

    pub ChartsAreClear : Place → List Name → ℕ → Diagrams → Type 0
    ChartsAreClear place asked child_number chart.none = ⊤
    ChartsAreClear place asked child_number (chart.more first charts) =
        ChartIsClear (child place child_number) asked first × ChartsAreClear place asked (child_number + 1) charts

    pub CasesAreClear : Place → List Name → ℕ → Cases → Type 0
    CasesAreClear place asked child_number (chart.otherwise last) = ChartIsClear (child place child_number) asked last
    CasesAreClear place asked child_number (chart.when condition first cases) =
        ChartIsClear (child place child_number) asked first × CasesAreClear place asked (child_number + 1) cases

  abbrev pub WorkIsClear : Place → List Name → Work → Type 0
  WorkIsClear place asked (Follows drawn) = ChartIsClear (child place 0) asked (diagram_of drawn)
  WorkIsClear place asked (Runs phase values reports) = ⊤

-- each unit procedure that the procedure's chart names is clear on every unit on which it may run, by itself, and so is each
-- node outside unit procedures; each reserved unit procedure follows the act that reserves it
pub record IsClearOnEach (setup : Setup) (rank : Ranking) (cell : equipment.Cell) (recipe : document.Recipe) : Type 0 where
  pub candidates : HasCandidates (master_of cell recipe)
  pub root : IsClear setup rank (part is_procedure (0 ∷ []) [] (procedure_tree recipe.acts))
  pub chart : WorkIsClear setup rank (master_of cell recipe).roles (IsServed (master_of cell recipe)) recipe.acts.unit_procedures.items
      (recipe.acts.operations.items ∷ recipe.acts.phases.items ∷ []) (0 ∷ []) (resources_needed recipe.acts.procedure.needs.items) recipe.acts.procedure.work
  pub follow : (bound : Binding) → IsServed (master_of cell recipe) bound
      → Each (λ this_part. ReservesFollow (recipe_of recipe bound).procedure this_part.node) (procedure_parts (recipe_of recipe bound))

-- the ranking clears a recipe, for every choice of units for its roles, exactly if it is clear on each unit (`IsClearOnEach`)
abbrev pub CandidatesSuffice : Type 0
CandidatesSuffice =
    (setup : Setup) (rank : Ranking) (cell : equipment.Cell) (recipe : document.Recipe)
    → IsClearedRecipe setup rank (master_of cell recipe) ↔ IsClearOnEach setup rank cell recipe
