-- worked rows: which recipes are cleared.
use Rattle.std.specs.Prelude.{◌<◌, List, [], ◌∷◌, map, length, true, false, codes}
use Rattle.batch_recipe.specs.Conditions.{Name, same_name}
use Rattle.batch_recipe.specs.Diagram.{Diagram, label, skip, seq, par, sel, loop, otherwise, when, diagrams_of}
use Rattle.batch_recipe.specs.Needs.{one_unit}
use Rattle.batch_recipe.specs.declared.need.Need.{Need}
use Rattle.batch_model.specs.Plant.{Recipe, Master, plain, Setup}
use Rattle.batch_examples.specs.RowDocuments.{r1, r2, hdr, add, make, charge, Entry, phase_step, chart_act, recipe_with, recipe_with_x, add_step, making, x_above_0, x_is_1, recipe_p, recipe_q, recipe_j, cell, narrow_cell, recipe_y, master_b, master_c, in_role}
use Rattle.batch_examples.specs.RowDemo as demo
use Rattle.batch_model.specs.Cleared.{Ranking, IsCleared, CanBeCleared}

abbrev pub with_recipes : List Recipe → Setup
with_recipes recipes = record cell { recipes = map plain recipes }

-- STEAM has one user as well
abbrev pub narrow : Setup
narrow = record narrow_cell { recipes = plain recipe_p ∷ plain recipe_q ∷ [] }

-- the units before the header and steam
abbrev pub units_first : Ranking
units_first r = elim (same_name r r1) [ true ↦ 1 | false ↦ elim (same_name r r2) [ true ↦ 1 | false ↦ 2 ] ]

-- the ranking that has the units first clears them
abbrev pub AreCleared : List Recipe → Type 0
AreCleared recipes = IsCleared (with_recipes recipes) units_first

-- no ranking clears them
abbrev pub AreRefused : List Recipe → Type 0
AreRefused recipes = (rank : Ranking) → ¬ (IsCleared (with_recipes recipes) rank)

abbrev pub CrossedBranchesAreCleared : Type 0
CrossedBranchesAreCleared = IsCleared narrow units_first

-- a phase that needs HDR and HDR
abbrev pub recipe_n : Recipe
recipe_n = recipe_with (codes "N") [] [] (making (codes "N") charge (phase_step add (one_unit hdr ∷ one_unit hdr ∷ []) r1 add [] ∷ []) (label add))

abbrev pub SameResourceTwice : Type 0
SameResourceTwice = CanBeCleared (with_recipes (recipe_n ∷ [])) → ⊥

abbrev pub charging : Entry
charging = chart_act charge [] (add_step r1 ∷ []) (label add)

-- R1, then HDR
abbrev pub recipe_g : Recipe
recipe_g = recipe_with (codes "G") [] [] (chart_act (codes "G") [] (chart_act make (one_unit r1 ∷ one_unit hdr ∷ []) (charging ∷ []) (label charge) ∷ []) (label make))

-- HDR, then R1
abbrev pub recipe_h : Recipe
recipe_h = recipe_with (codes "H") [] [] (chart_act (codes "H") (one_unit hdr ∷ []) (chart_act make (one_unit r1 ∷ []) (charging ∷ []) (label charge) ∷ []) (label make))

abbrev pub header_first : Ranking
header_first r = elim (same_name r hdr) [ true ↦ 1 | false ↦ 2 ]

abbrev pub FirstOrderIsCleared : Type 0
FirstOrderIsCleared = IsCleared (with_recipes (recipe_g ∷ [])) units_first

abbrev pub SecondOrderIsCleared : Type 0
SecondOrderIsCleared = IsCleared (with_recipes (recipe_h ∷ [])) header_first

abbrev pub OppositeOrders : Type 0
OppositeOrders = CanBeCleared (with_recipes (recipe_g ∷ recipe_h ∷ [])) → ⊥

abbrev pub EqualRanks : Type 0
EqualRanks = IsCleared (with_recipes (recipe_g ∷ [])) (λ r. 1) → ⊥

abbrev pub ElseBranchHasTheCircle : Type 0
ElseBranchHasTheCircle = CanBeCleared (with_recipes (recipe_j ∷ [])) → ⊥

-- two steps that both run ADD, side by side
abbrev pub recipe_twice : Recipe
recipe_twice =
    recipe_with (codes "TWICE") [] []
    (making (codes "TWICE") charge (add_step r1 ∷ phase_step (codes "MORE") [] r1 add [] ∷ [])
    (par (diagrams_of (label add ∷ label (codes "MORE") ∷ []))))

abbrev pub SamePhaseInParallel : Type 0
SamePhaseInParallel = CanBeCleared (with_recipes (recipe_twice ∷ [])) → ⊥

-- three turns of nothing
abbrev pub recipe_idle : Recipe
recipe_idle = recipe_with_x (codes "IDLE") (making (codes "IDLE") charge [] (loop 3 x_above_0 skip))

abbrev pub EveryTurnRunsAPhase : Type 0
EveryTurnRunsAPhase = CanBeCleared (with_recipes (recipe_idle ∷ [])) → ⊥

-- The turns of a loop

-- three turns at most, which follow a chart of the step ADD
abbrev pub turns : Diagram → Recipe
turns body = recipe_with_x (codes "TURNS") (making (codes "TURNS") charge (add_step r1 ∷ []) (loop 3 x_above_0 body))

abbrev pub FirstBranchRunsNothing : Type 0
FirstBranchRunsNothing = AreRefused (turns (sel (when x_is_1 skip (otherwise (label add)))) ∷ [])

abbrev pub LastBranchRunsNothing : Type 0
LastBranchRunsNothing = AreRefused (turns (sel (when x_is_1 (label add) (otherwise skip))) ∷ [])

abbrev pub EachBranchRunsAPhase : Type 0
EachBranchRunsAPhase = AreCleared (turns (sel (when x_is_1 (label add) (otherwise (label add)))) ∷ [])

abbrev pub OneOfASeqRunsAPhase : Type 0
OneOfASeqRunsAPhase = AreCleared (turns (seq (diagrams_of (skip ∷ label add ∷ []))) ∷ [])

abbrev pub NoneOfASeqRunsAPhase : Type 0
NoneOfASeqRunsAPhase = AreRefused (turns (seq (diagrams_of (skip ∷ skip ∷ []))) ∷ [])

abbrev pub OneOfAParRunsAPhase : Type 0
OneOfAParRunsAPhase = AreCleared (turns (par (diagrams_of (skip ∷ label add ∷ []))) ∷ [])

abbrev pub NoneOfAParRunsAPhase : Type 0
NoneOfAParRunsAPhase = AreRefused (turns (par (diagrams_of (skip ∷ skip ∷ []))) ∷ [])

abbrev pub TurnsWithinTurns : Type 0
TurnsWithinTurns = AreCleared (turns (loop 3 x_is_1 (label add)) ∷ [])

-- three turns of an operation at most, which follows a chart of the step ADD
abbrev pub operation_turns : Diagram → Recipe
operation_turns d =
    recipe_with_x (codes "TURNS")
    (chart_act (codes "TURNS") []
    (chart_act make (one_unit r1 ∷ []) (chart_act charge [] (add_step r1 ∷ []) d ∷ []) (loop 3 x_above_0 (label charge)) ∷ [])
    (label make))

abbrev pub OperationRunsAPhase : Type 0
OperationRunsAPhase = AreCleared (operation_turns (label add) ∷ [])

abbrev pub OperationMayRunNothing : Type 0
OperationMayRunNothing = AreRefused (operation_turns (sel (when x_is_1 (label add) (otherwise skip))) ∷ [])

-- The resources of a cell

-- one phase, with needs of the procedure, further ones of the unit procedure, and those of the operation and of the phase step
abbrev pub recipe_needing : List Need → List Need → List Need → List Need → Recipe
recipe_needing of_procedure of_unit_procedure of_operation of_step =
    recipe_with (codes "NEEDS") [] []
    (chart_act (codes "NEEDS") of_procedure
    (chart_act make (one_unit r1 ∷ of_unit_procedure) (chart_act charge of_operation (phase_step add of_step r1 add [] ∷ []) (label add) ∷ []) (label charge)
    ∷ [])
    (label make))

-- no resource of the cell
abbrev pub water : Name
water = codes "WATER"

abbrev pub ProcedureNeedsWater : Type 0
ProcedureNeedsWater = AreRefused (recipe_needing (one_unit water ∷ []) [] [] [] ∷ [])

abbrev pub UnitProcedureNeedsWater : Type 0
UnitProcedureNeedsWater = AreRefused (recipe_needing [] (one_unit water ∷ []) [] [] ∷ [])

abbrev pub OperationNeedsWater : Type 0
OperationNeedsWater = AreRefused (recipe_needing [] [] (one_unit water ∷ []) [] ∷ [])

abbrev pub StepNeedsWater : Type 0
StepNeedsWater = AreRefused (recipe_needing [] [] [] (one_unit water ∷ []) ∷ [])

abbrev pub AllUnits : Type 0
AllUnits = AreCleared (recipe_y 2 ∷ [])

abbrev pub MoreUnitsThanThereAre : Type 0
MoreUnitsThanThereAre = AreRefused (recipe_y 3 ∷ [])

-- Roles

abbrev pub with_master : Master → Setup
with_master master = record cell { recipes = master ∷ [] }

-- whichever unit takes the role
abbrev pub EachUnitMayTakeTheRole : Type 0
EachUnitMayTakeTheRole = IsCleared (with_master master_b) units_first

-- one of the units is held already when the unit procedure asks for it
abbrev pub OneUnitMayNot : Type 0
OneUnitMayNot = (rank : Ranking) → ¬ (IsCleared (with_master master_c) rank)

-- a resource that is no unit
abbrev pub HeaderMayNot : Type 0
HeaderMayNot = (rank : Ranking) → ¬ (IsCleared (with_master (in_role (codes "B") (r1 ∷ hdr ∷ []) [])) rank)

abbrev pub NoUnitMay : Type 0
NoUnitMay = (rank : Ranking) → ¬ (IsCleared (with_master (in_role (codes "B") [] [])) rank)

-- a unit procedure on a resource, with nothing to do
abbrev pub recipe_resting_on : Name → Recipe
recipe_resting_on resource =
    recipe_with (codes "RESTS") [] [] (chart_act (codes "RESTS") [] (chart_act make (one_unit resource ∷ []) [] skip ∷ []) (label make))

abbrev pub UnitIsAUnit : Type 0
UnitIsAUnit = AreCleared (recipe_resting_on r1 ∷ [])

abbrev pub HeaderAsUnit : Type 0
HeaderAsUnit = AreRefused (recipe_resting_on hdr ∷ [])

-- a phase that no unit offers
abbrev pub mix : Name
mix = codes "MIX"

abbrev pub PhaseIsNotOffered : Type 0
PhaseIsNotOffered = AreRefused (recipe_with mix [] [] (making mix charge (phase_step mix [] r1 mix [] ∷ []) (label mix)) ∷ [])

-- Sets of recipes

abbrev pub DemoIsCleared : Type 0
DemoIsCleared = AreCleared (demo.recipe ∷ [])

abbrev pub SameRecipeTwice : Type 0
SameRecipeTwice = AreRefused (demo.recipe ∷ demo.recipe ∷ [])

abbrev pub MoreThan256Recipes : Type 0
MoreThan256Recipes = (recipes : List Recipe) → 256 < length recipes → AreRefused recipes
