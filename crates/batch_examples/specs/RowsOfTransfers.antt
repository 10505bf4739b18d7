-- worked rows: units that are passed on, and the recipes that may pass them.
use Rattle.std.specs.Prelude.{◌≡◌, ℕ, List, [], ◌∷◌, ◌++◌, map, take, drop, true, false, Some, None, codes}
use Rattle.batch_matrix.specs.declared.state.State.TheVariants.{Running, Holding, Held, Restarting, Stopping, Stopped}
use Rattle.batch_matrix.specs.declared.command.Command.TheVariants.{Start, Hold, Restart, Stop, Abort}
use Rattle.batch_matrix.specs.declared.report.Report.{Report}
use Rattle.batch_recipe.specs.Conditions.{Name, same_name}
use Rattle.batch_recipe.specs.Diagram.{Diagram, label, skip, seq, par, sel, loop, otherwise, when, diagrams_of}
use Rattle.batch_recipe.specs.Expanding.{reserves_from}
use Rattle.batch_recipe.specs.Following.{following, follower}
use Rattle.batch_recipe.specs.Needs.{one_unit}
use Rattle.batch_recipe.specs.Nodes.{Node, nodes}
use Rattle.batch_recipe.specs.Tree as node
use Rattle.batch_recipe.specs.Tree.{Place, Tree, act}
use Rattle.batch_recipe.specs.declared.need.Need.{Need}
use Rattle.batch_model.specs.Cleared.{Ranking, IsCleared, CanBeCleared}
use Rattle.batch_model.specs.Events.{Event, create, order, created, ordered, reported, new_batch}
use Rattle.batch_model.specs.Moves.{send, state, pass, release, begin, end, next}
use Rattle.batch_model.specs.Plant.{Recipe, Setup, Batch, Share, plain, holders}
use Rattle.batch_model.specs.Records.{holders_told}
use Rattle.batch_model.specs.Runs.{Out, reply, move, run}
use Rattle.batch_model.specs.Transfers.{Kept, passed_told, reserved_told, KeepsUnits}
use Rattle.batch_examples.specs.RowDemo as demo
use Rattle.batch_examples.specs.RowDocuments.{r1, r2, hdr, add, heat, make, charge, cook, Entry, phase_step, chart_act, recipe_with, recipe_with_x, add_step, heat_step, making, one_operation, x_is_1, x_above_0}
use Rattle.batch_examples.specs.RowParts.{p0, p00, p000, p001, p0000, p0010, p00000, p00100, says, starts, entered, asks, grants, releases, settled_after}

-- Documents

abbrev pub keep : Name
keep = codes "KEEP"

abbrev pub name_e : Name
name_e = codes "E"

-- an act that reserves unit procedures, each with its unit, after so many needs
abbrev pub reserving_after : ℕ → List (Name × Name) → Tree → Tree
reserving_after first reserved (act step task) =
    act (record {
      place = step.place;
      needs = take first step.needs ++ (map (λ pair. one_unit pair.1) reserved ++ drop first step.needs);
      reserves = reserves_from first (map (λ pair. pair.0) reserved);
    })
    task
reserving_after first reserved other = other

abbrev pub reserving : List (Name × Name) → Entry → Entry
reserving reserved entry = (entry.0, λ p. reserving_after 0 reserved (entry.1 p))

-- the unit procedure KEEP, of one phase HEAT
abbrev pub keeping : Name → Entry
keeping unit = chart_act keep (one_unit unit ∷ []) (chart_act cook [] (heat_step unit ∷ []) (label heat) ∷ []) (label cook)

-- the operation CHARGE on a unit, where ADD reserves KEEP
abbrev pub charging : Name → Name → Diagram → Entry
charging unit kept_on chart = chart_act charge [] (reserving ((keep, kept_on) ∷ []) (add_step unit) ∷ heat_step unit ∷ []) chart

-- the unit procedure MAKE on one unit and KEEP on another
abbrev pub two_units : Name → Name → Name → Entry → Diagram → Entry
two_units name unit kept_on operation chart =
    chart_act name [] (chart_act make (one_unit unit ∷ []) (operation ∷ []) (label charge) ∷ keeping kept_on ∷ []) chart

abbrev pub make_then_keep : Diagram
make_then_keep = seq (diagrams_of (label make ∷ label keep ∷ []))

abbrev pub recipe_on : Name → Name → Name → Recipe
recipe_on name unit kept_on = recipe_with name [] [] (two_units name unit kept_on (charging unit kept_on (label add)) make_then_keep)

-- MAKE on R1, and then KEEP on R2
abbrev pub recipe_e : Recipe
recipe_e = recipe_on name_e r1 r2

-- the same, but the operation CHARGE reserves KEEP, needs HDR as well, and follows a chart of two phases
abbrev pub recipe_e_by_charge : Recipe
recipe_e_by_charge =
    recipe_with name_e [] []
    (two_units name_e r1 r2
    (reserving ((keep, r2) ∷ []) (chart_act charge (one_unit hdr ∷ []) (add_step r1 ∷ heat_step r1 ∷ []) (seq (diagrams_of (label add ∷ label heat ∷ [])))))
    make_then_keep)

-- A on R2
abbrev pub recipe_a2 : Recipe
recipe_a2 = recipe_with (codes "A2") [] [] (one_operation r2 (codes "A2") make charge (add_step r2 ∷ []) (label add))

abbrev pub cell_of : List Recipe → Setup
cell_of recipes = record demo.demo { recipes = map plain recipes; batch_limit = 4096 }

abbrev pub two : Setup
two = cell_of (recipe_e ∷ recipe_a2 ∷ [])

-- Runs

-- the places of two phases in a `seq` below CHARGE
abbrev pub p000000 : Place
p000000 = 0 ∷ 0 ∷ 0 ∷ 0 ∷ 0 ∷ 0 ∷ []

abbrev pub p000001 : Place
p000001 = 0 ∷ 0 ∷ 0 ∷ 0 ∷ 0 ∷ 1 ∷ []

abbrev pub passes : Place → Place → Name → Out
passes place to resource = move (pass 1 place to (one_unit resource))

-- a batch of E holds its unit, and one of A2 waits for R2
abbrev pub before : List Event
before = create name_e 1000 [] ∷ create (codes "A2") 1000 [] ∷ order Start 1 ∷ order Start 2 ∷ []

abbrev pub told_before : List Out → List Out
told_before more =
    reply (created 1 name_e 1000 [])
    ∷ reply (created 2 (codes "A2") 1000 [])
    ∷ reply (ordered Start 1 Running)
    ∷ move (begin 1 p0 name_e)
    ∷ asks 1 p000 r1
    ∷ grants 1 p000 r1
    ∷ move (begin 1 p000 make)
    ∷ move (begin 1 p0000 charge)
    ∷ asks 1 p00000 r2
    ∷ grants 1 p00000 r2
    ∷ starts 1 p00000 r1 add
    ∷ reply (ordered Start 2 Running)
    ∷ move (begin 2 p0 (codes "A2"))
    ∷ asks 2 p00 r2
    ∷ more

abbrev pub add_done : Event
add_done = says r1 add Report.Done

-- R2 is passed to KEEP, and MAKE gives R1 back
abbrev pub handed_over : List Out → List Out
handed_over more = passes p00000 p001 r2 ∷ move (end 1 p0000) ∷ move (end 1 p000) ∷ releases 1 p000 r1 ∷ more

-- KEEP begins without an ask
abbrev pub kept : List Out → List Out
kept more = move (begin 1 p001 keep) ∷ move (begin 1 p0010 cook) ∷ starts 1 p00100 r2 heat ∷ more

abbrev pub UnitIsHandedOver : Type 0
UnitIsHandedOver = run two (before ++ add_done ∷ []) ≡ told_before (reply (reported r1 add Report.Done 1 p00000 Running) ∷ handed_over (kept []))

-- a batch on hold passes the unit as well, and KEEP begins once it runs
abbrev pub HeldBatchHandsOver : Type 0
HeldBatchHandsOver =
    run two (before ++ order Hold 1 ∷ add_done ∷ order Restart 1 ∷ [])
    ≡ told_before
    (reply (ordered Hold 1 Holding)
    ∷ move (send 1 p00000 (record { unit = r1; name = add; handed = []; reports = [] }) Hold)
    ∷ reply (reported r1 add Report.Done 1 p00000 Holding)
    ∷ move (state 1 Held)
    ∷ handed_over
    (reply (ordered Restart 1 Restarting)
    ∷ move (state 1 Running)
    ∷ kept []))

-- a batch that stops gives back the units that it reserved
abbrev pub StoppingBatchGivesBack : Type 0
StoppingBatchGivesBack =
    run two (before ++ order Stop 1 ∷ add_done ∷ [])
    ≡ told_before
    (reply (ordered Stop 1 Stopping)
    ∷ move (send 1 p00000 (record { unit = r1; name = add; handed = []; reports = [] }) Stop)
    ∷ reply (reported r1 add Report.Done 1 p00000 Stopping)
    ∷ releases 1 p00000 r2
    ∷ releases 1 p000 r1
    ∷ move (state 1 Stopped)
    ∷ grants 2 p00 r2
    ∷ entered 2 make charge
    (starts 2 p0000 r2 add
    ∷ []))

-- an operation reserves: it asks for the reserved unit before its other needs, and gives these back first
abbrev pub OperationHandsOver : Type 0
OperationHandsOver =
    run (cell_of (recipe_e_by_charge ∷ [])) (create name_e 1000 [] ∷ order Start 1 ∷ add_done ∷ says r1 heat Report.Done ∷ [])
    ≡ (reply (created 1 name_e 1000 [])
    ∷ reply (ordered Start 1 Running)
    ∷ move (begin 1 p0 name_e)
    ∷ asks 1 p000 r1
    ∷ grants 1 p000 r1
    ∷ move (begin 1 p000 make)
    ∷ asks 1 p0000 r2
    ∷ grants 1 p0000 r2
    ∷ asks 1 p0000 hdr
    ∷ grants 1 p0000 hdr
    ∷ move (begin 1 p0000 charge)
    ∷ starts 1 p000000 r1 add
    ∷ reply (reported r1 add Report.Done 1 p000000 Running)
    ∷ starts 1 p000001 r1 heat
    ∷ reply (reported r1 heat Report.Done 1 p000001 Running)
    ∷ move (end 1 p0000)
    ∷ releases 1 p0000 hdr
    ∷ passes p0000 p001 r2
    ∷ move (end 1 p000)
    ∷ releases 1 p000 r1
    ∷ kept [])

-- Holders

abbrev pub share : ℕ → Place → Share
share number place = record { act = (number, place); units = 1 }

-- in a held batch KEEP has been reached, and holds R2; MAKE holds R1 no more
abbrev pub KeepHoldsBeforeItBegins : Type 0
KeepHoldsBeforeItBegins =
    (holders (settled_after two (before ++ order Hold 1 ∷ add_done ∷ [])) r2 ≡ share 1 p001 ∷ [])
    × (holders (settled_after two (before ++ order Hold 1 ∷ add_done ∷ [])) r1 ≡ [])

-- in a record the first place holds until the pass, and the second from then on
abbrev pub PassIsTold : Type 0
PassIsTold =
    (holders_told (grants 1 p00000 r2 ∷ []) r2 ≡ share 1 p00000 ∷ [])
    × (holders_told (grants 1 p00000 r2 ∷ passes p00000 p001 r2 ∷ []) r2 ≡ share 1 p001 ∷ [])
    × (holders_told (grants 1 p00000 r2 ∷ passes p00000 p001 r2 ∷ releases 1 p001 r2 ∷ []) r2 ≡ [])

-- Units that stay with a batch, by a record alone

abbrev pub for_keep : Kept
for_keep = record { place = p001; unit = r2 }

-- these units are kept after the pass of R2 to KEEP and then this line
abbrev pub PassedAfter : Out → List Kept → Type 0
PassedAfter out kept_then = passed_told 1 (passes p00000 p001 r2 ∷ out ∷ []) ≡ kept_then

abbrev pub PassedUnitIsKept : Type 0
PassedUnitIsKept =
    PassedAfter (reply (ordered Hold 1 Holding)) (for_keep ∷ [])
    × PassedAfter (move (begin 2 p001 keep)) (for_keep ∷ [])
    × PassedAfter (move (end 1 p000)) (for_keep ∷ [])
    × PassedAfter (move (begin 1 p001 keep)) []
    × PassedAfter (reply (ordered Stop 1 Stopping)) []
    × PassedAfter (reply (ordered Abort 1 Stopping)) []
    × PassedAfter (reply (ordered Stop 2 Stopping)) (for_keep ∷ [])

-- these units are kept after the start of ADD, which reserves KEEP, and then this line
abbrev pub ReservedAfter : Out → List Kept → Type 0
ReservedAfter out kept_then = reserved_told 1 recipe_e.procedure (starts 1 p00000 r1 add ∷ out ∷ []) ≡ kept_then

abbrev pub ReservedUnitIsKept : Type 0
ReservedUnitIsKept =
    ReservedAfter (passes p00000 p001 r2) (for_keep ∷ [])
    × ReservedAfter (move (begin 1 p0000 charge)) (for_keep ∷ [])
    × ReservedAfter (move (begin 1 p001 keep)) []
    × ReservedAfter (reply (ordered Stop 1 Stopping)) []
    × (reserved_told 1 recipe_e.procedure (move (begin 1 p0000 charge) ∷ []) ≡ [])
    × (reserved_told 1 recipe_e.procedure (starts 2 p00000 r1 add ∷ []) ≡ [])

abbrev pub batch_of_e : Batch
batch_of_e = new_batch 1 recipe_e 1000 []

abbrev pub AreKept : List Out → Type 0
AreKept outs = KeepsUnits outs batch_of_e

-- a run in which a unit is passed on, and its prefix that ends with the pass
abbrev pub UnitsStay : Type 0
UnitsStay = AreKept (run two (before ++ add_done ∷ [])) × AreKept (told_before (passes p00000 p001 r2 ∷ []))

-- a unit that is given back before KEEP begins, from ADD or from KEEP, and one that KEEP is passed but doesn't hold
abbrev pub ReservedUnitIsLost : Type 0
ReservedUnitIsLost = AreKept (told_before (releases 1 p00000 r2 ∷ [])) → ⊥

abbrev pub PassedUnitIsLost : Type 0
PassedUnitIsLost = AreKept (told_before (passes p00000 p001 r2 ∷ releases 1 p001 r2 ∷ [])) → ⊥

abbrev pub PassedUnitIsElsewhere : Type 0
PassedUnitIsElsewhere = AreKept (passes p00000 p001 r2 ∷ releases 1 p001 r2 ∷ grants 1 p000 r2 ∷ []) → ⊥

-- The followers of a step

-- a procedure of unit procedures without needs, which have one operation of one phase
abbrev pub labels_only : List Name → List Entry
labels_only names = map (λ name. chart_act name [] (chart_act charge [] (add_step r1 ∷ heat_step r1 ∷ []) (label add) ∷ []) (label charge)) names

abbrev pub other : Name
other = codes "OTHER"

-- the procedure that follows a chart of MAKE, KEEP and OTHER
abbrev pub drawn : Diagram → Tree
drawn chart = (chart_act name_e [] (labels_only (make ∷ keep ∷ other ∷ [])) chart).1 (0 ∷ [])

abbrev pub first_then : Diagram → Diagram
first_then after = seq (diagrams_of (label make ∷ after ∷ []))

-- after MAKE, its operation and its phase, these come
abbrev pub Follow : Diagram → List (Name × Place) → Type 0
Follow chart follow =
    (following (drawn chart) p000 ≡ follow) × (following (drawn chart) p0000 ≡ follow) × (following (drawn chart) p00000 ≡ follow)

abbrev pub DownwardsFirst : Type 0
DownwardsFirst =
    Follow (first_then (label keep)) ((keep, p001) ∷ [])
    × Follow (first_then (seq (diagrams_of (label keep ∷ label other ∷ [])))) ((keep, p0010) ∷ [])
    × Follow (first_then (par (diagrams_of (label keep ∷ label other ∷ [])))) ((keep, p0010) ∷ (other, 0 ∷ 0 ∷ 1 ∷ 1 ∷ []) ∷ [])
    × Follow (first_then (loop 3 x_above_0 (label keep))) ((keep, p0010) ∷ [])
    × Follow (first_then skip) []
    × Follow (first_then (seq (diagrams_of (skip ∷ label keep ∷ [])))) []
    × Follow (first_then (sel (when x_is_1 (label keep) (otherwise (label keep))))) []

-- after the first of two branches, where both are MAKE
abbrev pub FirstFollow : Diagram → List (Name × Place) → Type 0
FirstFollow chart follow = following (drawn chart) p0000 ≡ follow

abbrev pub UpwardsFirst : Type 0
UpwardsFirst =
    FirstFollow (first_then (label keep)) ((keep, p001) ∷ [])
    × FirstFollow (seq (diagrams_of (seq (diagrams_of (label make ∷ [])) ∷ label keep ∷ []))) ((keep, p001) ∷ [])
    × FirstFollow (seq (diagrams_of (seq (diagrams_of (label make ∷ label other ∷ [])) ∷ label keep ∷ []))) ((other, 0 ∷ 0 ∷ 0 ∷ 1 ∷ []) ∷ [])
    × FirstFollow (seq (diagrams_of (sel (when x_is_1 (label make) (otherwise skip)) ∷ label keep ∷ []))) ((keep, p001) ∷ [])
    × FirstFollow (seq (diagrams_of (par (diagrams_of (label make ∷ label other ∷ [])) ∷ label keep ∷ []))) []
    × FirstFollow (seq (diagrams_of (loop 3 x_above_0 (label make) ∷ label keep ∷ []))) []
    × (following (drawn (seq (diagrams_of (label keep ∷ label make ∷ [])))) p001 ≡ [])

-- the first of two that follow with one name is taken
abbrev pub FirstOfTwoFollows : Type 0
FirstOfTwoFollows =
    (follower (drawn (first_then (par (diagrams_of (label keep ∷ label keep ∷ []))))) p00000 keep ≡ Some p0010)
    × (follower (drawn (first_then (label keep))) p00000 other ≡ None)

-- a step that isn't the last one in its operation is followed by none, nor is the procedure or its chart; an operation named KEEP
-- is no unit procedure
abbrev pub OnlyTheLastStep : Type 0
OnlyTheLastStep =
    (following recipe_e.procedure p00000 ≡ (keep, p001) ∷ [])
    × (following recipe_e_by_charge.procedure p000000 ≡ [])
    × (following recipe_e_by_charge.procedure p000001 ≡ (keep, p001) ∷ [])
    × (following recipe_e_by_charge.procedure p0000 ≡ (keep, p001) ∷ [])
    × (following recipe_e.procedure p0 ≡ [])
    × (following recipe_e.procedure p00 ≡ [])
    × (following recipe_e.procedure p001 ≡ [])
    × (following ((chart_act name_e [] (chart_act make [] (labels_only (charge ∷ keep ∷ [])) (seq (diagrams_of (label charge ∷ label keep ∷ []))) ∷ []) (label make)).1 p0) (0 ∷ 0 ∷ 0 ∷ 0 ∷ []) ≡ [])

-- Clearance

abbrev pub first_r1 : Ranking
first_r1 resource = elim (same_name resource r1) [ true ↦ 1 | false ↦ elim (same_name resource r2) [ true ↦ 2 | false ↦ 3 ] ]

abbrev pub Cleared : Recipe → Type 0
Cleared recipe = IsCleared (cell_of (recipe ∷ [])) first_r1

abbrev pub Refused : List Recipe → Type 0
Refused recipes = CanBeCleared (cell_of recipes) → ⊥

-- E with another chart of its procedure, or of CHARGE
abbrev pub e_with : Diagram → Diagram → Recipe
e_with charge_chart chart = recipe_with name_e [] [] (two_units name_e r1 r2 (charging r1 r2 charge_chart) chart)

abbrev pub LastStepMayReserve : Type 0
LastStepMayReserve = Cleared (e_with (seq (diagrams_of (label heat ∷ label add ∷ []))) make_then_keep)

abbrev pub StepThatIsNotLast : Type 0
StepThatIsNotLast = Refused (e_with (seq (diagrams_of (label add ∷ label heat ∷ []))) make_then_keep ∷ [])

abbrev pub StepBesideAnother : Type 0
StepBesideAnother = Refused (e_with (par (diagrams_of (label add ∷ label heat ∷ []))) make_then_keep ∷ [])

abbrev pub UnitProcedureBesideAnother : Type 0
UnitProcedureBesideAnother = Refused (e_with (label add) (par (diagrams_of (label make ∷ label keep ∷ []))) ∷ [])

abbrev pub UnitProcedureBefore : Type 0
UnitProcedureBefore = Refused (e_with (label add) (seq (diagrams_of (label keep ∷ label make ∷ []))) ∷ [])

-- the reserved unit is asked for on the path of the step that reserves it
abbrev pub OppositeTransfers : Type 0
OppositeTransfers = Refused (recipe_e ∷ recipe_on (codes "EE") r2 r1 ∷ [])

abbrev pub TransferToTheSameUnit : Type 0
TransferToTheSameUnit = Refused (recipe_on name_e r1 r1 ∷ [])

-- each by itself is cleared
abbrev pub OneTransfer : Type 0
OneTransfer = Cleared recipe_e
