-- worked rows: the facts that records tell, records that aren't safe, each for one reason, and the steps that waiting steps wait for.
use Rattle.std.specs.Prelude.{◌≡◌, ℕ, List, [], ◌∷◌, codes}
use Rattle.batch_matrix.specs.declared.state.State.{State}
use Rattle.batch_matrix.specs.declared.state.State.TheVariants.{Running, Holding, Stopping, Aborting}
use Rattle.batch_matrix.specs.declared.command.Command.TheVariants.{Start, Hold, Stop, Abort}
use Rattle.batch_matrix.specs.declared.report.Report.{Report}
use Rattle.batch_recipe.specs.Conditions.{Name}
use Rattle.batch_recipe.specs.Diagram.{label}
use Rattle.batch_recipe.specs.Needs.{one_unit}
use Rattle.batch_recipe.specs.Tree.{Place}
use Rattle.batch_recipe.specs.declared.need.Need.{Need}
use Rattle.batch_model.specs.Plant.{Recipe, Setup, Share}
use Rattle.batch_model.specs.Moves.{ask, grant, release, begin, state}
use Rattle.batch_model.specs.Events.{Event, create, order, created, ordered, reported}
use Rattle.batch_model.specs.Runs.{Out, reply, move, run}
use Rattle.batch_model.specs.Records.{Active, holders_told, waiters_told, active_told, Scene, scene_told, Waiting, PointsTo, IsChain, IsSafe}
use Rattle.batch_examples.specs.RowDocuments.{r1, r2, hdr, steam, add, make, charge, phase_step, chart_act, recipe_with, cell}
use Rattle.batch_examples.specs.RowParts.{p0, p00, p000, p001, p0000, p0010, says, on, asks, grants, releases, starts, opened, closed}
use Rattle.batch_examples.specs.RowsOfClearance.{recipe_g, recipe_h, with_recipes}

-- both units of STEAM
abbrev pub all_steam : Need
all_steam = record { resource = steam; units = 2 }

-- The facts that a record tells

abbrev pub share : ℕ → Place → ℕ → Share
share n p units = record { act = (n, p); units = units }

-- a step holds all units from its grant on, beside the holders of others
abbrev pub AllUnitsAreHeld : Type 0
AllUnitsAreHeld = holders_told (asks 1 p0 hdr ∷ grants 1 p0 hdr ∷ move (ask 2 p0 all_steam) ∷ move (grant 2 p0 all_steam) ∷ []) steam ≡ share 2 p0 2 ∷ []

-- and none from its release on
abbrev pub AllUnitsAreGivenBack : Type 0
AllUnitsAreGivenBack = holders_told (move (grant 1 p0 all_steam) ∷ move (release 1 p0 all_steam) ∷ []) steam ≡ []

-- these steps wait for HDR after the asks of two steps and then this line
abbrev pub WaitAfter : Out → List Share → Type 0
WaitAfter out waiters = waiters_told (asks 1 p0 hdr ∷ asks 2 p0 hdr ∷ out ∷ []) hdr ≡ waiters

abbrev pub GrantEndsWait : Type 0
GrantEndsWait = WaitAfter (grants 1 p0 hdr) (share 2 p0 1 ∷ [])

abbrev pub StopEndsWait : Type 0
StopEndsWait = WaitAfter (reply (ordered Stop 1 Stopping)) (share 2 p0 1 ∷ [])

abbrev pub AbortEndsWait : Type 0
AbortEndsWait = WaitAfter (reply (ordered Abort 1 Aborting)) (share 2 p0 1 ∷ [])

-- no other command ends it
abbrev pub HoldDoesNotEndWait : Type 0
HoldDoesNotEndWait = WaitAfter (reply (ordered Hold 1 Holding)) (share 1 p0 1 ∷ share 2 p0 1 ∷ [])

-- these phases are live after the start of one and then this report
abbrev pub ActiveAfter : Report → State → List Active → Type 0
ActiveAfter word x active = active_told (starts 1 p00 r1 add ∷ reply (reported r1 add word 1 p00 x) ∷ []) ≡ active

abbrev pub EndingReportsEndPhases : Type 0
EndingReportsEndPhases = ActiveAfter Report.Done Running [] × ActiveAfter Report.Stopped Stopping [] × ActiveAfter Report.Aborted Aborting []

abbrev pub HeldPhaseIsActive : Type 0
HeldPhaseIsActive = ActiveAfter Report.Held Holding (record { act = (1, p00); phase = on r1 add } ∷ [])

-- Records that aren't safe

abbrev pub IsUnsafe : List Out → Type 0
IsUnsafe outs = IsSafe cell outs → ⊥

-- a header that has one user at a time
abbrev pub TwoHoldersOfOneUnit : Type 0
TwoHoldersOfOneUnit = IsUnsafe (grants 1 p0 hdr ∷ grants 2 p0 hdr ∷ [])

-- there are two units of STEAM, of which one is held
abbrev pub ThreeUnitsOfTwo : Type 0
ThreeUnitsOfTwo = IsUnsafe (grants 1 p0 steam ∷ move (grant 2 p0 all_steam) ∷ [])

-- a resource that is given back later was held all the same
abbrev pub UnsafeBeforeItsEnd : Type 0
UnsafeBeforeItsEnd = IsUnsafe (grants 1 p0 hdr ∷ grants 2 p0 hdr ∷ releases 1 p0 hdr ∷ releases 2 p0 hdr ∷ [])

-- the step that runs a phase holds the unit itself, and none above it does
abbrev pub UnitHeldByItsStep : Type 0
UnitHeldByItsStep = IsUnsafe (grants 1 p00 r1 ∷ starts 1 p00 r1 add ∷ [])

abbrev pub UnitHeldBesideItsStep : Type 0
UnitHeldBesideItsStep = IsUnsafe (grants 1 p000 r1 ∷ starts 1 p0010 r1 add ∷ [])

abbrev pub UnitHeldByAnotherBatch : Type 0
UnitHeldByAnotherBatch = IsUnsafe (grants 2 p0 r1 ∷ starts 1 p00 r1 add ∷ [])

abbrev pub AnotherUnitIsHeld : Type 0
AnotherUnitIsHeld = IsUnsafe (grants 1 p0 r2 ∷ starts 1 p00 r1 add ∷ [])

-- a phase that is held goes on all the same
abbrev pub UnitGivenBackEarly : Type 0
UnitGivenBackEarly = IsUnsafe (grants 1 p0 r1 ∷ starts 1 p00 r1 add ∷ reply (reported r1 add Report.Held 1 p00 Holding) ∷ releases 1 p0 r1 ∷ [])

abbrev pub StartedTwice : Type 0
StartedTwice = IsUnsafe (grants 1 p0 r1 ∷ starts 1 p000 r1 add ∷ starts 1 p001 r1 add ∷ [])

abbrev pub StartedWhereNotOffered : Type 0
StartedWhereNotOffered = IsUnsafe (grants 1 p0 r1 ∷ starts 1 p00 r1 (codes "MIX") ∷ [])

-- a batch that comes to this state and holds HDR still, or waits for it
abbrev pub AtRestHolding : State → Type 0
AtRestHolding x = IsUnsafe (grants 1 p0 hdr ∷ move (state 1 x) ∷ [])

abbrev pub AtRestWaiting : State → Type 0
AtRestWaiting x = IsUnsafe (asks 1 p0 hdr ∷ move (state 1 x) ∷ [])

-- Circles

-- a step waits below the very place that holds the resource that it waits for
abbrev pub WaitsForItself : Type 0
WaitsForItself = IsUnsafe (grants 1 p0 hdr ∷ asks 1 p00 hdr ∷ [])

-- each of two batches waits for the resource that the other holds above
abbrev pub TwoWaitInACircle : Type 0
TwoWaitInACircle = IsUnsafe (grants 1 p0 hdr ∷ grants 2 p0 r1 ∷ asks 1 p00 r1 ∷ asks 2 p00 hdr ∷ [])

-- one phase on R2, which needs HDR
abbrev pub recipe_b : Recipe
recipe_b =
    recipe_with (codes "B") [] []
    (chart_act (codes "B") []
    (chart_act make (one_unit r2 ∷ []) (chart_act charge [] (phase_step add (one_unit hdr ∷ []) r2 add [] ∷ []) (label add) ∷ []) (label charge) ∷ [])
    (label make))

-- recipes that no ranking clears: G holds R1 and asks for HDR, H holds HDR and asks for R1
abbrev pub opposed : Setup
opposed = with_recipes (recipe_b ∷ recipe_h ∷ recipe_g ∷ [])

-- HDR is in use when the second and the third batch are started, and is given back then
abbrev pub opposed_events : List Event
opposed_events =
    create (codes "B") 1000 [] ∷ create (codes "H") 1000 [] ∷ create (codes "G") 1000 [] ∷ order Start 1 ∷ order Start 2 ∷ order Start 3
    ∷ says r2 add Report.Done ∷ []

abbrev pub opposed_record : List Out
opposed_record =
    reply (created 1 (codes "B") 1000 [])
    ∷ reply (created 2 (codes "H") 1000 [])
    ∷ reply (created 3 (codes "G") 1000 [])
    ∷ opened 1 (codes "B") r2 make charge
    (asks 1 p0000 hdr
    ∷ grants 1 p0000 hdr
    ∷ starts 1 p0000 r2 add
    ∷ reply (ordered Start 2 Running)
    ∷ asks 2 p0 hdr
    ∷ reply (ordered Start 3 Running)
    ∷ move (begin 3 p0 (codes "G"))
    ∷ asks 3 p00 r1
    ∷ grants 3 p00 r1
    ∷ asks 3 p00 hdr
    ∷ reply (reported r2 add Report.Done 1 p0000 Running)
    ∷ releases 1 p0000 hdr
    ∷ closed 1 r2
    (grants 2 p0 hdr
    ∷ move (begin 2 p0 (codes "H"))
    ∷ asks 2 p00 r1
    ∷ []))

-- the machine itself makes this record of them
abbrev pub OpposedRun : Type 0
OpposedRun = run opposed opposed_events ≡ opposed_record

-- and the second and the third batch wait for each other then
abbrev pub OpposedRunIsUnsafe : Type 0
OpposedRunIsUnsafe = IsSafe opposed opposed_record → ⊥

-- The steps that a waiting step waits for

abbrev pub waiting : ℕ → Place → Name → Waiting
waiting n p resource = record { act = (n, p); resource = resource }

-- two wait for STEAM: the first wants both units, and the second one
abbrev pub queue : Scene
queue = scene_told (move (ask 1 p0 all_steam) ∷ asks 2 p0 steam ∷ [])

abbrev pub NewerPointsToOlder : Type 0
NewerPointsToOlder = PointsTo queue (waiting 2 p0 steam) (waiting 1 p0 steam)

abbrev pub OlderDoesNotPointToNewer : Type 0
OlderDoesNotPointToNewer = PointsTo queue (waiting 1 p0 steam) (waiting 2 p0 steam) → ⊥

-- batch 1 holds HDR at one place and waits for STEAM, which batch 3 holds, at another; batch 2 waits for HDR
abbrev pub held_and_waiting : Place → Place → Scene
held_and_waiting holds waits = scene_told (grants 1 holds hdr ∷ move (grant 3 p0 all_steam) ∷ asks 1 waits steam ∷ asks 2 p0 hdr ∷ [])

abbrev pub PointsFrom : Place → Place → Type 0
PointsFrom holds waits = PointsTo (held_and_waiting holds waits) (waiting 2 p0 hdr) (waiting 1 waits steam)

abbrev pub PointsBelowHolder : Type 0
PointsBelowHolder = PointsFrom p0 p00

-- a step beside the one that holds may wait while that goes on, and so may one above it
abbrev pub DoesNotPointBesideHolder : Type 0
DoesNotPointBesideHolder = PointsFrom p000 p001 → ⊥

abbrev pub DoesNotPointAboveHolder : Type 0
DoesNotPointAboveHolder = PointsFrom p00 p0 → ⊥

-- a chain from batch 2, which waits for HDR, over batch 1 to batch 3
abbrev pub ChainFrom : Place → Place → Type 0
ChainFrom holds waits =
    IsChain (held_and_waiting holds waits)
    (record { waiting = waiting 2 p0 hdr; holder = (1, holds) } ∷ record { waiting = waiting 1 waits steam; holder = (3, p0) } ∷ [])

abbrev pub ChainGoesOnBelowHolder : Type 0
ChainGoesOnBelowHolder = ChainFrom p0 p00

abbrev pub ChainEndsBesideHolder : Type 0
ChainEndsBesideHolder = ChainFrom p000 p001 → ⊥
