-- worked rows: commands, and their effects on batches and phases.
use Rattle.std.specs.Prelude.{◌≡◌, ℕ, zero, suc, List, [], ◌∷◌, Option, Some, None, codes}
use Rattle.batch_matrix.specs.declared.state.State.{State}
use Rattle.batch_matrix.specs.declared.state.State.TheVariants.{Idle, Running, Pausing, Paused, Holding, Held, Restarting, Stopping, Stopped, Aborting, Aborted, Complete}
use Rattle.batch_matrix.specs.declared.command.Command.{Command}
use Rattle.batch_matrix.specs.declared.command.Command.TheVariants.{Start, Pause, Resume, Hold, Restart, Stop, Abort, Reset}
use Rattle.batch_matrix.specs.declared.report.Report.{Report}
use Rattle.batch_recipe.specs.Tree.{Place}
use Rattle.batch_examples.specs.RowDemo as demo
use Rattle.batch_model.specs.Plant.{Plant, Batch, opening}
use Rattle.batch_model.specs.Moves.{send, state, begin, end}
use Rattle.batch_model.specs.Events.{create, order, remove, created, ordered, removed, reported, refused, full, not_idle, unknown_batch, report_not_expected, moves_pending, new_batch, no_memory, react}
use Rattle.batch_model.specs.Runs.{Reacts, reply, move, run}
use Rattle.batch_model.specs.ActStates.{state_of}
use Rattle.batch_examples.specs.RowDocuments.{r1, r2, hdr, steam, add, heat, drain, name_a, make, charge, cook, cell, narrow_cell, small_cell}
use Rattle.batch_examples.specs.RowParts.{p0, p00, p000, p001, p0000, p00000, p00001, p000010, p000011, create_a, says, add_done, on, starts, refuses, entered, opened, created_a, opened_a, finished_a, settled_after, asks, grants, releases}

-- a phase is done while its batch comes to Held, and the next begins after the restart
abbrev pub HoldBetweenPhases : Type 0
HoldBetweenPhases =
    run cell (create (codes "S") 1000 [] ∷ order Start 1 ∷ order Hold 1 ∷ add_done ∷ order Restart 1 ∷ [])
    ≡ (reply (created 1 (codes "S") 1000 [])
    ∷ opened 1 (codes "S") r1 make cook
    (starts 1 p00000 r1 add
    ∷ reply (ordered Hold 1 Holding)
    ∷ move (send 1 p00000 (on r1 add) Hold)
    ∷ reply (reported r1 add Report.Done 1 p00000 Holding)
    ∷ move (state 1 Held)
    ∷ reply (ordered Restart 1 Restarting)
    ∷ move (state 1 Running)
    ∷ starts 1 p00001 r1 heat
    ∷ []))

-- a step that lacks a need doesn't ask for it before the batch runs again
abbrev pub NoAskWhileHeld : Type 0
NoAskWhileHeld =
    run cell
    (create (codes "P") 1000 [] ∷ order Start 1 ∷ order Hold 1 ∷ says r1 drain Report.Done ∷ says r1 add Report.Held
    ∷ order Restart 1 ∷ says r1 add Report.Running ∷ [])
    ≡ (reply (created 1 (codes "P") 1000 [])
    ∷ opened 1 (codes "P") r1 (codes "U") (codes "O")
    (starts 1 p000010 r1 drain
    ∷ asks 1 p00000 hdr
    ∷ grants 1 p00000 hdr
    ∷ starts 1 p00000 r1 add
    ∷ reply (ordered Hold 1 Holding)
    ∷ move (send 1 p00000 (on r1 add) Hold)
    ∷ move (send 1 p000010 (on r1 drain) Hold)
    ∷ reply (reported r1 drain Report.Done 1 p000010 Holding)
    ∷ reply (reported r1 add Report.Held 1 p00000 Holding)
    ∷ move (state 1 Held)
    ∷ reply (ordered Restart 1 Restarting)
    ∷ move (send 1 p00000 (on r1 add) Restart)
    ∷ reply (reported r1 add Report.Running 1 p00000 Restarting)
    ∷ move (state 1 Running)
    ∷ asks 1 p000011 steam
    ∷ grants 1 p000011 steam
    ∷ starts 1 p000011 r1 heat
    ∷ []))

-- acts end and give back their holdings while the batch is held, and it is complete once it runs again
abbrev pub HeldBatchEnds : Type 0
HeldBatchEnds =
    run cell (create_a ∷ order Start 1 ∷ order Hold 1 ∷ add_done ∷ order Restart 1 ∷ [])
    ≡ (created_a 1
    ∷ opened_a 1
    (reply (ordered Hold 1 Holding)
    ∷ move (send 1 p0000 (on r1 add) Hold)
    ∷ reply (reported r1 add Report.Done 1 p0000 Holding)
    ∷ move (state 1 Held)
    ∷ move (end 1 p000)
    ∷ move (end 1 p00)
    ∷ releases 1 p00 r1
    ∷ move (end 1 p0)
    ∷ reply (ordered Restart 1 Restarting)
    ∷ move (state 1 Running)
    ∷ move (state 1 Complete)
    ∷ []))

-- the ask of a held batch is granted, and nothing begins before the restart
abbrev pub HeldAskIsGranted : Type 0
HeldAskIsGranted =
    run cell (create_a ∷ create_a ∷ order Start 1 ∷ order Start 2 ∷ order Hold 2 ∷ add_done ∷ order Restart 2 ∷ [])
    ≡ (created_a 1
    ∷ created_a 2
    ∷ opened_a 1
    (reply (ordered Start 2 Running)
    ∷ move (begin 2 p0 name_a)
    ∷ asks 2 p00 r1
    ∷ reply (ordered Hold 2 Holding)
    ∷ move (state 2 Held)
    ∷ finished_a 1
    (grants 2 p00 r1
    ∷ reply (ordered Restart 2 Restarting)
    ∷ move (state 2 Running)
    ∷ entered 2 make charge
    (starts 2 p0000 r1 add
    ∷ []))))

-- a stop while a step waits: its ask leaves the queue, and all is given back from below
abbrev pub StopWithdrawsAsks : Type 0
StopWithdrawsAsks =
    run narrow_cell
    (create (codes "P") 1000 [] ∷ create (codes "Q") 1000 [] ∷ order Start 2 ∷ order Start 1 ∷ says r1 drain Report.Done
    ∷ order Stop 1 ∷ says r1 add Report.Stopped ∷ [])
    ≡ (reply (created 1 (codes "P") 1000 [])
    ∷ reply (created 2 (codes "Q") 1000 [])
    ∷ opened 2 (codes "Q") r2 (codes "U") (codes "O")
    (starts 2 p000010 r2 drain
    ∷ asks 2 p00000 steam
    ∷ grants 2 p00000 steam
    ∷ starts 2 p00000 r2 heat
    ∷ opened 1 (codes "P") r1 (codes "U") (codes "O")
    (starts 1 p000010 r1 drain
    ∷ asks 1 p00000 hdr
    ∷ grants 1 p00000 hdr
    ∷ starts 1 p00000 r1 add
    ∷ reply (reported r1 drain Report.Done 1 p000010 Running)
    ∷ asks 1 p000011 steam
    ∷ reply (ordered Stop 1 Stopping)
    ∷ move (send 1 p00000 (on r1 add) Stop)
    ∷ reply (reported r1 add Report.Stopped 1 p00000 Stopping)
    ∷ releases 1 p00000 hdr
    ∷ releases 1 p00 r1
    ∷ move (state 1 Stopped)
    ∷ [])))

-- after this command the ask that batch 2 had doesn't stand in the way of a later one
abbrev pub LaterAskPasses : Command → State → State → Type 0
LaterAskPasses command going gone =
    run cell
    (create_a ∷ create_a ∷ create_a ∷ order Start 1 ∷ order Start 2 ∷ order Start 3 ∷ order command 2 ∷ add_done ∷ [])
    ≡ (created_a 1
    ∷ created_a 2
    ∷ created_a 3
    ∷ opened_a 1
    (reply (ordered Start 2 Running)
    ∷ move (begin 2 p0 name_a)
    ∷ asks 2 p00 r1
    ∷ reply (ordered Start 3 Running)
    ∷ move (begin 3 p0 name_a)
    ∷ asks 3 p00 r1
    ∷ reply (ordered command 2 going)
    ∷ move (state 2 gone)
    ∷ finished_a 1
    (grants 3 p00 r1
    ∷ entered 3 make charge
    (starts 3 p0000 r1 add
    ∷ []))))

abbrev pub LaterAskPassesStopped : Type 0
LaterAskPassesStopped = LaterAskPasses Stop Stopping Stopped

abbrev pub LaterAskPassesAborted : Type 0
LaterAskPassesAborted = LaterAskPasses Abort Aborting Aborted

-- a stop while an act holds two of its three needs: the last that it got is given back first
abbrev pub StopGivesBackPartOfNeeds : Type 0
StopGivesBackPartOfNeeds =
    run cell (create_a ∷ create (codes "J") 1000 [] ∷ order Start 1 ∷ order Start 2 ∷ order Stop 2 ∷ [])
    ≡ (created_a 1
    ∷ reply (created 2 (codes "J") 1000 [])
    ∷ opened_a 1
    (reply (ordered Start 2 Running)
    ∷ move (begin 2 p0 (codes "J"))
    ∷ asks 2 p001 r2
    ∷ grants 2 p001 r2
    ∷ asks 2 p001 hdr
    ∷ grants 2 p001 hdr
    ∷ asks 2 p001 r1
    ∷ reply (ordered Stop 2 Stopping)
    ∷ releases 2 p001 hdr
    ∷ releases 2 p001 r2
    ∷ move (state 2 Stopped)
    ∷ []))

-- an abort while stopping, and a report that no longer fits
abbrev pub AbortAfterStop : Type 0
AbortAfterStop =
    run cell (create_a ∷ order Start 1 ∷ order Stop 1 ∷ order Abort 1 ∷ says r1 add Report.Stopped ∷ says r1 add Report.Aborted ∷ [])
    ≡ (created_a 1
    ∷ opened_a 1
    (reply (ordered Stop 1 Stopping)
    ∷ move (send 1 p0000 (on r1 add) Stop)
    ∷ reply (ordered Abort 1 Aborting)
    ∷ move (send 1 p0000 (on r1 add) Abort)
    ∷ refuses (report_not_expected Aborting)
    ∷ reply (reported r1 add Report.Aborted 1 p0000 Aborting)
    ∷ releases 1 p00 r1
    ∷ move (state 1 Aborted)
    ∷ []))

-- a stopped batch is aborted, reset and started anew
abbrev pub AbortResetStart : Type 0
AbortResetStart =
    run cell
    (create_a ∷ order Start 1 ∷ order Stop 1 ∷ says r1 add Report.Stopped ∷ order Abort 1 ∷ order Reset 1 ∷ order Start 1 ∷ [])
    ≡ (created_a 1
    ∷ opened_a 1
    (reply (ordered Stop 1 Stopping)
    ∷ move (send 1 p0000 (on r1 add) Stop)
    ∷ reply (reported r1 add Report.Stopped 1 p0000 Stopping)
    ∷ releases 1 p00 r1
    ∷ move (state 1 Stopped)
    ∷ reply (ordered Abort 1 Aborting)
    ∷ move (state 1 Aborted)
    ∷ reply (ordered Reset 1 Idle)
    ∷ opened_a 1 []))

-- Pause and resume

abbrev pub PauseAndResume : Type 0
PauseAndResume =
    run cell (create_a ∷ order Start 1 ∷ order Pause 1 ∷ says r1 add Report.Paused ∷ order Resume 1 ∷ [])
    ≡ (created_a 1
    ∷ opened_a 1
    (reply (ordered Pause 1 Pausing)
    ∷ move (send 1 p0000 (on r1 add) Pause)
    ∷ reply (reported r1 add Report.Paused 1 p0000 Pausing)
    ∷ move (state 1 Paused)
    ∷ reply (ordered Resume 1 Running)
    ∷ move (send 1 p0000 (on r1 add) Resume)
    ∷ []))

-- the batch of A has taken the resume, and its phase was not yet sent it
abbrev pub resumed : Plant
resumed = (react cell (settled_after cell (create_a ∷ order Start 1 ∷ order Pause 1 ∷ says r1 add Report.Paused ∷ [])) (order Resume 1)).1

abbrev pub ShowsResumed : Place → Option State → Type 0
ShowsResumed p shown = state_of resumed 1 p ≡ shown

abbrev pub ResumedBatchRuns : Type 0
ResumedBatchRuns = ShowsResumed p0 (Some Running)

abbrev pub ResumedUnitProcedureIsPaused : Type 0
ResumedUnitProcedureIsPaused = ShowsResumed p00 (Some Paused)

abbrev pub NoActBelowPhase : Type 0
NoActBelowPhase = ShowsResumed p00000 None

-- a hold spreads to a phase that is paused and to one that is not yet, and a restart to both
abbrev pub HoldWhilePausing : Type 0
HoldWhilePausing =
    run cell
    (create (codes "W") 1000 [] ∷ order Start 1 ∷ order Pause 1 ∷ says r1 add Report.Paused ∷ order Hold 1 ∷ says r1 add Report.Held
    ∷ says r1 heat Report.Held ∷ order Restart 1 ∷ says r1 add Report.Running ∷ says r1 heat Report.Running ∷ [])
    ≡ (reply (created 1 (codes "W") 1000 [])
    ∷ opened 1 (codes "W") r1 make cook
    (starts 1 p00000 r1 add
    ∷ starts 1 p00001 r1 heat
    ∷ reply (ordered Pause 1 Pausing)
    ∷ move (send 1 p00000 (on r1 add) Pause)
    ∷ move (send 1 p00001 (on r1 heat) Pause)
    ∷ reply (reported r1 add Report.Paused 1 p00000 Pausing)
    ∷ reply (ordered Hold 1 Holding)
    ∷ move (send 1 p00000 (on r1 add) Hold)
    ∷ move (send 1 p00001 (on r1 heat) Hold)
    ∷ reply (reported r1 add Report.Held 1 p00000 Holding)
    ∷ reply (reported r1 heat Report.Held 1 p00001 Holding)
    ∷ move (state 1 Held)
    ∷ reply (ordered Restart 1 Restarting)
    ∷ move (send 1 p00000 (on r1 add) Restart)
    ∷ move (send 1 p00001 (on r1 heat) Restart)
    ∷ reply (reported r1 add Report.Running 1 p00000 Restarting)
    ∷ reply (reported r1 heat Report.Running 1 p00001 Restarting)
    ∷ move (state 1 Running)
    ∷ []))

-- Batches that come and go

-- two batches at most, in this cell: a place is free once a batch is removed, and its number isn't used again
abbrev pub RemovedBatchLeavesPlace : Type 0
RemovedBatchLeavesPlace =
    run small_cell
    (create_a ∷ create_a ∷ create_a ∷ order Start 1 ∷ add_done ∷ create_a ∷ remove 1 ∷ order Reset 1 ∷ remove 1 ∷ remove 1 ∷ create_a ∷ [])
    ≡ (created_a 1
    ∷ created_a 2
    ∷ refuses full
    ∷ opened_a 1
    (finished_a 1
    (refuses full
    ∷ refuses (not_idle Complete)
    ∷ reply (ordered Reset 1 Idle)
    ∷ reply (removed 1)
    ∷ refuses unknown_batch
    ∷ created_a 3
    ∷ [])))

-- that many idle batches of A, from this number on
abbrev pub idle_batches : ℕ → ℕ → List Batch
idle_batches n zero = []
idle_batches n (suc k) = new_batch n demo.recipe 1000 [] ∷ idle_batches (suc n) k

abbrev pub idle_plant : ℕ → Plant
idle_plant k = record { batches = idle_batches 1 k; next_number = suc k; line = λ resource. [] }

abbrev pub LastBatchIsCreated : Type 0
LastBatchIsCreated = (react cell (idle_plant 4095) create_a).0 ≡ created 4096 name_a 1000 []

abbrev pub NoBatchBeyondLimit : Type 0
NoBatchBeyondLimit = (react cell (idle_plant 4096) create_a).0 ≡ refused full

-- the plant that gives this number next
abbrev pub numbered_plant : ℕ → Plant
numbered_plant n = record { batches = []; next_number = n; line = λ resource. [] }

abbrev pub LastNumberIsGiven : Type 0
LastNumberIsGiven = (react cell (numbered_plant 1000000000000) create_a).0 ≡ created 1000000000000 name_a 1000 []

abbrev pub NoNumberBeyondLast : Type 0
NoNumberBeyondLast = (react cell (numbered_plant 1000000000001) create_a).0 ≡ refused full

-- while moves pend, an event is refused and changes nothing
abbrev pub EventWhileMovesPend : Type 0
EventWhileMovesPend =
    let started = (react cell (settled_after cell (create_a ∷ [])) (order Start 1)).1 in
    react cell started (order Hold 1) ≡ (refused moves_pending, started)

-- Want of memory may refuse a create that would make a batch, and changes nothing; no other event, and no create that has a fault

abbrev pub MemoryRefusesACreate : Type 0
MemoryRefusesACreate = Reacts cell opening create_a (refused no_memory) opening

abbrev pub MemoryMakesNoBatch : Type 0
MemoryMakesNoBatch = Reacts cell opening create_a (refused no_memory) (react cell opening create_a).1 → ⊥

abbrev pub MemoryHidesNoBadSize : Type 0
MemoryHidesNoBadSize = Reacts cell opening (create name_a 0 []) (refused no_memory) opening → ⊥

abbrev pub MemoryHidesNoUnknownRecipe : Type 0
MemoryHidesNoUnknownRecipe = Reacts cell opening (create (codes "ZZ") 1000 []) (refused no_memory) opening → ⊥

abbrev pub MemoryRefusesNoStart : Type 0
MemoryRefusesNoStart = Reacts cell (react cell opening create_a).1 (order Start 1) (refused no_memory) (react cell opening create_a).1 → ⊥
