-- worked rows: the moves with which batches run.
use Rattle.std.specs.Prelude.{◌≡◌, ℕ, zero, suc, List, [], ◌∷◌, length, drop, replicate, codes}
use Rattle.batch_matrix.specs.declared.state.State.TheVariants.{Running, Holding, Held, Restarting, Complete}
use Rattle.batch_matrix.specs.declared.command.Command.TheVariants.{Start, Hold, Restart}
use Rattle.batch_matrix.specs.declared.report.Report.{Report}
use Rattle.batch_examples.specs.RowDemo.{demo, recipe}
use Rattle.batch_model.specs.Moves.{send, state, begin, end, ask, grant, release}
use Rattle.batch_model.specs.Events.{create, order, report, created, ordered, reported, unknown_recipe, full, bad_binding, bad_size}
use Rattle.batch_model.specs.Runs.{Out, reply, move, run}
use Rattle.batch_model.specs.Standing.{HasPlacedTrees}
use Rattle.batch_examples.specs.RowDocuments.{r1, r2, hdr, steam, add, heat, drain, x_name, name_a, make, charge, procedure_of, procedure_a, cell, narrow_cell, cook, rx, ry, cell_with_roles}
use Rattle.batch_examples.specs.RowParts.{p0, p00, p000, p001, p0000, p0010, p00000, p00001, p00002, p00100, p000010, p000011, create_a, says, add_done, on, starts, entered, opened, closed, created_a, opened_a, finished_a, asks, grants, releases, refuses}
use Rattle.batch_recipe.specs.declared.need.Need.{Need}

-- the demo's recipe is the expansion of its document
abbrev pub DemoIsExpanded : Type 0
DemoIsExpanded = recipe.procedure ≡ procedure_of procedure_a

abbrev pub DemoIsPlaced : Type 0
DemoIsPlaced = HasPlacedTrees demo

-- one batch of A from its creation to its completion
abbrev pub OneBatchToComplete : Type 0
OneBatchToComplete =
    run demo (create_a ∷ order Start 1 ∷ add_done ∷ [])
    ≡ (created_a 1
    ∷ reply (ordered Start 1 Running)
    ∷ move (begin 1 p0 name_a)
    ∷ asks 1 p00 r1
    ∷ grants 1 p00 r1
    ∷ move (begin 1 p00 make)
    ∷ move (begin 1 p000 charge)
    ∷ starts 1 p0000 r1 add
    ∷ reply (reported r1 add Report.Done 1 p0000 Running)
    ∷ move (end 1 p000)
    ∷ move (end 1 p00)
    ∷ releases 1 p00 r1
    ∷ move (end 1 p0)
    ∷ move (state 1 Complete)
    ∷ [])

-- the second batch of A waits for the unit until the first is complete
abbrev pub SecondBatchWaits : Type 0
SecondBatchWaits =
    run cell (create_a ∷ create_a ∷ order Start 1 ∷ order Start 2 ∷ add_done ∷ [])
    ≡ (created_a 1
    ∷ created_a 2
    ∷ opened_a 1
    (reply (ordered Start 2 Running)
    ∷ move (begin 2 p0 name_a)
    ∷ asks 2 p00 r1
    ∷ finished_a 1
    (grants 2 p00 r1
    ∷ entered 2 make charge
    (starts 2 p0000 r1 add
    ∷ []))))

-- the batch that asked first is granted the unit, and not the one with the lower number
abbrev pub OlderAskIsGranted : Type 0
OlderAskIsGranted =
    run cell (create_a ∷ create_a ∷ create_a ∷ order Start 1 ∷ order Start 3 ∷ order Start 2 ∷ add_done ∷ [])
    ≡ (created_a 1
    ∷ created_a 2
    ∷ created_a 3
    ∷ opened_a 1
    (reply (ordered Start 3 Running)
    ∷ move (begin 3 p0 name_a)
    ∷ asks 3 p00 r1
    ∷ reply (ordered Start 2 Running)
    ∷ move (begin 2 p0 name_a)
    ∷ asks 2 p00 r1
    ∷ finished_a 1
    (grants 3 p00 r1
    ∷ entered 3 make charge
    (starts 3 p0000 r1 add
    ∷ []))))

-- two batches that point at each other and don't wait in a circle
abbrev pub CrossedBranchesWithoutCircle : Type 0
CrossedBranchesWithoutCircle =
    run narrow_cell
    (create (codes "P") 1000 [] ∷ create (codes "Q") 1000 [] ∷ order Start 1 ∷ order Start 2
    ∷ says r1 drain Report.Done ∷ says r2 drain Report.Done ∷ says r1 add Report.Done ∷ says r2 heat Report.Done
    ∷ says r1 heat Report.Done ∷ says r2 add Report.Done ∷ [])
    ≡ (reply (created 1 (codes "P") 1000 [])
    ∷ reply (created 2 (codes "Q") 1000 [])
    ∷ opened 1 (codes "P") r1 (codes "U") (codes "O")
    (starts 1 p000010 r1 drain
    ∷ asks 1 p00000 hdr
    ∷ grants 1 p00000 hdr
    ∷ starts 1 p00000 r1 add
    ∷ opened 2 (codes "Q") r2 (codes "U") (codes "O")
    (starts 2 p000010 r2 drain
    ∷ asks 2 p00000 steam
    ∷ grants 2 p00000 steam
    ∷ starts 2 p00000 r2 heat
    ∷ reply (reported r1 drain Report.Done 1 p000010 Running)
    ∷ asks 1 p000011 steam
    ∷ reply (reported r2 drain Report.Done 2 p000010 Running)
    ∷ asks 2 p000011 hdr
    ∷ reply (reported r1 add Report.Done 1 p00000 Running)
    ∷ releases 1 p00000 hdr
    ∷ grants 2 p000011 hdr
    ∷ starts 2 p000011 r2 add
    ∷ reply (reported r2 heat Report.Done 2 p00000 Running)
    ∷ releases 2 p00000 steam
    ∷ grants 1 p000011 steam
    ∷ starts 1 p000011 r1 heat
    ∷ reply (reported r1 heat Report.Done 1 p000011 Running)
    ∷ releases 1 p000011 steam
    ∷ closed 1 r1
    (reply (reported r2 add Report.Done 2 p000011 Running)
    ∷ releases 2 p000011 hdr
    ∷ closed 2 r2 []))))

-- two of three parallel steps share a resource of capacity 2, and the third waits
abbrev pub SharedCapacity : Type 0
SharedCapacity =
    run cell (create (codes "T") 1000 [] ∷ order Start 1 ∷ [])
    ≡ (reply (created 1 (codes "T") 1000 [])
    ∷ opened 1 (codes "T") r1 (codes "U") (codes "O")
    (asks 1 p00000 steam
    ∷ asks 1 p00001 steam
    ∷ asks 1 p00002 steam
    ∷ grants 1 p00000 steam
    ∷ starts 1 p00000 r1 add
    ∷ grants 1 p00001 steam
    ∷ starts 1 p00001 r1 heat
    ∷ []))

abbrev pub both_units : Need
both_units = record { resource = steam; units = 2 }

-- the second step wants both units and is granted them at once; until then the third, which wants one, doesn't pass it
abbrev pub SmallAskDoesNotPass : Type 0
SmallAskDoesNotPass =
    run cell (create (codes "Y") 1000 [] ∷ order Start 1 ∷ add_done ∷ [])
    ≡ (reply (created 1 (codes "Y") 1000 [])
    ∷ opened 1 (codes "Y") r1 (codes "U") (codes "O")
    (asks 1 p00000 steam
    ∷ move (ask 1 p00001 both_units)
    ∷ asks 1 p00002 steam
    ∷ grants 1 p00000 steam
    ∷ starts 1 p00000 r1 add
    ∷ reply (reported r1 add Report.Done 1 p00000 Running)
    ∷ releases 1 p00000 steam
    ∷ move (grant 1 p00001 both_units)
    ∷ starts 1 p00001 r1 heat
    ∷ []))

-- its release gives both units back
abbrev pub ReleaseGivesAllBack : Type 0
ReleaseGivesAllBack =
    drop 16 (run cell (create (codes "Y") 1000 [] ∷ order Start 1 ∷ add_done ∷ says r1 heat Report.Done ∷ []))
    ≡ (reply (reported r1 heat Report.Done 1 p00001 Running)
    ∷ move (release 1 p00001 both_units)
    ∷ grants 1 p00002 steam
    ∷ starts 1 p00002 r1 drain
    ∷ [])

-- Roles

-- the unit that is bound to the role runs the batch
abbrev pub BoundUnitRuns : Type 0
BoundUnitRuns =
    run cell_with_roles (create (codes "B") 1000 ((rx, r2) ∷ []) ∷ order Start 1 ∷ [])
    ≡ (reply (created 1 (codes "B") 1000 ((rx, r2) ∷ [])) ∷ opened 1 (codes "B") r2 make charge (starts 1 p0000 r2 add ∷ []))

-- pairs in any order, which the reply has in that of the roles; each unit procedure runs on the unit of its own role
abbrev pub EachRoleHasItsUnit : Type 0
EachRoleHasItsUnit =
    run cell_with_roles (create (codes "E") 1000 ((ry, r1) ∷ (rx, r2) ∷ []) ∷ order Start 1 ∷ says r2 add Report.Done ∷ [])
    ≡ (reply (created 1 (codes "E") 1000 ((rx, r2) ∷ (ry, r1) ∷ []))
    ∷ reply (ordered Start 1 Running)
    ∷ move (begin 1 p0 (codes "E"))
    ∷ asks 1 p000 r2
    ∷ grants 1 p000 r2
    ∷ move (begin 1 p000 make)
    ∷ move (begin 1 p0000 charge)
    ∷ starts 1 p00000 r2 add
    ∷ reply (reported r2 add Report.Done 1 p00000 Running)
    ∷ move (end 1 p0000)
    ∷ move (end 1 p000)
    ∷ releases 1 p000 r2
    ∷ asks 1 p001 r1
    ∷ grants 1 p001 r1
    ∷ move (begin 1 p001 cook)
    ∷ move (begin 1 p0010 charge)
    ∷ starts 1 p00100 r1 add
    ∷ [])

-- one unit may take both roles
abbrev pub OneUnitTakesTwoRoles : Type 0
OneUnitTakesTwoRoles =
    run cell_with_roles (create (codes "E") 1000 ((rx, r2) ∷ (ry, r2) ∷ []) ∷ [])
    ≡ (reply (created 1 (codes "E") 1000 ((rx, r2) ∷ (ry, r2) ∷ [])) ∷ [])

-- creates that are refused for their bindings, and the last one for its size:
-- - the role isn't bound, beside a size in range and beside one out of range;
-- - the role is bound to a name of no unit;
-- - the role is bound twice;
-- - another name is bound, alone and beside the role;
-- - the size is out of range, beside a binding of the role
abbrev pub BadBindings : Type 0
BadBindings =
    run cell_with_roles
    (create (codes "B") 1000 [] ∷ create (codes "B") 0 [] ∷ create (codes "B") 1000 ((rx, hdr) ∷ [])
    ∷ create (codes "B") 1000 ((rx, r1) ∷ (rx, r2) ∷ []) ∷ create (codes "B") 1000 ((ry, r1) ∷ [])
    ∷ create (codes "B") 1000 ((rx, r1) ∷ (ry, r2) ∷ []) ∷ create (codes "B") 0 ((rx, r1) ∷ []) ∷ [])
    ≡ (refuses bad_binding
    ∷ refuses bad_binding
    ∷ refuses bad_binding
    ∷ refuses bad_binding
    ∷ refuses bad_binding
    ∷ refuses bad_binding
    ∷ refuses bad_size
    ∷ [])

-- a unit that isn't of the class, and one of two roles that isn't bound or is bound to no unit
abbrev pub NoCandidate : Type 0
NoCandidate =
    run cell_with_roles
    (create (codes "D") 1000 ((rx, r2) ∷ []) ∷ create (codes "E") 1000 ((rx, r1) ∷ [])
    ∷ create (codes "E") 1000 ((rx, r1) ∷ (ry, hdr) ∷ []) ∷ create (codes "D") 1000 ((rx, r1) ∷ []) ∷ [])
    ≡ (refuses bad_binding ∷ refuses bad_binding ∷ refuses bad_binding ∷ reply (created 1 (codes "D") 1000 ((rx, r1) ∷ [])) ∷ [])

-- a recipe without roles takes no pairs
abbrev pub NoRoleToBind : Type 0
NoRoleToBind = run cell (create name_a 1000 ((rx, r1) ∷ []) ∷ []) ≡ (refuses bad_binding ∷ [])

-- an unknown recipe and a full plant come before a bad binding
abbrev pub EarlierRefusals : Type 0
EarlierRefusals =
    run (record cell_with_roles { batch_limit = 1 })
    (create (codes "ZZ") 0 [] ∷ create (codes "B") 1000 ((rx, r1) ∷ []) ∷ create (codes "B") 0 [] ∷ [])
    ≡ (refuses unknown_recipe ∷ reply (created 1 (codes "B") 1000 ((rx, r1) ∷ [])) ∷ refuses full ∷ [])

-- X is 0, so the last branch is taken
abbrev pub ElseBranchIsTaken : Type 0
ElseBranchIsTaken =
    run cell (create (codes "J") 1000 [] ∷ order Start 1 ∷ [])
    ≡ (reply (created 1 (codes "J") 1000 [])
    ∷ reply (ordered Start 1 Running)
    ∷ move (begin 1 p0 (codes "J"))
    ∷ asks 1 p001 r2
    ∷ grants 1 p001 r2
    ∷ asks 1 p001 hdr
    ∷ grants 1 p001 hdr
    ∷ asks 1 p001 r1
    ∷ grants 1 p001 r1
    ∷ move (begin 1 p001 (codes "BAD"))
    ∷ move (begin 1 p0010 charge)
    ∷ starts 1 p00100 r2 add
    ∷ [])

-- the record of a batch of K whose first phase sets X
abbrev pub record_of_k : ℕ → List Out
record_of_k x = run cell (create (codes "K") 1000 [] ∷ order Start 1 ∷ report r1 add Report.Done ((x_name, x) ∷ []) ∷ [])

abbrev pub opened_k : List Out → List Out
opened_k more =
    reply (created 1 (codes "K") 1000 [])
    ∷ opened 1 (codes "K") r1 make charge (starts 1 p00000 r1 add ∷ reply (reported r1 add Report.Done 1 p00000 Running) ∷ more)

-- X is 2 by the report, so the branch whose condition asks for at least 2 is taken
abbrev pub OutputChoosesBranch : Type 0
OutputChoosesBranch = record_of_k 2 ≡ opened_k (starts 1 p000010 r1 heat ∷ [])

-- X is 1, so nothing is left to run
abbrev pub OutputChoosesElse : Type 0
OutputChoosesElse = record_of_k 1 ≡ opened_k (closed 1 r1 [])

-- A loop

abbrev pub opened_l : List Out → List Out
opened_l more = reply (created 1 (codes "L") 1000 []) ∷ opened 1 (codes "L") r1 make charge (starts 1 p00000 r1 add ∷ more)

-- that many further turns
abbrev pub turns : ℕ → List Out → List Out
turns zero more = more
turns (suc n) more = reply (reported r1 add Report.Done 1 p00000 Running) ∷ starts 1 p00000 r1 add ∷ turns n more

abbrev pub last_turn : List Out
last_turn = reply (reported r1 add Report.Done 1 p00000 Running) ∷ closed 1 r1 []

abbrev pub record_of_thousand : List Out
record_of_thousand = run cell (create (codes "L") 1000 [] ∷ order Start 1 ∷ replicate 1000 add_done)

-- the loop ends with its last turn
abbrev pub ThousandTurns : Type 0
ThousandTurns = record_of_thousand ≡ opened_l (turns 999 last_turn)

abbrev pub ThousandTurnsLength : Type 0
ThousandTurnsLength = length record_of_thousand ≡ 2012

abbrev pub ThousandTurnsEnd : Type 0
ThousandTurnsEnd = drop 2011 record_of_thousand ≡ (move (state 1 Complete) ∷ [])

abbrev pub record_of_three : List Out
record_of_three = run cell (create (codes "L") 1000 [] ∷ order Start 1 ∷ add_done ∷ add_done ∷ report r1 add Report.Done ((x_name, 1) ∷ []) ∷ [])

-- the loop ends when the third report sets X
abbrev pub ThreeTurns : Type 0
ThreeTurns = record_of_three ≡ opened_l (turns 2 last_turn)

abbrev pub ThreeTurnsLength : Type 0
ThreeTurnsLength = length record_of_three ≡ 18

-- Kinds before places

-- Batch 2 is granted both units while it is held. Once REST has ended at 0.0.0, its release is of kind 3. The release comes before the
-- begin of MAKE at 0.0.1, which is of kind 4 and stood possible all the time. Before that each begin and end of kind 4 comes in the order
-- of places: 0.0.0 begins and ends before 0.0.1 begins.
abbrev pub ReleaseBeforeBegin : Type 0
ReleaseBeforeBegin =
    run cell
    (create (codes "BOTH") 1000 [] ∷ create (codes "PAIR") 1000 [] ∷ order Start 1 ∷ order Start 2 ∷ order Hold 2 ∷ add_done ∷ order Restart 2 ∷ [])
    ≡ (reply (created 1 (codes "BOTH") 1000 [])
    ∷ reply (created 2 (codes "PAIR") 1000 [])
    ∷ reply (ordered Start 1 Running)
    ∷ move (begin 1 p0 (codes "BOTH"))
    ∷ asks 1 p00 r1
    ∷ grants 1 p00 r1
    ∷ asks 1 p00 r2
    ∷ grants 1 p00 r2
    ∷ entered 1 make charge
    (starts 1 p0000 r1 add
    ∷ reply (ordered Start 2 Running)
    ∷ move (begin 2 p0 (codes "PAIR"))
    ∷ asks 2 p000 r1
    ∷ asks 2 p001 r2
    ∷ reply (ordered Hold 2 Holding)
    ∷ move (state 2 Held)
    ∷ reply (reported r1 add Report.Done 1 p0000 Running)
    ∷ move (end 1 p000)
    ∷ move (end 1 p00)
    ∷ releases 1 p00 r2
    ∷ releases 1 p00 r1
    ∷ move (end 1 p0)
    ∷ move (state 1 Complete)
    ∷ grants 2 p000 r1
    ∷ grants 2 p001 r2
    ∷ reply (ordered Restart 2 Restarting)
    ∷ move (state 2 Running)
    ∷ move (begin 2 p000 (codes "REST"))
    ∷ move (end 2 p000)
    ∷ releases 2 p000 r1
    ∷ move (begin 2 p001 make)
    ∷ move (begin 2 p0010 charge)
    ∷ starts 2 p00100 r2 add
    ∷ []))

-- Batch 2 is granted HDR at 0.0.0.0.0 while it is held. When its other phase is done during the restart, the state is of
-- kind 2, the release at 0.0.0.0.1 of kind 3 and the start at 0.0.0.0.0 of kind 4, so the later place comes first.
abbrev pub ReleaseBeforeEarlierPlace : Type 0
ReleaseBeforeEarlierPlace =
    run cell
    (create (codes "P") 1000 [] ∷ create (codes "SIDES") 1000 [] ∷ order Start 1 ∷ order Start 2 ∷ order Hold 2 ∷ says r2 heat Report.Held
    ∷ says r1 add Report.Done ∷ order Restart 2 ∷ says r2 heat Report.Done ∷ [])
    ≡ (reply (created 1 (codes "P") 1000 [])
    ∷ reply (created 2 (codes "SIDES") 1000 [])
    ∷ opened 1 (codes "P") r1 (codes "U") (codes "O")
    (starts 1 p000010 r1 drain
    ∷ asks 1 p00000 hdr
    ∷ grants 1 p00000 hdr
    ∷ starts 1 p00000 r1 add
    ∷ opened 2 (codes "SIDES") r2 (codes "U") (codes "O")
    (asks 2 p00000 hdr
    ∷ asks 2 p00001 steam
    ∷ grants 2 p00001 steam
    ∷ starts 2 p00001 r2 heat
    ∷ reply (ordered Hold 2 Holding)
    ∷ move (send 2 p00001 (on r2 heat) Hold)
    ∷ reply (reported r2 heat Report.Held 2 p00001 Holding)
    ∷ move (state 2 Held)
    ∷ reply (reported r1 add Report.Done 1 p00000 Running)
    ∷ releases 1 p00000 hdr
    ∷ grants 2 p00000 hdr
    ∷ reply (ordered Restart 2 Restarting)
    ∷ move (send 2 p00001 (on r2 heat) Restart)
    ∷ reply (reported r2 heat Report.Done 2 p00001 Restarting)
    ∷ move (state 2 Running)
    ∷ releases 2 p00001 steam
    ∷ starts 2 p00000 r2 add
    ∷ [])))

-- Batch 2 is granted R1 at 0.0.0 while it is held. When its phase at 0.0.1.0.0 is done during the restart, the begins at and
-- below 0.0.0 and the ends at 0.0.1.0 and 0.0.1 are all of kind 4, so the earlier places come first.
abbrev pub BeginBeforeLaterEnd : Type 0
BeginBeforeLaterEnd =
    run cell
    (create_a ∷ create (codes "TWIN") 1000 [] ∷ order Start 1 ∷ order Start 2 ∷ order Hold 2 ∷ says r2 add Report.Held ∷ add_done
    ∷ order Restart 2 ∷ says r2 add Report.Done ∷ [])
    ≡ (created_a 1
    ∷ reply (created 2 (codes "TWIN") 1000 [])
    ∷ opened_a 1
    (reply (ordered Start 2 Running)
    ∷ move (begin 2 p0 (codes "TWIN"))
    ∷ asks 2 p000 r1
    ∷ asks 2 p001 r2
    ∷ grants 2 p001 r2
    ∷ move (begin 2 p001 (codes "RIGHT"))
    ∷ move (begin 2 p0010 charge)
    ∷ starts 2 p00100 r2 add
    ∷ reply (ordered Hold 2 Holding)
    ∷ move (send 2 p00100 (on r2 add) Hold)
    ∷ reply (reported r2 add Report.Held 2 p00100 Holding)
    ∷ move (state 2 Held)
    ∷ finished_a 1
    (grants 2 p000 r1
    ∷ reply (ordered Restart 2 Restarting)
    ∷ move (send 2 p00100 (on r2 add) Restart)
    ∷ reply (reported r2 add Report.Done 2 p00100 Restarting)
    ∷ move (state 2 Running)
    ∷ move (begin 2 p000 (codes "LEFT"))
    ∷ move (begin 2 p0000 charge)
    ∷ starts 2 p00000 r1 add
    ∷ move (end 2 p0010)
    ∷ move (end 2 p001)
    ∷ releases 2 p001 r2
    ∷ [])))
