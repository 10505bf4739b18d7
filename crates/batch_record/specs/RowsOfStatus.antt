-- worked rows: the states that lines of a record give, recovery blocks among them, and lines that are none of a record.
use Rattle.std.specs.Prelude.{◌≡◌, ℕ, List, [], ◌∷◌, ◌++◌, codes, take, Some, None}
use Rattle.batch_matrix.specs.declared.state.State.{State}
use Rattle.batch_matrix.specs.declared.state.State.TheVariants.{Running, Holding, Held, Restarting, Stopping, Complete}
use Rattle.batch_model.specs.Plant.{Share}
use Rattle.batch_record.specs.Blocks.{opening_stage, stages}
use Rattle.batch_record.specs.Telling.{Listed, Live, Tale}

-- the lines are a record's, and the state by it has this property
abbrev pub Tell : List (List ℕ) → (Tale → Type 0) → Type 0
Tell lines P = elim (stages opening_stage lines) [ None ↦ ⊥ | Some stage ↦ P stage.tale ]

abbrev pub share : ℕ → List ℕ → ℕ → Share
share batch place units = record { act = (batch, place); units = units }

-- the phase ADD of R1, of the first batch
abbrev pub adding : State → Live
adding now = record { act = (1, 0 ∷ 0 ∷ 0 ∷ 0 ∷ []); unit = codes "R1"; name = codes "ADD"; state = now }

abbrev pub of_recipe_a : State → Listed
of_recipe_a now = record { recipe = codes "A"; size = 1000; state = now }

-- a batch of one phase, from its making to its end
abbrev pub one_batch : List (List ℕ)
one_batch =
    codes "created 1 A 1000" ∷ codes "ok start 1 running" ∷ codes "begin 1 0 A" ∷ codes "ask 1 0.0 R1" ∷ codes "grant 1 0.0 R1"
    ∷ codes "begin 1 0.0 MAKE" ∷ codes "begin 1 0.0.0 CHARGE" ∷ codes "start 1 0.0.0.0 R1 ADD" ∷ codes "ok report R1 ADD done 1 0.0.0.0 running"
    ∷ codes "end 1 0.0.0" ∷ codes "end 1 0.0" ∷ codes "release 1 0.0 R1" ∷ codes "end 1 0" ∷ codes "state 1 complete" ∷ []

abbrev pub Waits : Type 0
Waits = Tell (take 4 one_batch) (λ tale. (tale.waiters (codes "R1") ≡ share 1 (0 ∷ 0 ∷ []) 1 ∷ []) × (tale.holders (codes "R1") ≡ []) × (tale.waiters (codes "R2") ≡ []))

abbrev pub Runs : Type 0
Runs = Tell (take 8 one_batch) (λ tale. (tale.waiters (codes "R1") ≡ []) × (tale.holders (codes "R1") ≡ share 1 (0 ∷ 0 ∷ []) 1 ∷ [])
    × (tale.live ≡ adding Running ∷ []) × (tale.batches 1 ≡ Some (of_recipe_a Running)) × (tale.batches 2 ≡ None))

abbrev pub Rests : Type 0
Rests = Tell one_batch (λ tale. (tale.holders (codes "R1") ≡ []) × (tale.live ≡ []) × (tale.batches 1 ≡ Some (of_recipe_a Complete)))

-- a removed batch isn't listed, and a later line of it doesn't list it again
abbrev pub Removed : Type 0
Removed = Tell (one_batch ++ codes "ok remove 1" ∷ codes "state 1 running" ∷ []) (λ tale. tale.batches 1 ≡ None)

-- the effect of a stop: the batch's ask is gone, and another's stands
abbrev pub StopsWaiting : Type 0
StopsWaiting = Tell (codes "ask 1 0.0 STEAM*2" ∷ codes "ask 2 0.0 STEAM" ∷ codes "ok stop 1 stopping" ∷ [])
    (λ tale. tale.waiters (codes "STEAM") ≡ share 2 (0 ∷ 0 ∷ []) 1 ∷ [])

-- a unit that is passed is held at the other place, and nowhere is it free between
abbrev pub HoldsAtTheOther : Type 0
HoldsAtTheOther = Tell (codes "grant 1 0.0.0 R2" ∷ codes "pass 1 0.0.0 0.1 R2" ∷ []) (λ tale. tale.holders (codes "R2") ≡ share 1 (0 ∷ 1 ∷ []) 1 ∷ [])

abbrev pub after_start : List (List ℕ) → (Tale → Type 0) → Type 0
after_start lines P = Tell (take 8 one_batch ++ lines) P

-- the states after commands and reports; a fault changes none
abbrev pub IsHolding : Type 0
IsHolding = after_start (codes "send 1 0.0.0.0 R1 ADD hold" ∷ codes "ok report R1 ADD fault 1 0.0.0.0 holding" ∷ []) (λ tale. tale.live ≡ adding Holding ∷ [])

abbrev pub IsHeld : Type 0
IsHeld = after_start (codes "send 1 0.0.0.0 R1 ADD hold" ∷ codes "ok report R1 ADD held 1 0.0.0.0 holding" ∷ []) (λ tale. tale.live ≡ adding Held ∷ [])

abbrev pub IsRestarting : Type 0
IsRestarting = after_start
    (codes "send 1 0.0.0.0 R1 ADD hold" ∷ codes "ok report R1 ADD held 1 0.0.0.0 holding" ∷ codes "send 1 0.0.0.0 R1 ADD restart" ∷ [])
    (λ tale. tale.live ≡ adding Restarting ∷ [])

abbrev pub HasStopped : Type 0
HasStopped = after_start (codes "send 1 0.0.0.0 R1 ADD stop" ∷ codes "ok report R1 ADD stopped 1 0.0.0.0 stopping" ∷ []) (λ tale. tale.live ≡ [])

-- the commands of another place lead this phase nowhere
abbrev pub IsElsewhere : Type 0
IsElsewhere = after_start (codes "send 1 0.0.0.1 R1 ADD hold" ∷ codes "send 2 0.0.0.0 R1 ADD hold" ∷ []) (λ tale. tale.live ≡ adding Running ∷ [])

-- Recovery blocks

abbrev pub block : List (List ℕ)
block =
    codes "# recovered 4 lines" ∷ codes "# batch 7 A 1000 stopping" ∷ codes "# holds R2 7 0.0 1" ∷ codes "# holds STEAM 7 0 3" ∷ codes "# waits HDR 7 0.0 2"
    ∷ codes "# runs R2 ADD 7 0.0.0.0 stopping" ∷ codes "# end" ∷ []

abbrev pub TakesThePlace : Type 0
TakesThePlace = after_start block (λ tale. (tale.batches 1 ≡ None) × (tale.holders (codes "R1") ≡ []) × (tale.batches 7 ≡ Some (of_recipe_a Stopping))
    × (tale.holders (codes "STEAM") ≡ share 7 (0 ∷ []) 3 ∷ []) × (tale.waiters (codes "HDR") ≡ share 7 (0 ∷ 0 ∷ []) 2 ∷ [])
    × (tale.live ≡ record { act = (7, 0 ∷ 0 ∷ 0 ∷ 0 ∷ []); unit = codes "R2"; name = codes "ADD"; state = Stopping } ∷ []))

-- a block that doesn't end has no effect, and neither has one that an out breaks off
abbrev pub TellsNothingYet : Type 0
TellsNothingYet = after_start (take 6 block) (λ tale. (tale.batches 7 ≡ None) × (tale.live ≡ adding Running ∷ []))

abbrev pub IsBrokenOff : Type 0
IsBrokenOff = after_start (take 6 block ++ codes "state 1 held" ∷ codes "# end" ∷ []) (λ tale. (tale.batches 7 ≡ None) × (tale.batches 1 ≡ Some (of_recipe_a Held)))

-- other comments, and answers to lines that the machine never saw, have no effect
abbrev pub ArePassedOver : Type 0
ArePassedOver = after_start (codes "# at 17" ∷ codes "refused W4" ∷ codes "refused E2" ∷ codes "# end" ∷ codes "# batch 7 A 1000 idle" ∷ [])
    (λ tale. (tale.batches 7 ≡ None) × (tale.live ≡ adding Running ∷ []))

-- no line of a record
abbrev pub NoRecord : Type 0
NoRecord = (stages opening_stage (codes "fly" ∷ []) ≡ None) × (stages opening_stage (codes "created 1 A 1000" ∷ codes "holds R1 1 0.0 1" ∷ []) ≡ None)
