-- trusted: the moves that a plant makes by itself: the possible ones, the next one, and the effect of each.
use Rattle.std.specs.Prelude.{ℕ, zero, suc, pred, List, [], ◌∷◌, ◌++◌, length, map, find, flat_map, Bool, true, false, ◌&&◌, ◌||◌, Option, Some, None, nat_eq, option_map, option_and_then, option_to_list, nat_le, ◌+◌, slice_get}
use Rattle.std.specs.List.{list_all, filter_map}
use Rattle.batch_matrix.specs.declared.state.State.{State}
use Rattle.batch_matrix.specs.declared.state.State.TheVariants.{Running, Pausing, Holding, Restarting, Stopping, Stopped, Aborting, Aborted, Complete}
use Rattle.batch_matrix.specs.declared.command.Command.{Command}
use Rattle.batch_matrix.specs.declared.command.Command.TheVariants.{Pause, Resume, Hold, Restart, Stop, Abort}
use Rattle.batch_matrix.specs.Matrix.{same_state, accepts, target, ends_as}
use Rattle.batch_recipe.specs.Conditions.{Name, ValueList, value_or_0}
use Rattle.batch_recipe.specs.Tree.{Place, is_before, Step, Phase, Tree, Task, runs, follows}
use Rattle.batch_recipe.specs.Following.{follower}
use Rattle.batch_recipe.specs.declared.need.Need.{Need}
use Rattle.batch_model.specs.Rest.{Rest, ready, asking, open_act, live, freeing, done, is_done, Moment, acts, reach}
use Rattle.batch_model.specs.Plant.{Setup, Batch, BatchAct, Share, units_in, Plant, is_same_act, with_share, without_share, moment_of, in_batch, in_act, held_in, phase_states, holders}
-- the value if the test holds, as std has it
pub use Rattle.std.specs.Bool.{then_some as when}

-- a move, with the contents of its record line: the number of its batch, mostly the place of an act, and the action there
pub data Move : Type 0 where
  send : ℕ → Place → Phase → Command → Move
  state : ℕ → State → Move
  release : ℕ → Place → Need → Move
  -- the second place is the one that the act's unit is passed to
  pass : ℕ → Place → Place → Need → Move
  begin : ℕ → Place → Name → Move
  start : ℕ → Place → Phase → ValueList → Move
  end : ℕ → Place → Move
  ask : ℕ → Place → Need → Move
  grant : ℕ → Place → Need → Move

-- The order of moves

abbrev pub batch_of : Move → ℕ
batch_of (send number place phase command) = number
batch_of (state number becomes) = number
batch_of (release number place need) = number
batch_of (pass number place to need) = number
batch_of (begin number place name) = number
batch_of (start number place phase handed) = number
batch_of (end number place) = number
batch_of (ask number place need) = number
batch_of (grant number place need) = number

abbrev pub kind_of : Move → ℕ
kind_of (send number place phase command) = 1
kind_of (state number becomes) = 2
kind_of (release number place need) = 3
kind_of (pass number place to need) = 3
kind_of (begin number place name) = 4
kind_of (start number place phase handed) = 4
kind_of (end number place) = 4
kind_of (ask number place need) = 5
kind_of (grant number place need) = 6

abbrev pub place_of_move : Move → Place
place_of_move (send number place phase command) = place
place_of_move (state number becomes) = []
place_of_move (release number place need) = place
place_of_move (pass number place to need) = place
place_of_move (begin number place name) = place
place_of_move (start number place phase handed) = place
place_of_move (end number place) = place
place_of_move (ask number place need) = place
place_of_move (grant number place need) = place

-- the move is made before the other: by batch, then kind, then place
abbrev pub order_of : Move → List ℕ
order_of move = batch_of move ∷ kind_of move ∷ place_of_move move

abbrev pub is_earlier : Move → Move → Bool
is_earlier move other = is_before (order_of move) (order_of other)

-- Possible moves

-- the state of a batch, and the command that it passes on to its live phases
abbrev pub passes : List (State × Command)
passes =
    (Running, Resume) ∷ (Pausing, Pause) ∷ (Holding, Hold) ∷ (Restarting, Restart) ∷ (Stopping, Stop) ∷ (Aborting, Abort) ∷ []

abbrev pub command_passed_on : State → Option Command
command_passed_on now = option_map (λ pair. pair.1) (find (λ pair. same_state pair.0 now) passes)

abbrev pub is_running : State → Bool
is_running now = same_state now Running

-- the batch is on its way to Stopped or Aborted
abbrev pub is_stopping : State → Bool
is_stopping now = same_state now Stopping || same_state now Aborting

abbrev pub is_stopped : State → Bool
is_stopped now = same_state now Stopped || same_state now Aborted

abbrev pub is_empty : {X : Type 0} → List X → Bool
is_empty [] = true
is_empty (x ∷ xs) = false

-- no phase is live
abbrev pub is_quiet : Rest → Bool
is_quiet rest = is_empty (phase_states (acts rest))

-- a batch with this rest may enter the state: Complete once its procedure is finished, Stopped or Aborted once no phase is live and
-- its acts hold nothing, any other state once all live phases are in it
abbrev pub is_reached : State → Rest → Bool
is_reached becomes rest =
    elim (is_stopped becomes) [
      | true ↦ is_quiet rest && is_empty (held_in rest)
      | false ↦ elim (same_state becomes Complete) [ true ↦ is_done rest | false ↦ list_all (λ now. same_state now becomes) (phase_states (acts rest)) ]
    ]

-- the values that a phase is handed
abbrev pub handed_values : ValueList → List Name → ValueList
handed_values values names = map (λ name. (name, value_or_0 values name)) names

-- the move by which an act begins that holds all its needs
abbrev pub beginning : Batch → Step → Task → Move
beginning batch step (runs phase) = start batch.number step.place phase (handed_values batch.values phase.handed)
beginning batch step (follows name chart) = begin batch.number step.place name

-- a ready act that holds all its needs begins, one that lacks a need asks for it
abbrev pub entering : Batch → Step → Task → ℕ → Option Move
entering batch step task held =
    elim (slice_get step.needs held) [ Some need ↦ Some (ask batch.number step.place need) | None ↦ Some (beginning batch step task) ]

-- the last of so many first needs of an act
abbrev pub last_held : Step → ℕ → Option Need
last_held step zero = None
last_held step (suc fewer) = slice_get step.needs fewer

-- the last held need is given back
abbrev pub giving_back : Batch → Step → ℕ → Option Move
giving_back batch step held = option_map (release batch.number step.place) (last_held step held)

-- the place of the unit procedure that a step reserves by the need with this number, if it follows the step
abbrev pub reserved_place : Tree → Step → ℕ → Option Place
reserved_place procedure step number =
    option_and_then (λ reserve. follower procedure step.place reserve.name) (find (λ reserve. nat_eq reserve.need number) step.reserves)

-- the last held need is passed to the unit procedure for which the step reserves it, else given back
abbrev pub handing_over : Batch → Step → ℕ → Option Move
handing_over batch step held =
    elim (reserved_place batch.recipe.procedure step (pred held)) [
      | None ↦ giving_back batch step held
      | Some to ↦ option_map (pass batch.number step.place to) (last_held step held)
    ]

-- the needed units of the resource are free, and the act is first in its queue
abbrev pub is_served : Setup → Plant → Need → BatchAct → Bool
is_served setup plant need act =
    nat_le (units_in (holders plant need.resource) + need.units) (setup.capacity need.resource)
    && elim (plant.line need.resource) [ [] ↦ false | first ∷ more ↦ is_same_act first.act act ]

-- the move that an act of a batch can make: there is at most one
abbrev pub act_move : Setup → Plant → Batch → Rest → Option Move
act_move setup plant batch (ready step task held) =
    elim (is_running batch.state) [
      | true ↦ entering batch step task held
      | false ↦ elim (is_stopping batch.state && is_quiet batch.rest) [ true ↦ giving_back batch step held | false ↦ None ]
    ]
act_move setup plant batch (asking step task held) =
    option_and_then (λ need. when (is_served setup plant need (batch.number, step.place)) (grant batch.number step.place need))
    (slice_get step.needs held)
act_move setup plant batch (open_act step rest) =
    elim (is_stopping batch.state || is_stopped batch.state) [
      | false ↦ when (is_done rest) (end batch.number step.place)
      | true ↦
          elim (is_stopping batch.state && is_quiet batch.rest && is_empty (held_in rest))
          [ true ↦ giving_back batch step (length step.needs) | false ↦ None ]
    ]
act_move setup plant batch (live step phase now) =
    option_and_then (λ command. when (accepts now command) (send batch.number step.place phase command)) (command_passed_on batch.state)
act_move setup plant batch (freeing step left) =
    elim (is_stopping batch.state || is_stopped batch.state) [ true ↦ giving_back batch step left | false ↦ handing_over batch step left ]
act_move setup plant batch _ = None

abbrev pub state_move : Batch → Option Move
state_move batch =
    option_and_then (λ becomes. when (is_reached becomes batch.rest) (state batch.number becomes)) (ends_as batch.state)

abbrev pub batch_moves : Setup → Plant → Batch → List Move
batch_moves setup plant batch = option_to_list (state_move batch) ++ filter_map (act_move setup plant batch) (acts batch.rest)

abbrev pub possible : Setup → Plant → List Move
possible setup plant = flat_map (batch_moves setup plant) plant.batches

abbrev pub least : List Move → Option Move
least [] = None
least (move ∷ more) =
    elim (least more) [ None ↦ Some move | Some other ↦ elim (is_earlier other move) [ true ↦ Some other | false ↦ Some move ] ]

-- the least possible move
abbrev pub next : Setup → Plant → Option Move
next setup plant = least (possible setup plant)

-- The effect of a move

-- an act that has ended and still holds so many of its first needs; it is finished if it holds none
abbrev pub freed : Step → ℕ → Rest
freed step zero = done
freed step (suc fewer) = freeing step (suc fewer)

abbrev pub sent : Command → Rest → Rest
sent command (live step phase now) = live step phase (target command)
sent command rest = rest

abbrev pub released : Rest → Rest
released (ready step task held) = ready step task (pred held)
released (open_act step rest) = freed step (pred (length step.needs))
released (freeing step left) = freed step (pred left)
released rest = rest

abbrev pub begun : Moment → Rest → Rest
begun moment (ready step (runs phase) held) = live step phase Running
begun moment (ready step (follows name chart) held) = open_act step (reach moment chart)
begun moment rest = rest

abbrev pub ended : Rest → Rest
ended (open_act step rest) = freed step (length step.needs)
ended (live step phase now) = freed step (length step.needs)
ended rest = rest

abbrev pub asked : Rest → Rest
asked (ready step task held) = asking step task held
asked rest = rest

abbrev pub granted : Rest → Rest
granted (asking step task held) = ready step task (suc held)
granted rest = rest

-- the effect of a move on the act at its place
abbrev pub act_after : Moment → Move → Rest → Rest
act_after moment (send number place phase command) = sent command
act_after moment (state number becomes) = λ rest. rest
act_after moment (release number place need) = released
act_after moment (pass number place to need) = released
act_after moment (begin number place name) = begun moment
act_after moment (start number place phase handed) = begun moment
act_after moment (end number place) = ended
act_after moment (ask number place need) = asked
act_after moment (grant number place need) = granted

abbrev pub line_after : Move → (Name → List Share) → Name → List Share
line_after (ask number place need) line resource = with_share resource (number, place) need (line resource)
line_after (grant number place need) line resource = without_share resource (number, place) need (line resource)
line_after _ line resource = line resource

-- the batch, which holds in advance also the unit, if any, that the move passes on
abbrev pub passing : Move → Batch → Batch
passing (pass number place to need) batch = record batch { in_advance = record { place = to; unit = need } ∷ batch.in_advance }
passing _ batch = batch

abbrev pub batch_after : Move → Batch → Batch
batch_after (state number becomes) batch = record batch { state = becomes }
batch_after move batch = in_act (place_of_move move) (act_after (moment_of batch) move) (passing move batch)

-- the plant after a move
abbrev pub after_move : Plant → Move → Plant
after_move plant move = record (in_batch (batch_of move) (batch_after move) plant) { line = line_after move plant.line }
