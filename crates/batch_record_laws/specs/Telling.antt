-- trusted: a record shows exactly the holders, the asks and the live phases of the plant that it leads to, and its batches' states.
use Rattle.std.specs.Prelude.{◌≡◌, List, length, Some, ◌↔◌, slice_get, ℕ}
use Rattle.batch_matrix.specs.declared.state.State.{State}
use Rattle.batch_model.specs.Lists.{Has}
use Rattle.batch_model.specs.Rest.{live, asking, acts}
use Rattle.batch_model.specs.Plant.{Setup, Batch, BatchAct, Share, units_in, Plant, opening, holders, askers}
use Rattle.batch_model.specs.Events.{Event}
use Rattle.batch_model.specs.Runs.{Out, Leads}
use Rattle.batch_model.specs.Records.{holders_told, waiters_told, active_told, state_told}
use Rattle.batch_model.specs.Cleared.{Ranking, IsCleared}
use Rattle.batch_recipe.specs.Conditions.{Name}
use Rattle.batch_recipe.specs.Tree.{Step, Phase, Task}
use Rattle.batch_record_laws.specs.Premises.{IsOfDocuments}
use Rattle.batch_recipe.specs.declared.need.Need.{Need}

abbrev pub HaveSame : {X : Type 0} → List X → List X → Type 0
HaveSame {X = X} xs ys = ((x : X) → Has xs x → Has ys x) × ((x : X) → Has ys x → Has xs x)

-- the phase is live at this act
abbrev pub IsLiveAt : Plant → BatchAct → Phase → Type 0
IsLiveAt plant act phase =
    (batch : Batch) × Has plant.batches batch × (batch.number ≡ act.0) × (step : Step) × (state : State)
    × Has (acts batch.rest) (live step phase state) × (step.place ≡ act.1)

-- the act asks for so much of the resource
abbrev pub IsAskingAt : Plant → BatchAct → Need → Type 0
IsAskingAt plant act need =
    (batch : Batch) × Has plant.batches batch × (batch.number ≡ act.0) × (step : Step) × (task : Task) × (granted : ℕ)
    × Has (acts batch.rest) (asking step task granted) × (step.place ≡ act.1)
    × (slice_get step.needs granted ≡ Some need)

pub record IsTold (outs : List Out) (plant : Plant) : Type 0 where
  pub held : (resource : Name) → HaveSame (holders_told outs resource) (holders plant resource)
  pub held_count : (resource : Name) → length (holders_told outs resource) ≡ length (holders plant resource)
  pub held_units : (resource : Name) → units_in (holders_told outs resource) ≡ units_in (holders plant resource)
  pub lines : (resource : Name) → waiters_told outs resource ≡ askers plant resource
  pub asks : (resource : Name) (share : Share)
      → Has (askers plant resource) share ↔ IsAskingAt plant share.act (record { resource = resource; units = share.units })
  pub ran : (act : BatchAct) (phase : Phase) → Has (active_told outs) (record { act = act; phase = phase }) → IsLiveAt plant act phase
  pub runs : (act : BatchAct) (phase : Phase) → IsLiveAt plant act phase → Has (active_told outs) (record { act = act; phase = phase })
  pub states : (batch : Batch) → Has plant.batches batch → state_told outs batch.number ≡ Some batch.state

abbrev pub TellsThePlant : Type 0
TellsThePlant =
    (setup : Setup) (rank : Ranking) → IsOfDocuments setup → IsCleared setup rank
    → (events : List Event) (record_so_far : List Out) (plant : Plant) → Leads setup opening events record_so_far plant
    → IsTold record_so_far plant
