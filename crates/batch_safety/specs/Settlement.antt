-- trusted: if no move is possible, whoever waits waits for something.
use Rattle.std.specs.Prelude.{◌≡◌, ◌⊎◌, ◌≤◌, ◌<◌, ◌+◌, List, [], ◌∷◌, ◌++◌, length, IsTrue, None}
use Rattle.std.specs.List.{list_any}
use Rattle.batch_matrix.specs.declared.state.State.{State}
use Rattle.batch_matrix.specs.declared.state.State.TheVariants.{Pausing, Paused, Holding, Held, Restarting, Stopping, Aborting}
use Rattle.batch_matrix.specs.Matrix.{same_state}
use Rattle.batch_model.specs.Lists.{Has}
use Rattle.batch_model.specs.Rest.{live, acts}
use Rattle.batch_model.specs.Plant.{Setup, Batch, BatchAct, Share, units_in, Plant, opening, holders, askers}
use Rattle.batch_model.specs.Moves.{next}
use Rattle.batch_model.specs.Events.{Event}
use Rattle.batch_model.specs.Runs.{Out, Leads}
use Rattle.batch_model.specs.Records.{scene_of, Waiting, IsWaiting, IsAtOrAbove, Link, IsChain, StandsUnder}
use Rattle.batch_recipe.specs.Tree.{Step, Phase}
use Rattle.batch_model.specs.Cleared.{Ranking, IsCleared}
use Rattle.batch_record_laws.specs.Premises.{IsOfDocuments}
use Rattle.batch_recipe.specs.Conditions.{Name}

-- the batch isn't simply running
abbrev pub IsHalting : State → Type 0
IsHalting now = IsTrue (list_any (same_state now) (Pausing ∷ Paused ∷ Holding ∷ Held ∷ Restarting ∷ Stopping ∷ Aborting ∷ []))

-- the batch of the act is halting, or a phase is live at or below it
abbrev pub IsAtWork : Plant → BatchAct → Type 0
IsAtWork plant holder =
    (batch : Batch) × Has plant.batches batch × (batch.number ≡ holder.0)
    × (IsHalting batch.state
    ⊎ ((step : Step) × (phase : Phase) × (phase_state : State) × Has (acts batch.rest) (live step phase phase_state)
    × IsAtOrAbove holder.1 step.place))

pub record WaitsForSomething (setup : Setup) (plant : Plant) : Type 0 where
  -- each resource that is asked for has less free than its oldest ask wants, and somebody holds it
  pub held : (resource : Name) (oldest : Share) (later : List Share) → askers plant resource ≡ oldest ∷ later
      → (setup.capacity resource < units_in (holders plant resource) + oldest.units)
      × ((share : Share) × Has (holders plant resource) share)
  -- a chain has no more waiting steps than there are resources
  pub short : (links : List Link) → IsChain (scene_of plant) links → length links ≤ length setup.resources
  -- if a chain can't be continued, its last holder is at work
  pub ends : (links : List Link) (link : Link) → IsChain (scene_of plant) (links ++ link ∷ [])
      → ((waiting : Waiting) → IsWaiting (scene_of plant) waiting → StandsUnder link.holder waiting → ⊥) → IsAtWork plant link.holder

abbrev pub NobodyWaitsInVain : Type 0
NobodyWaitsInVain =
    (setup : Setup) (rank : Ranking) → IsOfDocuments setup → IsCleared setup rank
    → (events : List Event) (record_so_far : List Out) (plant : Plant) → Leads setup opening events record_so_far plant
    → next setup plant ≡ None → WaitsForSomething setup plant
