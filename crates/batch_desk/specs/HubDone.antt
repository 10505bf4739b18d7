-- surface: when a hub has nothing left to do for its first batches.
use Rattle.std.specs.Prelude.{◌≡◌, ℕ, ◌≤◌, [], Some, IsNone}
use Rattle.std.specs.List.{All}
use Rattle.batch_matrix.specs.declared.state.State.TheVariants.{Complete}
use Rattle.batch_engine.specs.Looked.{batch_state_in}
use Rattle.batch_engine.specs.View.{plant_of}
use Rattle.batch_desk.specs.PortState.{PortState}
use Rattle.batch_desk.specs.HubState.{HubState, IsEngineSettled}

abbrev pub IsComplete : ℕ → HubState → Type 0
IsComplete n h = batch_state_in (plant_of h.engine) n ≡ Some Complete

-- batches 1 to this number are complete
abbrev pub AreComplete : ℕ → HubState → Type 0
AreComplete batches h = (n : ℕ) → 1 ≤ n → n ≤ batches → IsComplete n h

-- no out waits for the port, unless it is closed
abbrev pub HasNoneWaiting : PortState → Type 0
HasNoneWaiting p = IsNone p.closed → p.waiting ≡ []

-- batches 1 to this number are complete, no move is possible, and nothing waits for an open port
pub record IsHubDone (batches : ℕ) (h : HubState) : Type 0 where
  pub complete : AreComplete batches h
  pub settled : IsEngineSettled h.engine
  pub told : All HasNoneWaiting h.ports
