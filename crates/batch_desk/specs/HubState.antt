-- surface: the hub's account: its history and record, the engine that they lead to, and the ports.
use Rattle.std.specs.Prelude.{◌≡◌, ℕ, ◌<◌, ◌≤◌, ◌++◌, List, map, length, Option, None, IfSome, slice_index_or}
use Rattle.std.specs.List.{All}
use Rattle.batch_model.specs.Plant.{opening}
use Rattle.batch_model.specs.Moves.{next}
use Rattle.batch_model.specs.Events as Events
use Rattle.batch_model.specs.Runs as Runs
use Rattle.batch_model.specs.Runs.{Leads}
use Rattle.batch_verify.specs.ClearedSet.{ClearedSet}
use Rattle.batch_engine.specs.Surface.{event_of, out_of}
use Rattle.batch_engine.specs.View.{EngineView, setup, plant_of}
use Rattle.batch_engine.specs.declared.event.Event.{Event}
use Rattle.batch_engine.specs.declared.out.Out.{Out}
use Rattle.batch_desk.specs.Rings.{Ring}
use Rattle.batch_desk.specs.PortState.{PortState, outline, port_rings}
use Rattle.batch_desk.specs.Due.{due, events_of, up_to}

pub record HubState : Type 0 where
  pub engine : EngineView
  -- each event that was taken, with its port
  pub history : List (ℕ × Event)
  -- the record: all replies and moves so far
  pub outs : List Out
  pub ports : List PortState

-- the outs that were added for the port: those put into its ring, and behind them its queue
abbrev pub port_outs : PortState → List Out
port_outs p = p.put ++ p.waiting

-- the events that were taken from the port are its events in the history, and until it is sealed the outs added for it are those due
-- to it
pub record IsPort (history : List (ℕ × Event)) (outs : List Out) (port : ℕ) (p : PortState) : Type 0 where
  pub taken : p.taken ≡ events_of port history
  pub told : IfSome p.outs (λ _. port_outs p ≡ due p.scope port history (up_to p.closed outs))
  pub closed : IfSome p.closed (λ n. n ≤ length outs)

abbrev pub ArePorts : List (ℕ × Event) → List Out → List PortState → Type 0
ArePorts history outs ps = (k : ℕ) (p : PortState) → k < length ps → p ≡ slice_index_or ps k p → IsPort history outs k p

-- each event of a history came from one of so many ports
abbrev pub AreFromPorts : ℕ → List (ℕ × Event) → Type 0
AreFromPorts ports history = All (λ entry. entry.0 < ports) history

-- a history has grown at its end, by events from so many ports
pub record HasHistoryGrown (ports : ℕ) (old new : List (ℕ × Event)) : Type 0 where
  pub more : List (ℕ × Event)
  pub is : new ≡ old ++ more
  pub each : AreFromPorts ports more

-- the events of a history, and the outs of a record, as the machine has them

abbrev pub events_in : List (ℕ × Event) → List Events.Event
events_in history = map (λ entry. event_of entry.1) history

abbrev pub outs_in : ClearedSet → List Out → List Runs.Out
outs_in c outs = map (out_of c) outs

-- the record is the machine's for the events of the history, the engine is where that leads, and each port has its share
pub record IsHub (h : HubState) : Type 0 where
  pub leads : Leads (setup h.engine.cleared) opening (events_in h.history) (outs_in h.engine.cleared h.outs) (plant_of h.engine)
  pub ports : ArePorts h.history h.outs h.ports

-- the parts of the ports that no turn changes
abbrev pub outlines : HubState → List PortState
outlines h = map outline h.ports

-- which rings belong to the ports
abbrev pub rings : HubState → List (Ring × Option Ring)
rings h = map port_rings h.ports

-- no move is possible
abbrev pub IsEngineSettled : EngineView → Type 0
IsEngineSettled v = next (setup v.cleared) (plant_of v) ≡ None
