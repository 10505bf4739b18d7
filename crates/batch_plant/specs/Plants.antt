-- surface: a plant that runs: a hub with a console at port 0 and a link at port 1.
use Rattle.std.specs.Prelude.{◌≡◌, ℕ, ◌≤◌, List, [], ◌∷◌, map, Option, Some, slice_get}
use Rattle.std.specs.List.{All}
use Rattle.batch_matrix.specs.declared.report.Report.{Report as Word}
use Rattle.batch_cell.specs.declared.cell.Cell.{Cell}
use Rattle.batch_sim.specs.declared.order.Order.{Order}
use Rattle.batch_engine.specs.declared.event.Event.{Event}
use Rattle.batch_engine.specs.declared.event.Event.TheVariants.{Report}
use Rattle.batch_desk.specs.declared.batch_plan.BatchPlan.{BatchPlan}
use Rattle.batch_desk.specs.Consoles.{IsConsoleEvent, creates, starts}
use Rattle.batch_desk.specs.DeskState.{DeskState}
use Rattle.batch_desk.specs.Due.{events_of}
use Rattle.batch_desk.specs.HubState.{AreFromPorts, HubState}
use Rattle.batch_desk.specs.Rings.{Ring, places_of}
use Rattle.batch_plant.specs.Links.{IsLinkRun}

-- a report of a phase
abbrev pub IsReport : Event → Type 0
IsReport (Report told) = Unit {0}
IsReport _ = ⊥

-- the events of a console: creates by this plan, for as many batches at most, and of each batch at most one start
pub record AreOfConsole (plan : BatchPlan) (batches : ℕ) (events : List Event) : Type 0 where
  pub each : All (IsConsoleEvent plan) events
  pub creates : creates events ≤ batches
  pub once : (n : ℕ) → starts n events ≤ 1

-- all events came from the two ports: those of port 0 are a console's, and those of port 1 are reports
pub record ComesFromDesks (plan : BatchPlan) (batches : ℕ) (h : HubState) : Type 0 where
  pub ports : AreFromPorts 2 h.history
  pub console : AreOfConsole plan batches (events_of 0 h.history)
  pub link : All IsReport (events_of 1 h.history)

-- the rings in which events come
abbrev pub event_rings : HubState → List Ring
event_rings h = map (λ p. p.events) h.ports

-- a link worked over these units at a desk whose events come to port 1; that port's events of the history are all that the desk sent
pub record HasLink {D : Type 0} (command_gives : D → ℕ → Order → D → Type 0) (tick_gives : D → Option (ℕ × Word) → D → Type 0) (cell : Cell) (units : List D) (h : HubState) : Type 0 where
  pub before : DeskState
  pub after : DeskState
  pub later : List D
  pub ring : slice_get (event_rings h) 1 ≡ Some after.events
  pub new : before.sent ≡ []
  pub works : IsLinkRun command_gives tick_gives cell before after units later
  pub all : events_of 1 h.history ≡ after.sent

-- the rings in which events come to the two ports have so many places
abbrev pub HasEventRings : ℕ → HubState → Type 0
HasEventRings places h = map places_of (event_rings h) ≡ places ∷ places ∷ []

-- rings of 1 to 64 places
abbrev pub HasRings : ℕ → Type 0
HasRings ring = (1 ≤ ring) × (ring ≤ 64)
