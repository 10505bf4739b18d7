-- private: the parts of a plant, before and after they ran.
use Rattle.std.specs.Prelude.{◌≡◌, ℕ, List, [], ◌∷◌, ◌++◌, ◌+◌, length, map, Option, Some, IsSomeAnd, slice_get}
use Rattle.std.specs.List.{All}
use Rattle.batch_matrix.specs.declared.report.Report.{Report}
use Rattle.batch_cell.specs.declared.cell.Cell.{Cell}
use Rattle.batch_sim.specs.declared.order.Order.{Order}
use Rattle.batch_engine.specs.declared.event.Event.{Event}
use Rattle.batch_engine.specs.declared.out.Out.{Out}
use Rattle.batch_desk.specs.Due.{due, up_to}
use Rattle.batch_desk.specs.DeskState.{DeskState, desk_rings}
use Rattle.batch_desk.specs.HubDone.{AreComplete}
use Rattle.batch_desk.specs.HubState.{HasHistoryGrown, HubState, rings}
use Rattle.batch_desk.specs.Plans.{sizes_made}
use Rattle.batch_plant.specs.Links.{IsLinkRun}
use Rattle.batch_plant.specs.Plants.{IsReport}

-- the console's desk is that of port 0, and the link's that of port 1
pub record AreParts (h : HubState) (console link : DeskState) : Type 0 where
  pub of_console : slice_get (rings h) 0 ≡ Some (desk_rings console)
  pub of_link : slice_get (rings h) 1 ≡ Some (desk_rings link)

-- both rings of both ports have so many places
abbrev pub HaveRings : ℕ → HubState → Type 0
HaveRings places h = map sizes_made h.ports ≡ (places, Some places) ∷ (places, Some places) ∷ []

-- a hub whose batches are complete
pub record HubRan (batches : ℕ) (h g : HubState) : Type 0 where
  pub rings : rings g ≡ rings h
  pub cleared : g.engine.cleared ≡ h.engine.cleared
  pub complete : AreComplete batches g
  pub history : HasHistoryGrown (length h.ports) h.history g.history

-- a desk at which a link worked over these units, and that has sent reports
pub record LinkRan {D : Type 0} (command_gives : D → ℕ → Order → D → Type 0) (tick_gives : D → Option (ℕ × Report) → D → Type 0) (cell : Cell) (units : List D) (d e : DeskState) : Type 0 where
  pub events : e.events ≡ d.events
  pub outs : e.outs ≡ d.outs
  pub more : List Event
  pub sent : e.sent ≡ d.sent ++ more
  pub each : All IsReport more
  pub later : List D
  pub works : IsLinkRun command_gives tick_gives cell d e units later

-- so many outs are left of those that a port is due, after these were taken
abbrev pub IsRest : ℕ → HubState → List Out → ℕ → Type 0
IsRest port h taken rest = IsSomeAnd (slice_get h.ports port) (λ p. length taken + rest ≡ length (due p.scope port h.history (up_to p.closed h.outs)))
