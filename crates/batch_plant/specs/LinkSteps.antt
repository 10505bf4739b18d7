-- private: the steps of a link's turn.
use Rattle.std.specs.Prelude.{◌≡◌, ℕ, ◌<◌, ◌≤◌, ◌-◌, List, [], ◌++◌, length, map, Option, Some, None, IfSome}
use Rattle.batch_matrix.specs.declared.report.Report.{Report}
use Rattle.batch_cell.specs.LookUps.{units_of}
use Rattle.batch_cell.specs.declared.cell.Cell.{Cell}
use Rattle.batch_model.specs.Events as Events
use Rattle.batch_engine.specs.Surface.{event_of}
use Rattle.batch_engine.specs.declared.event.Event.{Event}
use Rattle.batch_sim.specs.Units.{Ticks}
use Rattle.batch_desk.specs.Consoles.{completes}
use Rattle.batch_desk.specs.DeskState.{DeskState}
use Rattle.batch_plant.specs.Links.{Linked, event_list, report_in}
use Rattle.batch_plant.specs.declared.answer.Answer.{Answer}
use Rattle.batch_plant.specs.declared.link.Link.{Link}

-- the report that is kept
abbrev pub kept_in : Cell → Option Answer → List Events.Event
kept_in cell None = []
kept_in cell (Some answer) = event_list (report_in cell answer.unit (Some (answer.phase, answer.word)))

abbrev pub linked : {D : Type 0} → Cell → Link → DeskState → List D → Linked D
linked cell link desk units = record { desk = desk; units = units; next = link.next; kept = kept_in cell link.kept }

-- the unit that is the next to tick, and that of the answer that is kept, are units of the cell
pub record KnowsUnits (cell : Cell) (link : Link) : Type 0 where
  pub next : link.next < length (units_of cell)
  pub kept : IfSome link.kept (λ answer. answer.unit < length (units_of cell))

-- fewer batches are left by those that the outs taken complete
pub record Counts (old : Link) (d : DeskState) (new : Link) (e : DeskState) : Type 0 where
  pub more : completes d.taken ≤ completes e.taken
  pub left : new.left ≡ old.left - (completes e.taken - completes d.taken)

-- the report that was kept was sent, or is kept
pub record SendsKept (cell : Cell) (old : Link) (d : DeskState) (new : Link) (e : DeskState) : Type 0 where
  pub left : new.left ≡ old.left
  pub next : new.next ≡ old.next
  pub events : e.events ≡ d.events
  pub outs : e.outs ≡ d.outs
  pub taken : e.taken ≡ d.taken
  pub more : List Event
  pub sent : e.sent ≡ d.sent ++ more
  pub reports : map event_of more ++ kept_in cell new.kept ≡ kept_in cell old.kept

-- one tick passed at a unit, and its report is kept
pub record TicksUnit {D : Type 0} (tick_gives : D → Option (ℕ × Report) → D → Type 0) (cell : Cell) (unit : ℕ) (old : List D) (kept : Option Answer) (new : List D) : Type 0 where
  pub answer : Option (ℕ × Report)
  pub ticks : Ticks tick_gives unit old answer new
  pub same : kept_in cell kept ≡ event_list (report_in cell unit answer)
