-- surface: the work of a link: it gives the units the orders of the moves that its desk takes, and sends the units' reports.
use Rattle.std.specs.Prelude.{◌≡◌, ℕ, ◌+◌, ◌≤◌, cond, nat_lt, List, [], ◌∷◌, ◌++◌, length, map, Bool, Option, Some, None, slice_get, unwrap_or}
use Rattle.batch_matrix.specs.declared.report.Report.{Report}
use Rattle.batch_cell.specs.LookUps.{units_of, resources_of, phases_of}
use Rattle.batch_cell.specs.declared.cell.Cell.{Cell}
use Rattle.batch_recipe.specs.Conditions.{Name}
use Rattle.batch_model.specs.Events as Events
use Rattle.batch_engine.specs.Surface.{event_of}
use Rattle.batch_engine.specs.declared.event.Event.{Event}
use Rattle.batch_engine.specs.declared.line.Line.TheVariants.{Send, Start}
use Rattle.batch_engine.specs.declared.out.Out.{Out}
use Rattle.batch_engine.specs.declared.out.Out.TheVariants.{Move}
use Rattle.batch_sim.specs.Units.{TakesOrder, Ticks}
use Rattle.batch_sim.specs.declared.order.Order.{Order}
use Rattle.batch_sim.specs.declared.order.Order.TheVariants as orders
use Rattle.batch_desk.specs.DeskState.{DeskState}

-- the report of a unit's phase, by their names: none if the unit doesn't have the phase
abbrev pub report_named : Name → Option Name → Report → Option Events.Event
report_named unit None word = None
report_named unit (Some phase) word = Some (Events.report unit phase word [])

-- the report of a unit's answer to a tick: none if it doesn't answer, or answers for a phase number that it doesn't have
abbrev pub report_in : Cell → ℕ → Option (ℕ × Report) → Option Events.Event
report_in cell unit None = None
report_in cell unit (Some (phase, word)) =
    report_named (unwrap_or (slice_get (resources_of cell) unit) []) (slice_get (phases_of cell unit) phase) word

-- the order that an out gives, with the unit and the phase that get it
abbrev pub order_in : Out → Option (ℕ × ℕ × Order)
order_in (Move (Start batch recipe node unit phase values)) = Some (unit, phase, orders.Start)
order_in (Move (Send batch recipe node unit phase command)) = Some (unit, phase, orders.Send command)
order_in _ = None

-- a deed of a link: its desk took an out, and the units were given its order; or one tick passed at a unit, which answered
pub data Deed : Type 0 where
  took : Out → Deed
  ticked : ℕ → Option (ℕ × Report) → Deed

-- the outs that were taken
abbrev pub outs_taken : List Deed → List Out
outs_taken [] = []
outs_taken (took out ∷ deeds) = out ∷ outs_taken deeds
outs_taken (ticked unit answer ∷ deeds) = outs_taken deeds

abbrev pub event_list : Option Events.Event → List Events.Event
event_list None = []
event_list (Some event) = event ∷ []

-- the reports that the units answered with
abbrev pub reports_made : Cell → List Deed → List Events.Event
reports_made cell [] = []
reports_made cell (took out ∷ deeds) = reports_made cell deeds
reports_made cell (ticked unit answer ∷ deeds) = event_list (report_in cell unit answer) ++ reports_made cell deeds

-- the unit that comes after this one in turn, where there are so many
abbrev pub unit_after : ℕ → ℕ → ℕ
unit_after units unit = cond (nat_lt (unit + 1) units) (unit + 1) 0

-- the state of a link: its desk, its units, the number of the unit that is the next to tick, and the report that it keeps
pub record Linked (D : Type 0) : Type 0 where
  pub desk : DeskState
  pub units : List D
  pub next : ℕ
  pub kept : List Events.Event

module _ {D : Type 0} (command_gives : D → ℕ → Order → D → Type 0) (tick_gives : D → Option (ℕ × Report) → D → Type 0) where
  -- the units are given the order of an out, if it gives one
  abbrev pub TakeOut : Out → List D → List D → Type 0
  TakeOut out old new =
      elim (order_in out) [
        | None ↦ new ≡ old
        | Some (unit, phase, order) ↦ (known : Bool) × TakesOrder command_gives unit phase order old known new
      ]

  -- the effect of the deeds on the units, which tick in turn
  abbrev pub AreDone : ℕ → List Deed → ℕ → List D → ℕ → List D → Type 0
  AreDone count [] unit old next new = (next ≡ unit) × (new ≡ old)
  AreDone count (took out ∷ deeds) unit old next new = (mid : List D) × TakeOut out old mid × AreDone count deeds unit mid next new
  AreDone count (ticked number answer ∷ deeds) unit old next new =
      (number ≡ unit) × (mid : List D) × Ticks tick_gives number old answer mid × AreDone count deeds (unit_after count unit) mid next new

  -- the deeds were done. The outs taken are theirs. The reports kept before and those of the deeds were sent, each once and in
  -- order, but for those kept after
  pub record Links (cell : Cell) (s t : Linked D) : Type 0 where
    pub events : t.desk.events ≡ s.desk.events
    pub outs : t.desk.outs ≡ s.desk.outs
    pub deeds : List Deed
    pub done : AreDone (length (units_of cell)) deeds s.next s.units t.next t.units
    pub taken : t.desk.taken ≡ s.desk.taken ++ outs_taken deeds
    pub more : List Event
    pub sent : t.desk.sent ≡ s.desk.sent ++ more
    pub reports : map event_of more ++ t.kept ≡ s.kept ++ reports_made cell deeds

  -- a link that keeps nothing begins with the first unit; at its end it keeps at most one report
  pub record IsLinkRun (cell : Cell) (d e : DeskState) (old new : List D) : Type 0 where
    pub next : ℕ
    pub kept : List Events.Event
    pub few : length kept ≤ 1
    pub links : Links cell (record { desk = d; units = old; next = 0; kept = [] }) (record { desk = e; units = new; next = next; kept = kept })
