-- surface: the effect of ticks of a cell's units: the machine handles their reports, and they take the orders of its moves.
use Rattle.std.specs.Prelude.{◌≡◌, ℕ, zero, suc, List, [], ◌∷◌, ◌++◌, Bool, Option, Some, None}
use Rattle.std.specs.List.{range_with_len}
use Rattle.batch_matrix.specs.declared.report.Report.{Report}
use Rattle.batch_recipe.specs.Tree.{Phase}
use Rattle.batch_model.specs.Events.{Event}
use Rattle.batch_model.specs.Moves.{Move, send, start}
use Rattle.batch_model.specs.Plant.{Plant}
use Rattle.batch_model.specs.Runs.{Out}
use Rattle.batch_verify.specs.ClearedSet.{ClearedSet}
use Rattle.batch_engine.specs.Names.{resource_name, phase_name}
use Rattle.batch_engine.specs.View.{setup}
use Rattle.batch_wire.specs.Transcript.{Exchange, silence, handled, followed_by, Handles}
use Rattle.batch_sim.specs.Units.{TakesOrder, Ticks}
use Rattle.batch_sim.specs.declared.order.Order.{Order}
use Rattle.batch_sim.specs.declared.order.Order.TheVariants.{Start, Send}
use Rattle.batch_plant.specs.Links.{report_in}

-- each unit of a cell once, in the order of their numbers, so many times
abbrev pub in_rounds : ℕ → ℕ → List ℕ
in_rounds units zero = []
in_rounds units (suc n) = range_with_len 0 units ++ in_rounds units n

-- the order that a move gives, and the phase that gets it
abbrev pub order_given_by : Move → Option (Phase × Order)
order_given_by (start n place phase values) = Some (phase, Start)
order_given_by (send n place phase command) = Some (phase, Send command)
order_given_by _ = None

-- the numbers of a unit and of one of its phases are those of this phase
pub record AreNumbersOf (set : ClearedSet) (unit phase : ℕ) (named : Phase) : Type 0 where
  pub unit_named : resource_name set unit ≡ named.unit
  pub phase_named : phase_name set unit phase ≡ named.name

-- the plant of the machine, and the drivers of the cell's units
pub record Standing (D : Type 0) : Type 0 where
  pub plant : Plant
  pub units : List D

module _ {D : Type 0} (command_gives : D → ℕ → Order → D → Type 0) (tick_gives : D → Option (ℕ × Report) → D → Type 0) (set : ClearedSet) where
  -- the units are given the order of a move, if it gives one
  abbrev pub TakeOrder : Move → List D → List D → Type 0
  TakeOrder m old new =
      elim (order_given_by m) [
        | None ↦ new ≡ old
        | Some (named, order) ↦
            (unit phase : ℕ) × (known : Bool) × AreNumbersOf set unit phase named × TakesOrder command_gives unit phase order old known new
      ]

  -- and so for one move after the other
  abbrev pub TakeOrders : List Move → List D → List D → Type 0
  TakeOrders [] old new = new ≡ old
  TakeOrders (m ∷ moves) old new = (mid : List D) × TakeOrder m old mid × TakeOrders moves mid new

  -- the machine handles a report, and the units take the orders of its moves
  pub record IsReported (event : Event) (old : Standing D) (outs : List Out) (new : Standing D) : Type 0 where
    pub handles : Handles (setup set) old.plant event outs new.plant
    pub orders : TakeOrders handles.moves old.units new.units

  -- the effect of the answer of a unit
  abbrev pub Comes : Option Event → Standing D → Exchange → Standing D → Type 0
  Comes None old said new = (said ≡ silence) × (new ≡ old)
  Comes (Some event) old said new = (outs : List Out) × IsReported event old outs new × (said ≡ handled event outs)

  -- one tick passes at the unit with this number
  pub record IsTick (unit : ℕ) (old : Standing D) (said : Exchange) (new : Standing D) : Type 0 where
    pub answer : Option (ℕ × Report)
    pub after : List D
    pub ticks : Ticks tick_gives unit old.units answer after
    pub comes : Comes (report_in set.cell unit answer) (record { plant = old.plant; units = after }) said new

  -- one tick passes at each of these units, one after the other
  abbrev pub Drives : List ℕ → Standing D → Exchange → Standing D → Type 0
  Drives [] old said new = (said ≡ silence) × (new ≡ old)
  Drives (unit ∷ others) old said new =
      (first rest : Exchange) × (mid : Standing D) × IsTick unit old first mid × Drives others mid rest new × (said ≡ followed_by first rest)
