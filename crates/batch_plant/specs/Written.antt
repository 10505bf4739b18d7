-- surface: the text that is written of ticks of a cell's units.
use Rattle.std.specs.Prelude.{◌≡◌, ◌⊎◌, ℕ, List, [], ◌∷◌, ◌++◌, flat_map, Option, Some, IsSome, Result, Ok, Err}
use Rattle.std.specs.Io.KnownBytes.{Appends}
use Rattle.batch_matrix.specs.declared.report.Report.{Report}
use Rattle.batch_model.specs.Events.{Event}
use Rattle.batch_model.specs.Moves.{Move}
use Rattle.batch_model.specs.Plant.{Plant, opening}
use Rattle.batch_model.specs.Records.{IsSafe}
use Rattle.batch_model.specs.Runs.{Out, reply, move, Leads}
use Rattle.batch_verify.specs.ClearedSet.{ClearedSet}
use Rattle.batch_engine.specs.View.{setup}
use Rattle.batch_wire.specs.RecordText.{out_text}
use Rattle.batch_wire.specs.Transcript.{Exchange, silence, handled, followed_by}
use Rattle.batch_wire.specs.Written.{AppendsBeginning}
use Rattle.batch_sim.specs.Units.{Ticks}
use Rattle.batch_sim.specs.declared.order.Order.{Order}
use Rattle.batch_plant.specs.Links.{report_in}
use Rattle.batch_plant.specs.Drive.{Standing, TakeOrders, Drives}
use Rattle.batch_plant.specs.declared.drive_fault.DriveFault.{DriveFault}
use Rattle.batch_plant.specs.declared.drive_fault.DriveFault.TheVariants.{Write, Memory}

-- the outs are the machine's record of the events, and whatever record led to the plant before, with them it is a safe one
pub record KeepsRecord (set : ClearedSet) (old : Plant) (said : Exchange) (new : Plant) : Type 0 where
  pub leads : Leads (setup set) old said.events said.outs new
  pub goes_on : (events : List Event) (outs : List Out) → Leads (setup set) opening events outs old
      → Leads (setup set) opening (events ++ said.events) (outs ++ said.outs) new × IsSafe (setup set) (outs ++ said.outs)

-- the moves among outs
abbrev pub moves_in : List Out → List Move
moves_in [] = []
moves_in (reply answer ∷ outs) = moves_in outs
moves_in (move m ∷ outs) = m ∷ moves_in outs

module _ {D : Type 0} (command_gives : D → ℕ → Order → D → Type 0) (tick_gives : D → Option (ℕ × Report) → D → Type 0) (set : ClearedSet) where
  -- the text of the exchange of these ticks was written
  pub record WritesTicks (units : List ℕ) (old new : Standing D) (before written : Option (List ℕ)) : Type 0 where
    pub said : Exchange
    pub drives : Drives command_gives tick_gives set units old said new
    pub record_kept : KeepsRecord set old.plant said new.plant
    pub appends : Appends before written said.text

  -- the answer of a unit was a report, which the machine isn't given
  pub record LosesReport (unit : ℕ) (old new : Standing D) : Type 0 where
    pub answer : Option (ℕ × Report)
    pub ticks : Ticks tick_gives unit old.units answer new.units
    pub reports : IsSome (report_in set.cell unit answer)
    pub same_plant : new.plant ≡ old.plant

  -- the text of the exchange of the ticks before one was written, and the report of that one was lost
  pub record WritesUntilLoss (units : List ℕ) (old new : Standing D) (before written : Option (List ℕ)) : Type 0 where
    pub earlier : List ℕ
    pub unit : ℕ
    pub others : List ℕ
    pub splits : units ≡ earlier ++ unit ∷ others
    pub mid : Standing D
    pub writes : WritesTicks earlier old mid before written
    pub loses : LosesReport unit mid new

  -- handling a report stopped: the machine has made the last of these outs, and a prefix of its line was written. The lines
  -- before it were written whole, and the units took the orders of these alone
  pub record StopsHandling (event : Event) (old : Standing D) (outs : List Out) (new : Standing D) (before written : Option (List ℕ)) : Type 0 where
    pub told : List Out
    pub last : Out
    pub tells : outs ≡ told ++ last ∷ []
    pub leads : Leads (setup set) old.plant (event ∷ []) outs new.plant
    pub orders : TakeOrders command_gives tick_gives set (moves_in told) old.units new.units
    pub mid : Option (List ℕ)
    pub whole : Appends before mid (flat_map out_text told)
    pub begins : AppendsBeginning mid written (out_text last)

  -- handling the report of a unit stopped
  pub record StopsTick (unit : ℕ) (old : Standing D) (said : Exchange) (new : Standing D) (before written : Option (List ℕ)) : Type 0 where
    pub answer : Option (ℕ × Report)
    pub after : List D
    pub ticks : Ticks tick_gives unit old.units answer after
    pub event : Event
    pub reports : report_in set.cell unit answer ≡ Some event
    pub outs : List Out
    pub stops : StopsHandling event (record { plant = old.plant; units = after }) outs new before written
    pub tells : said ≡ handled event outs

  -- nothing more was written, and the plant is as before; or handling the report of the next unit stopped
  abbrev pub Stops : List ℕ → Standing D → Exchange → Standing D → Option (List ℕ) → Option (List ℕ) → Type 0
  Stops others old said new before written =
      ((said ≡ silence) × (new ≡ old) × Appends before written [])
      ⊎ ((unit : ℕ) × (later : List ℕ) × (others ≡ unit ∷ later) × StopsTick unit old said new before written)

  -- the text of the exchange of the first ticks was written, and a prefix of that of the next
  pub record BeginsTicks (units : List ℕ) (old new : Standing D) (before written : Option (List ℕ)) : Type 0 where
    pub earlier : List ℕ
    pub others : List ℕ
    pub splits : units ≡ earlier ++ others
    pub mid : Standing D
    pub said : Exchange
    pub drives : Drives command_gives tick_gives set earlier old said mid
    pub between : Option (List ℕ)
    pub appends : Appends before between said.text
    pub last_said : Exchange
    pub stops : Stops others mid last_said new between written
    pub record_kept : KeepsRecord set old.plant (followed_by said last_said) new.plant
    pub begins : AppendsBeginning before written (followed_by said last_said).text

  -- the effect of these ticks, by the outcome
  abbrev pub IsDriven : List ℕ → Standing D → Result (Unit {0}) DriveFault → Standing D → Option (List ℕ) → Option (List ℕ) → Type 0
  IsDriven units old (Ok done) new before written = WritesTicks units old new before written
  IsDriven units old (Err Memory) new before written = WritesUntilLoss units old new before written
  IsDriven units old (Err Write) new before written = BeginsTicks units old new before written
