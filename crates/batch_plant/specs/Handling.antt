-- private: the effects of a report, of a tick and of several, as far as they were written.
use Rattle.std.specs.Prelude.{◌≡◌, ℕ, List, [], ◌∷◌, ◌++◌, map, Option, Result, Ok, Err}
use Rattle.std.specs.Io.KnownBytes.{Appends}
use Rattle.batch_matrix.specs.declared.report.Report.{Report}
use Rattle.batch_model.specs.Events.{Event}
use Rattle.batch_model.specs.Moves.{Move}
use Rattle.batch_model.specs.Runs.{Out, move, Leads}
use Rattle.batch_verify.specs.ClearedSet.{ClearedSet}
use Rattle.batch_engine.specs.View.{setup}
use Rattle.batch_wire.specs.RecordText.{out_text}
use Rattle.batch_wire.specs.Transcript.{Exchange, Settles}
use Rattle.batch_wire.specs.Written.{AppendsBeginning}
use Rattle.batch_wire.specs.declared.fault.WriteFault.{WriteFault}
use Rattle.batch_serve.specs.Answering.{outs_text, moves_text}
use Rattle.batch_sim.specs.declared.order.Order.{Order}
use Rattle.batch_plant.specs.Drive.{Standing, TakeOrders, IsReported, Drives}
use Rattle.batch_plant.specs.Written.{LosesReport, StopsHandling, Stops}
use Rattle.batch_plant.specs.declared.drive_fault.DriveFault.{DriveFault}
use Rattle.batch_plant.specs.declared.drive_fault.DriveFault.TheVariants.{Write, Memory}

module _ {D : Type 0} (command_gives : D → ℕ → Order → D → Type 0) (tick_gives : D → Option (ℕ × Report) → D → Type 0) (set : ClearedSet) where
  -- making moves stopped: the line of the last wasn't written whole, and the units took the orders of those before it
  pub record StopsMoves (old new : Standing D) (before written : Option (List ℕ)) : Type 0 where
    pub made : List Move
    pub last : Move
    pub leads : Leads (setup set) old.plant [] (map move (made ++ last ∷ [])) new.plant
    pub orders : TakeOrders command_gives tick_gives set made old.units new.units
    pub mid : Option (List ℕ)
    pub whole : Appends before mid (moves_text made)
    pub begins : AppendsBeginning mid written (out_text (move last))

  -- moves are made and written until there is none, and the units take their orders
  abbrev pub WritesOrders : Standing D → Result (Unit {0}) WriteFault → Standing D → Option (List ℕ) → Option (List ℕ) → Type 0
  WritesOrders old (Ok done) new before written =
      (moves : List Move) × Settles (setup set) old.plant moves new.plant × TakeOrders command_gives tick_gives set moves old.units new.units
      × Appends before written (moves_text moves)
  WritesOrders old (Err fault) new before written =
      StopsMoves old new before written

  -- a report is handled, and its outs are written
  abbrev pub WritesReported : Event → Standing D → Result (Unit {0}) WriteFault → Standing D → Option (List ℕ) → Option (List ℕ) → Type 0
  WritesReported event old (Ok done) new before written =
      (outs : List Out) × IsReported command_gives tick_gives set event old outs new × Appends before written (outs_text outs)
  WritesReported event old (Err fault) new before written =
      (outs : List Out) × StopsHandling command_gives tick_gives set event old outs new before written

  -- the first of these ticks were driven, and a prefix of the text of the next was written
  pub record BeginsSome (units : List ℕ) (old new : Standing D) (before written : Option (List ℕ)) : Type 0 where
    pub earlier : List ℕ
    pub others : List ℕ
    pub splits : units ≡ earlier ++ others
    pub mid : Standing D
    pub said : Exchange
    pub drives : Drives command_gives tick_gives set earlier old said mid
    pub between : Option (List ℕ)
    pub appends : Appends before between said.text
    pub last_said : Exchange
    pub stops : Stops command_gives tick_gives set others mid last_said new between written

  -- the ticks before one were driven, and of that one the report was lost
  pub record LosesSome (units : List ℕ) (old new : Standing D) (before written : Option (List ℕ)) : Type 0 where
    pub earlier : List ℕ
    pub unit : ℕ
    pub others : List ℕ
    pub splits : units ≡ earlier ++ unit ∷ others
    pub mid : Standing D
    pub said : Exchange
    pub drives : Drives command_gives tick_gives set earlier old said mid
    pub appends : Appends before written said.text
    pub loses : LosesReport command_gives tick_gives set unit mid new

  -- the effect of these ticks, by the outcome
  abbrev pub DrivesSome : List ℕ → Standing D → Result (Unit {0}) DriveFault → Standing D → Option (List ℕ) → Option (List ℕ) → Type 0
  DrivesSome units old (Ok done) new before written = (said : Exchange) × Drives command_gives tick_gives set units old said new × Appends before written said.text
  DrivesSome units old (Err Memory) new before written = LosesSome units old new before written
  DrivesSome units old (Err Write) new before written = BeginsSome units old new before written
