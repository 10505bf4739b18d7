-- private: desks whose rings are made.
use Rattle.std.specs.Prelude.{◌≡◌, ℕ, ◌<◌, ◌+◌, false, List, [], ◌∷◌, ◌++◌, length, get_or, None, IsSome, option_map, string_bytes}
use Rattle.rtrb.specs.Ring.{sent}
use Rattle.batch_reader.specs.DeskNames.{desk_names}
use Rattle.batch_reader.specs.declared.desk.Desk as plans
use Rattle.batch_engine.specs.View.{EngineView}
use Rattle.batch_serve.specs.declared.desk.ServedDesk.{ServedDesk}
use Rattle.batch_serve.specs.declared.desk_server.DeskServer.{DeskServer}
use Rattle.batch_serve.specs.declared.rounds.Reader.{Reader}
use Rattle.batch_serve.specs.declared.rounds.Writer.{Writer}
use Rattle.batch_pipes.specs.Inputs.{IsNewReader}
use Rattle.batch_pipes.specs.declared.input_order.InputOrder.{InputOrder}
use Rattle.batch_pipes.specs.declared.ports.Ports.{Ports}

-- no line is queued, nothing came out of a ring but the path of the desk's input, and nothing went into the ring of its writer
pub record AreEmpty {P : Type 0} (desks : List plans.Desk) (s : DeskServer) (p : Ports P) : Type 0 where
  pub waits : (k : ℕ) (other : ServedDesk) → k < length s.desks.items → (get_or s.desks.items k other).waiting.lines ≡ []
  pub came : (k : ℕ) (plan : plans.Desk) (reader : Reader (InputOrder P)) → k < length s.desks.items
      → IsNewReader (option_map string_bytes (get_or desks k plan).input) (get_or p.readers.items k reader)
  pub went : (k : ℕ) (writer : Writer) → k < length s.desks.items → sent (get_or p.writers.items k writer).ring ≡ []

-- the server is over the engine, for desks of these names, before anything was served
pub record IsOpened {P : Type 0} (engine : EngineView) (desks : List plans.Desk) (s : DeskServer) (p : Ports P) : Type 0 where
  pub engine_is : s.engine ≡ engine
  pub names : s.names.items ≡ desk_names desks
  pub units : (k : ℕ) (other : ServedDesk) (plan : plans.Desk) → k < length s.desks.items → (get_or s.desks.items k other).unit ≡ (get_or desks k plan).unit
  pub last : s.last ≡ None
  pub group : s.group.items ≡ []
  pub empty : AreEmpty desks s p

-- a desk of this name was added to the server
pub record IsDeskAdded (name : List ℕ) (desk : ServedDesk) (old new : DeskServer) : Type 0 where
  pub engine : new.engine ≡ old.engine
  pub names : new.names.items ≡ old.names.items ++ name ∷ []
  pub last : new.last ≡ old.last
  pub group : new.group.items ≡ old.group.items
  pub desks : new.desks.items ≡ old.desks.items ++ desk ∷ []

-- the ends of a desk's rings were added to the ports, and its threads
pub record ArePortsAdded {P : Type 0} (reader : Reader (InputOrder P)) (writer : Writer) (before after : Ports P) : Type 0 where
  pub readers : after.readers.items ≡ before.readers.items ++ reader ∷ []
  pub writers : after.writers.items ≡ before.writers.items ++ writer ∷ []
  pub threads : length after.threads.items ≡ length before.threads.items + 1

-- one desk more, of this plan, which isn't cut, with an empty queue and new rings; a desk without an output is never slow
pub record IsOpenedOn {P : Type 0} (plan : plans.Desk) (old new : DeskServer) (before after : Ports P) : Type 0 where
  pub desk : ServedDesk
  pub reader : Reader (InputOrder P)
  pub writer : Writer
  pub desks : IsDeskAdded plan.name desk old new
  pub ports : ArePortsAdded reader writer before after
  pub unit : desk.unit ≡ plan.unit
  pub lag : IsSome plan.output → desk.waiting.lag ≡ plan.lag
  pub uncut : desk.waiting.is_cut ≡ false
  pub waits : desk.waiting.lines ≡ []
  pub came : IsNewReader (option_map string_bytes plan.input) reader
  pub went : sent writer.ring ≡ []
