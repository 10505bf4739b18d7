-- trusted: the answer to an event.
use Rattle.std.specs.Prelude.{◌≡◌}
use Rattle.batch_model.specs.Events as Events
use Rattle.batch_model.specs.Runs.{Reacts}
use Rattle.batch_engine.specs.declared.reply.Reply.{Reply}
use Rattle.batch_engine.specs.Surface.{reply_of}
use Rattle.batch_engine.specs.View.{EngineView, setup, plant_of}

-- the event may be refused for want of memory, and then the plant stays as it is
abbrev pub MayWant : EngineView → Events.Event → Type 0
MayWant v e = Reacts (setup v.cleared) (plant_of v) e (Events.refused Events.no_memory) (plant_of v)

-- the event is answered so, and the engine becomes `new`: a step of the machine
pub record IsAnswered (old : EngineView) (e : Events.Event) (r : Reply) (new : EngineView) : Type 0 where
  pub cleared : new.cleared ≡ old.cleared
  pub reacts : Reacts (setup old.cleared) (plant_of old) e (reply_of old.cleared r) (plant_of new)
