-- trusted: the promise that some record leads to the engine's plant.
use Rattle.std.specs.Prelude.{List}
use Rattle.batch_model.specs.Events.{Event}
use Rattle.batch_model.specs.Plant.{opening}
use Rattle.batch_model.specs.Runs.{Out, Leads}
use Rattle.batch_engine.specs.View.{EngineView, setup, plant_of}

-- some record of events leads from the opening to the engine's plant
abbrev pub IsLed : EngineView → Type 0
IsLed v = (events : List Event) × (outs : List Out) × Leads (setup v.cleared) opening events outs (plant_of v)
