-- trusted: units that are passed on, or that a step reserves, stay with their batch.
use Rattle.std.specs.Prelude.{List}
use Rattle.batch_model.specs.Lists.{Each}
use Rattle.batch_model.specs.Plant.{Setup, Plant, opening}
use Rattle.batch_model.specs.Events.{Event}
use Rattle.batch_model.specs.Runs.{Out, Leads}
use Rattle.batch_model.specs.Transfers.{KeepsUnits}
use Rattle.batch_model.specs.Cleared.{Ranking, IsCleared}
use Rattle.batch_record_laws.specs.Premises.{IsOfDocuments}

-- after every line of a record, whatever the events, each batch of the plant keeps the units that are told to be kept for it
abbrev pub UnitsAreKept : Type 0
UnitsAreKept =
    (setup : Setup) (rank : Ranking) → IsOfDocuments setup → IsCleared setup rank
    → (events : List Event) (record_so_far : List Out) (plant : Plant) → Leads setup opening events record_so_far plant
    → Each (KeepsUnits record_so_far) plant.batches
