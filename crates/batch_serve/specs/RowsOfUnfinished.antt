-- worked rows: in which states batches are unfinished.
use Rattle.std.specs.Prelude.{◌≡◌, List, [], ◌∷◌, map}
use Rattle.batch_matrix.specs.declared.state.State.{State}
use Rattle.batch_matrix.specs.declared.state.State.TheVariants.{Idle, Running, Pausing, Paused, Holding, Held, Restarting, Stopping, Stopped, Aborting, Aborted, Complete}
use Rattle.batch_model.specs.Plant.{Batch, Plant}
use Rattle.batch_model.specs.Rest.{done}
use Rattle.batch_engine.specs.Looked.{unfinished}
use Rattle.batch_engine.specs.View.{no_recipe}

abbrev pub batch_in : State → Batch
batch_in now = record { number = 1; recipe = no_recipe; size = 1; values = []; state = now; in_advance = []; rest = done }

-- a plant with a batch in each of these states
abbrev pub plant_in : List State → Plant
plant_in states = record { batches = map batch_in states; next_number = 2; line = λ resource. [] }

-- batches in nine states are unfinished, and those in three aren't
pub record UnfinishedRows : Type 0 where
  pub at_rest : unfinished (plant_in (Complete ∷ Stopped ∷ Aborted ∷ [])) ≡ 0
  pub at_work : unfinished (plant_in (Idle ∷ Running ∷ Pausing ∷ Paused ∷ Holding ∷ Held ∷ Restarting ∷ Stopping ∷ Aborting ∷ [])) ≡ 9
  pub mixed : unfinished (plant_in (Running ∷ Complete ∷ Held ∷ Stopped ∷ Idle ∷ [])) ≡ 3
