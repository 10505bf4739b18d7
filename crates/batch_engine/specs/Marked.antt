-- surface: the meaning of the marks on batches, and of the notes on resources.
use Rattle.std.specs.Prelude.{◌≡◌, ◌<◌, ℕ, List, [], Option, Some, slice_get, length}
use Rattle.batch_arbiter.specs.Allocation.{resource_count}
use Rattle.batch_model.specs.Lists.{Has}
use Rattle.batch_model.specs.Moves.{batch_moves}
use Rattle.batch_model.specs.Plant.{Setup, Share, Plant, holders}
use Rattle.batch_recipe.specs.Conditions.{Name}
use Rattle.batch_engine.specs.declared.batch.Batch.{Batch}
use Rattle.batch_engine.specs.Kept.{IsKept}
use Rattle.batch_engine.specs.Marks.{IsUnmarked}
use Rattle.batch_engine.specs.View.{EngineView, setup, model_batch, resource_number, plant_of}

-- the batch at an index has no move
pub record HasNoMove (v : EngineView) (i : ℕ) : Type 0 where
  pub batch : Batch
  pub at : slice_get v.batches i ≡ Some batch
  pub none : batch_moves (setup v.cleared) (plant_of v) (model_batch v.cleared batch) ≡ []

-- a batch without a mark has no move
abbrev pub AreMarked : EngineView → List ℕ → Type 0
AreMarked v marks = (i : ℕ) → i < length v.batches → IsUnmarked marks i → HasNoMove v i

-- the batch that holds a resource of capacity 1 is noted, by the number of the resource
abbrev pub AreNotedBy : (Name → Option ℕ) → Setup → Plant → List ℕ → Type 0
AreNotedBy number setup plant noted =
    (name : Name) (q : ℕ) → number name ≡ Some q → setup.capacity name ≡ 1
    → (share : Share) → Has (holders plant name) share → share.units ≡ 1 → slice_get noted q ≡ Some share.act.0

pub record AreHoldingsNoted (v : EngineView) (noted : List ℕ) : Type 0 where
  pub count : length noted ≡ resource_count v.allocation
  pub held : AreNotedBy (resource_number v.cleared) (setup v.cleared) (plant_of v) noted

-- the invariant of an engine's fields
pub record IsEngine (v : EngineView) (marks noted : List ℕ) : Type 0 where
  pub kept : IsKept v
  pub marked : AreMarked v marks
  pub noted_are : AreHoldingsNoted v noted
