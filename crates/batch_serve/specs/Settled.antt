-- trusted: when the machine is settled, and that it is so between the lines of an input.
use Rattle.std.specs.Prelude.{◌≡◌, ℕ, List, ◌++◌, None}
use Rattle.batch_model.specs.Moves.{next}
use Rattle.batch_model.specs.Plant.{Setup, Plant}
use Rattle.batch_engine.specs.View.{EngineView, setup, plant_of}
use Rattle.batch_wire.specs.Transcript.{Exchange, followed_by, Transcript}

-- no move is possible
abbrev pub IsSettled : Setup → Plant → Type 0
IsSettled c s = next c s ≡ None

abbrev pub IsSettledEngine : EngineView → Type 0
IsSettledEngine v = IsSettled (setup v.cleared) (plant_of v)

-- a transcript that comes from old by the first lines to a settled plant, and from there to new by the others
pub record SettlesBetween (c : Setup) (old : Plant) (front others : List (List ℕ)) (said : Exchange) (new : Plant) : Type 0 where
  pub first : Exchange
  pub then_said : Exchange
  pub mid : Plant
  pub before : Transcript c old front first mid
  pub settled : IsSettled c mid
  pub after : Transcript c mid others then_said new
  pub tells : said ≡ followed_by first then_said

-- the machine is settled after each line, if it begins with a settled plant
abbrev pub TranscriptsSettle : Type 0
TranscriptsSettle =
    (c : Setup) (old new : Plant) (front others : List (List ℕ)) (said : Exchange) → IsSettled c old
    → Transcript c old (front ++ others) said new → SettlesBetween c old front others said new
