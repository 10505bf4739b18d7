-- trusted: runs of events, settled after each, and their agreement if none was refused for want of memory.
use Rattle.std.specs.Prelude.{◌≡◌, List, [], ◌∷◌, ◌++◌, map, None}
use Rattle.batch_model.specs.Events.{Event, Reply, refused, no_memory}
use Rattle.batch_model.specs.Moves.{Move, next}
use Rattle.batch_model.specs.Plant.{Setup, Plant}
use Rattle.batch_model.specs.Runs.{Out, reply, move, Reacts, Leads}

-- the plant takes the event, replies, but not for want of memory, and makes moves until there is none
pub record Takes (c : Setup) (old : Plant) (event : Event) (outs : List Out) (new : Plant) : Type 0 where
  pub answer : Reply
  pub mid : Plant
  pub moves : List Move
  pub reacts : Reacts c old event answer mid
  pub has_memory : answer ≡ refused no_memory → ⊥
  pub made : Leads c mid [] (map move moves) new
  pub settled : next c new ≡ None
  pub tells : outs ≡ reply answer ∷ map move moves

-- the plant takes these events, one after the other
abbrev pub Replays : Setup → Plant → List Event → List Out → Plant → Type 0
Replays c old [] outs new = (outs ≡ []) × (new ≡ old)
Replays c old (event ∷ events) outs new =
    (first others : List Out) × (mid : Plant) × Takes c old event first mid × Replays c mid events others new × (outs ≡ first ++ others)

-- two runs of the same events give the same outs and end in the same plant
abbrev pub ReplaysAgree : Type 0
ReplaysAgree =
    (c : Setup) (old one other : Plant) (events : List Event) (outs told : List Out)
    → Replays c old events outs one → Replays c old events told other → (outs ≡ told) × (one ≡ other)
