-- trusted: the effect of rounds of serving desks.
use Rattle.std.specs.Prelude.{◌≡◌, ◌⊎◌, ℕ, ◌<◌, Bool, true, List, [], ◌∷◌, ◌++◌, length, get_or, map, flat_map, Option, None, ⊤}
use Rattle.std.specs.Io.KnownBytes.{Appends}
use Rattle.batch_model.specs.Plant.{Plant}
use Rattle.batch_engine.specs.View.{setup}
use Rattle.batch_serve.specs.Comments.{time_text}
use Rattle.batch_verify.specs.ClearedSet.{ClearedSet}
use Rattle.rtrb.specs.Ring.{received, sent}
use Rattle.batch_serve.specs.Lives.{Beginning, IsLife}
use Rattle.batch_serve.specs.Rounds.{IsTextOfMessages}
use Rattle.batch_serve.specs.Runs.{AreOfDesks, Run, own_text, runs_text}
use Rattle.batch_serve.specs.Served.{AreServed, AreWhole, ShowNoWant}
use Rattle.batch_serve.specs.declared.desk.ServedDesk.{ServedDesk}
use Rattle.batch_serve.specs.declared.desk_server.DeskServer.{DeskServer}
use Rattle.batch_serve.specs.declared.rounds.Reader.{Reader}
use Rattle.batch_serve.specs.declared.rounds.ReaderMessage.{ReaderMessage}
use Rattle.batch_serve.specs.declared.rounds.Writer.{Writer}
use Rattle.batch_pipes.specs.declared.ports.Ports.{Ports}

-- The time of turns

-- a part of the record, with the comment before it
pub record RecordPart : Type 0 where
  pub comment : List ℕ
  pub text : List ℕ

-- nothing, or, if times are asked for, the time of a turn
abbrev pub IsTime : Bool → List ℕ → Type 0
IsTime times comment = (comment ≡ []) ⊎ ((times ≡ true) × ((milliseconds : ℕ) × (comment ≡ time_text milliseconds)))

-- so it is before each part
abbrev pub AreTimes : Bool → List RecordPart → Type 0
AreTimes times [] = ⊤
AreTimes times (p ∷ parts) = IsTime times p.comment × AreTimes times parts

-- nothing was written, or, if times are asked for, the time of a turn
abbrev pub AppendsTime : Bool → Option (List ℕ) → Option (List ℕ) → Type 0
AppendsTime times before after = (comment : List ℕ) × IsTime times comment × Appends before after comment

-- `text` is the text of the parts without their comments, and `all` is their text with them
pub record IsTimed (times : Bool) (text all : List ℕ) : Type 0 where
  pub parts : List RecordPart
  pub comments : AreTimes times parts
  pub is_text : text ≡ flat_map (λ (p : RecordPart). p.text) parts
  pub is_all : all ≡ flat_map (λ (p : RecordPart). p.comment ++ p.text) parts

-- known bytes grew by the text, with the times of turns in it
pub record AppendsTimed (times : Bool) (before after : Option (List ℕ)) (text : List ℕ) : Type 0 where
  pub all : List ℕ
  pub appends : Appends before after all
  pub timed : IsTimed times text all

-- Rounds

-- the start of serving: the set, the names of the desks, the machine's state, the kept text and the record; and whether the lines are
-- replayed
pub record Opening : Type 0 where
  pub set : ClearedSet
  pub names : List (List ℕ)
  pub plant : Plant
  pub kept : List ℕ
  pub recorded : Option (List ℕ)
  pub again : Bool

-- the beginning of a life: without the desks' names, and without the record, which has the times of turns in it
abbrev pub without_record : Opening → Beginning
without_record begun = record { set = begun.set; plant = begun.plant; kept = begun.kept; recorded = None; again = begun.again }

-- the lines that went into the ring of the writer of the desk at a place, and the messages that came out of that of its reader
pub record Rings : Type 0 where
  pub told : ℕ → List (List ℕ)
  pub came : ℕ → List ReaderMessage

abbrev pub told_to : List Writer → ℕ → List (List ℕ)
told_to writers desk = get_or (map (λ (w : Writer). sent w.ring) writers) desk []

abbrev pub came_from : {O : Type 0} → List (Reader O) → ℕ → List ReaderMessage
came_from {O} readers desk = get_or (map (λ (r : Reader O). received r.ring) readers) desk []

abbrev pub rings_of : {P : Type 0} → Ports P → Rings
rings_of ports = record { told = told_to ports.writers.items; came = came_from ports.readers.items }

-- since then these runs were served, with these answers, which are recorded. The runs are kept, if their keeper has kept all so far. The
-- lines sent to each desk are those that went into the ring of its writer, and the rest is queued. The lines of each desk that were
-- served, or are to be served next, are those of a prefix of the messages that came out of the ring of its reader. They are those of all
-- these messages unless the desk is cut. No run is of another desk
pub record IsService (times : Bool) (begun : Opening) (safe : Type 0) (kept : List ℕ) (recorded : Option (List ℕ)) (s : DeskServer) (rings : Rings) : Type 0 where
  pub runs : List Run
  pub answers : List Run
  pub names : s.names.items ≡ begun.names
  pub life : IsLife (without_record begun) safe runs answers (record { kept = kept; recorded = None; told = rings.told }) s
  pub is_recorded : AppendsTimed times begun.recorded recorded (runs_text s.names.items None answers)
  pub of_desks : AreOfDesks (length s.desks.items) runs × AreOfDesks (length s.desks.items) s.group.items
  pub lines : (k : ℕ) (desk : ServedDesk) → k < length s.desks.items → IsTextOfMessages (rings.came k) (get_or s.desks.items k desk).waiting.is_cut (own_text k (runs ++ s.group.items))

-- each account of the service that holds before holds after
abbrev pub GoesOn : (times again : Bool) (safe_before safe_after : Type 0) (kept_before kept_after : List ℕ) (recorded_before recorded_after : Option (List ℕ))
    (old new : DeskServer) (before after : Rings) → Type 0
GoesOn times again safe_before safe_after kept_before kept_after recorded_before recorded_after old new before after =
    (begun : Opening) → begun.again ≡ again → IsService times begun safe_before kept_before recorded_before old before
    → IsService times begun safe_after kept_after recorded_after new after

-- the same of a turn, which leaves the rings as they are
abbrev pub TurnsOn : (times again : Bool) (safe_before safe_after : Type 0) (kept_before kept_after : List ℕ) (recorded_before recorded_after : Option (List ℕ))
    (old new : DeskServer) → Type 0
TurnsOn times again safe_before safe_after kept_before kept_after recorded_before recorded_after old new =
    (rings : Rings) → GoesOn times again safe_before safe_after kept_before kept_after recorded_before recorded_after old new rings rings

-- Serving to its end

-- runs of lines of the desks were served from the opening on, with these answers. If the lines are replayed, the runs are whole ones,
-- and no answer is a refusal for want of memory. The lines are kept, if their keeper has kept all. The answers are recorded, with the
-- time of each turn if that is asked for
pub record AreDesksServed (times : Bool) (begun : Opening) (safe : Type 0) (kept : List ℕ) (recorded : Option (List ℕ)) : Type 0 where
  pub runs : List Run
  pub answers : List Run
  pub new : Plant
  pub served : AreServed (setup begun.set) begun.plant runs answers new
  pub whole : begun.again ≡ true → AreWhole runs
  pub well : begun.again ≡ true → ShowNoWant answers
  pub is_kept : safe → kept ≡ begun.kept ++ runs_text begun.names None runs
  pub is_recorded : AppendsTimed times begun.recorded recorded (runs_text begun.names None answers)
