-- surface: the account of a server, from the first state of its machine on.
use Rattle.std.specs.Prelude.{◌≡◌, ℕ, ◌<◌, List, [], ◌++◌, length, get_or, Bool, true, Option, None}
use Rattle.std.specs.Io.KnownBytes.{Appends}
use Rattle.batch_model.specs.Plant.{Plant}
use Rattle.batch_verify.specs.ClearedSet.{ClearedSet}
use Rattle.batch_engine.specs.View.{setup, plant_of}
use Rattle.rtrb.specs.Ring.{sent}
use Rattle.batch_serve.specs.Rounds.{IsHandedOver}
use Rattle.batch_serve.specs.Runs.{Run, due_of, last_of, runs_text}
use Rattle.batch_serve.specs.Served.{AreServed, AreWhole, ShowNoWant}
use Rattle.batch_serve.specs.Turns.{IsSameBut, IsTurned}
use Rattle.batch_serve.specs.Waits.{IsAccount}
use Rattle.batch_serve.specs.declared.desk.ServedDesk.{ServedDesk}
use Rattle.batch_serve.specs.declared.rounds.Writer.{Writer}
use Rattle.batch_serve.specs.declared.desk_server.DeskServer.{DeskServer}

-- the start of a server: its set, its machine's state, the kept text and the record; and whether its lines are replayed
pub record Beginning : Type 0 where
  pub set : ClearedSet
  pub plant : Plant
  pub kept : List ℕ
  pub recorded : Option (List ℕ)
  pub again : Bool

-- the kept text, the record, and the lines that were sent to each desk, by its place
pub record Outside : Type 0 where
  pub kept : List ℕ
  pub recorded : Option (List ℕ)
  pub told : ℕ → List (List ℕ)

-- since then these runs were served, with these answers, which are recorded, and sent or queued; the runs are kept, if their keeper
-- has kept all so far
pub record IsLife (begun : Beginning) (safe : Type 0) (runs answers : List Run) (now : Outside) (s : DeskServer) : Type 0 where
  pub cleared : s.engine.cleared ≡ begun.set
  pub served : AreServed (setup begun.set) begun.plant runs answers (plant_of s.engine)
  pub whole : begun.again ≡ true → AreWhole runs
  pub well : begun.again ≡ true → ShowNoWant answers
  pub last : s.last ≡ last_of None runs
  pub is_kept : safe → now.kept ≡ begun.kept ++ runs_text s.names.items None runs
  pub is_recorded : Appends begun.recorded now.recorded (runs_text s.names.items None answers)
  pub each : (desk : ℕ) (other : ServedDesk) → desk < length s.desks.items
      → IsAccount (due_of desk (get_or s.desks.items desk other).unit answers) (now.told desk) (get_or s.desks.items desk other).waiting

-- a turn continues the account by the runs of its group and their answers, whatever the keeper
abbrev pub LivesGoOn : {K : Type 0} → (K → Type 0) → Type 0
LivesGoOn {K} is_safe =
    (before after : K) (begun : Beginning) (kept_after : List ℕ) (recorded_after : Option (List ℕ)) (runs answers : List Run) (now : Outside) (old new : DeskServer)
    → IsLife begun (is_safe before) runs answers now old → (is_safe after → is_safe before) → IsTurned old new (is_safe after) now.kept kept_after begun.again now.recorded recorded_after
    → (more : List Run)
    × IsLife begun (is_safe after) (runs ++ old.group.items) (answers ++ more) (record now { kept = kept_after; recorded = recorded_after }) new

-- lines that are taken leave it as it is
abbrev pub LivesTake : {K : Type 0} → (K → Type 0) → Type 0
LivesTake {K} is_safe =
    (keeper : K) (begun : Beginning) (runs answers : List Run) (now : Outside) (old new : DeskServer)
    → IsLife begun (is_safe keeper) runs answers now old → IsSameBut old new → IsLife begun (is_safe keeper) runs answers now new

-- lines that went into the rings of the writers, of which each desk has one, are sent
abbrev pub LivesHandOn : {K : Type 0} → (K → Type 0) → Type 0
LivesHandOn {K} is_safe =
    (keeper : K) (begun : Beginning) (runs answers : List Run) (now : Outside) (old new : DeskServer) (before after : List Writer) (writer : Writer)
    → IsLife begun (is_safe keeper) runs answers now old → IsHandedOver old new before after → length before ≡ length old.desks.items
    → ((desk : ℕ) → desk < length before → now.told desk ≡ sent (get_or before desk writer).ring)
    → IsLife begun (is_safe keeper) runs answers (record now { told = λ desk. sent (get_or after desk writer).ring }) new

-- it begins before any line was served, with no line queued for a desk
abbrev pub LivesBegin : {K : Type 0} → (K → Type 0) → Type 0
LivesBegin {K} is_safe =
    (keeper : K) (begun : Beginning) (s : DeskServer) → s.engine.cleared ≡ begun.set → plant_of s.engine ≡ begun.plant → s.last ≡ None
    → ((desk : ℕ) (other : ServedDesk) → desk < length s.desks.items → IsAccount [] [] (get_or s.desks.items desk other).waiting)
    → IsLife begun (is_safe keeper) [] [] (record { kept = begun.kept; recorded = begun.recorded; told = λ _. [] }) s
