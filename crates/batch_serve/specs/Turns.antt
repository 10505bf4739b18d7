-- surface: the effect of a desk's bytes on a server of several desks, and the effect of a turn.
use Rattle.std.specs.Prelude.{◌≡◌, ◌⊎◌, ℕ, Bool, true, List, [], ◌∷◌, ◌++◌, Option}
use Rattle.std.specs.Io.KnownBytes.{Appends}
use Rattle.batch_engine.specs.View.{setup, plant_of}
use Rattle.batch_serve.specs.Runs.{Run, last_of, runs_text}
use Rattle.batch_serve.specs.Served.{AreServed, AreWhole, ShowNoWant}
use Rattle.batch_serve.specs.Told.{AreDesksTold}
use Rattle.batch_serve.specs.declared.desk_server.DeskServer.{DeskServer}

-- a run without text is left out
abbrev pub with_run : List Run → ℕ → List ℕ → List Run
with_run group desk [] = group
with_run group desk (b ∷ text) = group ++ record { desk = desk; text = b ∷ text } ∷ []

-- but for the group, the server is as it was
pub record IsSameBut (old new : DeskServer) : Type 0 where
  pub engine : new.engine ≡ old.engine
  pub names : new.names.items ≡ old.names.items
  pub desks : new.desks.items ≡ old.desks.items
  pub last : new.last ≡ old.last

-- the group was kept, if the keeper has kept all so far; it was served, its answers were recorded, and the lines due to each desk were
-- queued for it. If lines are to be replayed, they are whole lines, and none was refused for want of memory
pub record IsTurned (old new : DeskServer) (safe : Type 0) (kept_before kept_after : List ℕ) (again : Bool) (record_before record_after : Option (List ℕ)) : Type 0 where
  pub answers : List Run
  pub kept : safe → kept_after ≡ kept_before ++ runs_text old.names.items old.last old.group.items
  pub served : AreServed (setup old.engine.cleared) (plant_of old.engine) old.group.items answers (plant_of new.engine)
  pub whole : again ≡ true → AreWhole old.group.items
  pub well : again ≡ true → ShowNoWant answers
  pub recorded : Appends record_before record_after (runs_text old.names.items old.last answers)
  pub told : AreDesksTold answers old.desks.items new.desks.items
  pub last : new.last ≡ last_of old.last old.group.items
  pub group : new.group.items ≡ []
  pub cleared : new.engine.cleared ≡ old.engine.cleared
  pub names : new.names.items ≡ old.names.items

-- the text of a turn that failed was kept, or none of it
abbrev pub MayBeKept : List ℕ → List ℕ → List ℕ → Type 0
MayBeKept before after text = (after ≡ before) ⊎ (after ≡ before ++ text)
