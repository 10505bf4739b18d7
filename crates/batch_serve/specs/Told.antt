-- surface: the effect of answers on the queues of the desks that are told of them.
use Rattle.std.specs.Prelude.{◌≡◌, ℕ, ◌<◌, false, List, ◌++◌, length, get_or}
use Rattle.batch_serve.specs.Runs.{Run, due_of}
use Rattle.batch_serve.specs.Waits.{IsAccount}
use Rattle.batch_serve.specs.declared.desk.ServedDesk.{ServedDesk}

-- any account of the desk at this place grows by the lines of the answers that are due to it
pub record IsDeskTold (desk : ℕ) (answers : List Run) (old new : ServedDesk) : Type 0 where
  pub unit : new.unit ≡ old.unit
  pub cut : new.waiting.is_cut ≡ false → old.waiting.is_cut ≡ false
  pub account : (all told : List (List ℕ)) → IsAccount all told old.waiting → IsAccount (all ++ due_of desk old.unit answers) told new.waiting

-- each desk's account grows so
pub record AreDesksTold (answers : List Run) (old new : List ServedDesk) : Type 0 where
  pub count : length new ≡ length old
  pub each : (desk : ℕ) (other : ServedDesk) → desk < length old → IsDeskTold desk answers (get_or old desk other) (get_or new desk other)
