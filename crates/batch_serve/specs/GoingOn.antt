-- surface: turns one behind the other have the effect of one turn of all their runs.
use Rattle.std.specs.Prelude.{◌≡◌, ℕ, List, ◌++◌, Option}
use Rattle.batch_model.specs.Plant.{Setup, Plant}
use Rattle.batch_serve.specs.Runs.{Run, due_of, last_of, own_text, runs_text}
use Rattle.batch_serve.specs.Served.{AreServed}

-- runs that were served, and others behind them, were served together
abbrev pub ServiceGoesOn : Type 0
ServiceGoesOn =
    (c : Setup) (old mid new : Plant) (runs more answers told : List Run)
    → AreServed c old runs answers mid → AreServed c mid more told new → AreServed c old (runs ++ more) (answers ++ told) new

-- the text of all runs, the desk of the last, the lines that a desk is due of them, and the desk's own text
pub record TextGoesOn (names : List (List ℕ)) (before : Option ℕ) (desk : ℕ) (unit : Option (List ℕ)) (runs more : List Run) : Type 0 where
  pub text : runs_text names before (runs ++ more) ≡ runs_text names before runs ++ runs_text names (last_of before runs) more
  pub last : last_of before (runs ++ more) ≡ last_of (last_of before runs) more
  pub due : due_of desk unit (runs ++ more) ≡ due_of desk unit runs ++ due_of desk unit more
  pub own : own_text desk (runs ++ more) ≡ own_text desk runs ++ own_text desk more

abbrev pub TextsGoOn : Type 0
TextsGoOn = (names : List (List ℕ)) (before : Option ℕ) (desk : ℕ) (unit : Option (List ℕ)) (runs more : List Run) → TextGoesOn names before desk unit runs more
