-- private: the course of a command, or the reason why there is none.
use Rattle.std.specs.Prelude.{◌≡◌, ℕ, Bool, List, Option, Result, Ok, Err}
use Rattle.batch_cli.specs.CommandLine.{Request}
use Rattle.batch_verdicts.specs.Reading.{Gives}
use Rattle.batch_verdicts.specs.Requests.{Halts}
use Rattle.batch_verdicts.specs.Running.{IsDone, Stream}
use Rattle.batch_verdicts.specs.Saying.{IsWarned}
use Rattle.batch_verdicts.specs.declared.course.Course.{Course}
use Rattle.batch_verdicts.specs.declared.refusal.Halt.{Halt}

-- if there is none, the output is as it was, and only warnings are on the errors
abbrev pub IsCourse : Gives → Request → Bool → Stream → Stream → Result Course Halt → Type 0
IsCourse gives request quiet output errors (Ok course) = IsDone gives request quiet output errors course
IsCourse gives request quiet output errors (Err h) =
    Halts gives (IsWarned quiet errors.before errors.after) request h × (output.after ≡ output.before)

-- the same of a command that has written nothing yet
abbrev pub IsSilentCourse : Gives → Request → Bool → Result Course Halt → Type 0
IsSilentCourse gives request quiet r = (output errors : Option (List ℕ))
    → IsCourse gives request quiet (record { before = output; after = output }) (record { before = errors; after = errors }) r
