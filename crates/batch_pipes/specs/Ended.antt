-- surface: the outcome of serving desks to their end, for each of them.
use Rattle.std.specs.Prelude.{◌≡◌, ℕ, ◌<◌, Bool, false, List, [], ◌++◌, length, get_or, Option, Some, None, IfSome, option_map, string_bytes}
use Rattle.std.specs.Io.KnownBytes.{Appends}
use Rattle.batch_reader.specs.declared.desk.Desk as plans
use Rattle.batch_wire.specs.Transcript.{lines_of}
use Rattle.batch_serve.specs.CleanLines.{clean_lines}
use Rattle.batch_serve.specs.Replays.{IsWholeLines}
use Rattle.batch_serve.specs.Runs.{AreOfDesks, Run, due_of, own_text}
use Rattle.batch_serve.specs.Threads.{lines_text}
use Rattle.batch_serve.specs.declared.desk.ServedDesk.{ServedDesk}
use Rattle.batch_pipes.specs.InputOrder.{given_by}
use Rattle.batch_pipes.specs.Service.{AreDesksServed, Opening}
use Rattle.batch_pipes.specs.Streams.{HasNoOutput, HoldsBeginning}
use Rattle.batch_pipes.specs.declared.outcome.OutputOutcome.{OutputOutcome}
use Rattle.batch_pipes.specs.declared.outcome.OutputOutcome.TheVariants.{Absent, Joined, Unjoined}
use Rattle.batch_pipes.specs.declared.written.Written.{Written}

-- the desk's lines that were served are whole, and a prefix of those of its input, as a journal has them, in order, each once; unless
-- the desk is cut, they are all of them
pub record AreOwnServed (given : List ℕ → Option (List ℕ)) (k : ℕ) (plan : plans.Desk) (desk : ServedDesk) (runs : List Run) : Type 0 where
  pub whole : IsWholeLines (own_text k runs)
  pub begun : (bytes : List ℕ) → given_by given (option_map string_bytes plan.input) ≡ Some bytes
      → (rest : List ℕ) × (clean_lines (lines_of bytes) ≡ own_text k runs ++ rest) × (desk.waiting.is_cut ≡ false → rest ≡ [])

-- a desk's output holds a prefix of its contents at the opening, the front and the lines due. If the desk isn't cut and its output
-- ended well, it holds all but the last lines, as many as are left. There is an output, unless it couldn't be opened or had no memory
pub record IsOutputTold {W : Type 0} (contents : W → Option (List ℕ)) (stood : Option (List ℕ)) (front : List ℕ) (due : List (List ℕ)) (desk : ServedDesk) (w : Written W) (left : ℕ)
    : Type 0 where
  pub begun : IfSome w.output (λ output. HoldsBeginning stood (contents output) (front ++ lines_text due))
  pub whole : desk.waiting.is_cut ≡ false → w.fault ≡ None
      → (output : W) × (w.output ≡ Some output) × (lines rest : List (List ℕ)) × (due ≡ lines ++ rest) × (length rest ≡ left) × Appends stood (contents output) (front ++ lines_text lines)
  pub missing : w.output ≡ None → HasNoOutput w.fault

-- the result that was handed back for this path is given back of a desk that has an output there, or the thread that was given the
-- path, which nobody joined. Nothing is given back of a desk that has none
abbrev pub IsGivenBack
    : {W P : Type 0} → (W → Option (List ℕ)) → (List ℕ → Option (List ℕ)) → (List ℕ → Written W → Type 0) → Option (List ℕ) → List ℕ → List (List ℕ) → ServedDesk
    → OutputOutcome W P → Type 0
IsGivenBack contents stands hands_back path front due desk Absent = path ≡ None
IsGivenBack contents stands hands_back path front due desk (Joined w left) =
    (at : List ℕ) × (path ≡ Some at) × hands_back at w × IsOutputTold contents (stands at) front due desk w left
IsGivenBack contents stands hands_back path front due desk (Unjoined thread) = path ≡ Some (string_bytes thread.handle.promise.task.value.path)

-- runs of lines of these desks were served, those of each as above; the output of each, or its thread, is given back, as above
pub record AreDesksEnded {W P : Type 0} (times : Bool) (begun : Opening) (given stands : List ℕ → Option (List ℕ)) (contents : W → Option (List ℕ)) (hands_back : List ℕ → Written W → Type 0)
    (fronts : List (List ℕ)) (listed : List plans.Desk) (desks : List ServedDesk) (outcomes : List (OutputOutcome W P)) (safe : Type 0) (kept : List ℕ) (recorded : Option (List ℕ)) : Type 0 where
  pub service : AreDesksServed times begun safe kept recorded
  pub count : length desks ≡ length listed
  pub of_desks : AreOfDesks (length listed) service.runs
  pub own : (k : ℕ) (plan : plans.Desk) (desk : ServedDesk) → k < length listed → AreOwnServed given k (get_or listed k plan) (get_or desks k desk) service.runs
  pub outputs : length outcomes ≡ length listed
  pub told : (k : ℕ) (plan : plans.Desk) (desk : ServedDesk) (outcome : OutputOutcome W P) → k < length listed
      → IsGivenBack contents stands hands_back (option_map string_bytes (get_or listed k plan).output) (get_or fronts k []) (due_of k (get_or listed k plan).unit service.answers)
      (get_or desks k desk) (get_or outcomes k outcome)
