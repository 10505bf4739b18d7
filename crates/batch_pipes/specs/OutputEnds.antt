-- private: the result of the thread of a desk's output.
use Rattle.std.specs.Prelude.{◌≡◌, ℕ, List, ◌++◌, Option, string_bytes}
use Rattle.rtrb.specs.Ring.{SameConsumer, received}
use Rattle.batch_serve.specs.Threads.{lines_text}
use Rattle.batch_pipes.specs.Streams.{IsWrittenOf}
use Rattle.batch_pipes.specs.declared.writing.OutputEnd.{OutputEnd}
use Rattle.batch_pipes.specs.declared.writing.OutputTask.{OutputTask}
use Rattle.batch_pipes.specs.declared.written.Written.{Written}

-- the results that may be handed back for the output of a path, behind a front and lines
abbrev pub Results : Type 0 → Type 1
Results W = List ℕ → List ℕ → List (List ℕ) → Written W → Type 0

-- it was handed back for the output of this path, which took a prefix of the front and these lines
abbrev pub IsHandedBack
    : {W : Type 0} → (W → Option (List ℕ)) → (List ℕ → Option (List ℕ)) → (List ℕ → Written W → Type 0) → List ℕ → List ℕ → List (List ℕ) → Written W → Type 0
IsHandedBack contents stands hands_back path front lines w = hands_back path w × IsWrittenOf contents (stands path) (front ++ lines_text lines) w

-- the result is of the task's path and front, and of the lines that came out of the same ring
pub record IsOutputRun {W : Type 0} (is_result : Results W) (task : OutputTask) (end : OutputEnd W) : Type 0 where
  pub ring : SameConsumer task.ring end.ring
  pub lines : List (List ℕ)
  pub came : received end.ring ≡ received task.ring ++ lines
  pub result : is_result (string_bytes task.path) task.front.items lines end.written
