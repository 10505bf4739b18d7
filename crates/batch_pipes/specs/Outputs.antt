-- private: the outputs of desks, as the thread of the machine sees them.
use Rattle.std.specs.Prelude.{◌≡◌, ℕ, ◌<◌, List, [], ◌++◌, ◌∷◌, length, get_or, Option, Some, None, IfSome, option_map, string_bytes}
use Rattle.rtrb.specs.Ring.{Finishes, IsPair, received, sent}
use Rattle.batch_reader.specs.declared.desk.Desk as plans
use Rattle.batch_serve.specs.declared.rounds.Writer.{Writer}
use Rattle.batch_pipes.specs.OutputEnds.{Results}
use Rattle.batch_pipes.specs.declared.outcome.OutputOutcome.{OutputOutcome}
use Rattle.batch_pipes.specs.declared.outcome.OutputOutcome.TheVariants.{Absent, Joined, Unjoined}
use Rattle.batch_pipes.specs.declared.output.Output.{Output}
use Rattle.batch_pipes.specs.declared.writing.OutputEnd.{OutputEnd}
use Rattle.batch_pipes.specs.declared.writing.OutputTask.{OutputTask}
use Rattle.batch_pipes.specs.declared.written.Written.{Written}

-- One output

-- its path, and the text that is written to it before all else
pub record Asked : Type 0 where
  pub path : Option (List ℕ)
  pub front : List ℕ

abbrev pub asked_of : {W P : Type 0} → Output W P → Asked
asked_of o = record { path = option_map string_bytes o.path.value; front = o.front.value.items }

-- the task is to write this front to the output of this path, and then the lines out of the writer's ring, which is new
pub record IsTaskOf (asked : Asked) (task : OutputTask) (writer : Writer) : Type 0 where
  pub is_path : asked.path ≡ Some (string_bytes task.path)
  pub is_front : task.front.items ≡ asked.front
  pub pair : IsPair writer.ring task.ring
  pub new : received task.ring ≡ []

-- the result is of this path and front, and of the lines that came out of the writer's ring
pub record IsEndOf {W : Type 0} (is_result : Results W) (asked : Asked) (end : OutputEnd W) (writer : Writer) : Type 0 where
  pub path : List ℕ
  pub is_path : asked.path ≡ Some path
  pub pair : IsPair writer.ring end.ring
  pub result : is_result path asked.front (received end.ring) end.written

-- it is written through the writer's ring. It has its thread or the end of it, unless the desk has no output
pub record IsOutputOf {W P : Type 0} (is_result : Results W) (o : Output W P) (writer : Writer) : Type 0 where
  pub thread : IfSome o.child (λ child. IsTaskOf (asked_of o) child.handle.promise.task.value writer)
  pub ended : IfSome o.end (λ end. IsEndOf is_result (asked_of o) end writer)
  pub absent : o.child ≡ None → o.end ≡ None → (asked_of o).path ≡ None

-- it is so still, of the same path and front
pub record IsOutputKept {W P : Type 0} (is_result : Results W) (old new : Output W P) (writer : Writer) : Type 0 where
  pub of : IsOutputOf is_result new writer
  pub asked : asked_of new ≡ asked_of old

-- All outputs

pub record AreOutputsOf {W P : Type 0} (is_result : Results W) (outputs : List (Output W P)) (writers : List Writer) : Type 0 where
  pub count : length outputs ≡ length writers
  pub each : (k : ℕ) (o : Output W P) (writer : Writer) → k < length outputs → IsOutputOf is_result (get_or outputs k o) (get_or writers k writer)

pub record AreOutputsKept {W P : Type 0} (is_result : Results W) (old new : List (Output W P)) (writers : List Writer) : Type 0 where
  pub of : AreOutputsOf is_result new writers
  pub count : length new ≡ length old
  pub asked : (k : ℕ) (o : Output W P) → k < length old → asked_of (get_or new k o) ≡ asked_of (get_or old k o)

-- Opening

-- the path and the front of the output of a desk of a document that has this front
abbrev pub asked_by : plans.Desk → List ℕ → Asked
asked_by desk front = record { path = option_map string_bytes desk.output; front = front }

-- nothing went into the ring of the writer, through which it is written
pub record IsOutputOpened {W P : Type 0} (is_result : Results W) (asked : Asked) (writer : Writer) (o : Output W P) : Type 0 where
  pub went : sent writer.ring ≡ []
  pub of : IsOutputOf is_result o writer
  pub is_asked : asked_of o ≡ asked

-- one more follows the others, as its writer does
pub record IsOutputAdded {W P : Type 0} (is_result : Results W) (asked : Asked) (old new : List (Output W P)) (before after : List Writer) : Type 0 where
  pub output : Output W P
  pub writer : Writer
  pub outputs : new ≡ old ++ output ∷ []
  pub writers : after ≡ before ++ writer ∷ []
  pub of : IsOutputOf is_result output writer
  pub is_asked : asked_of output ≡ asked

-- the outputs are those of the desks of a document, each with its front
pub record AreOutputsOpened {W P : Type 0} (is_result : Results W) (fronts : List (List ℕ)) (desks : List plans.Desk) (outputs : List (Output W P))
    (writers : List Writer) : Type 0 where
  pub of : AreOutputsOf is_result outputs writers
  pub count : length outputs ≡ length desks
  pub asked : (k : ℕ) (o : Output W P) (desk : plans.Desk) → k < length desks → asked_of (get_or outputs k o) ≡ asked_by (get_or desks k desk) (get_or fronts k [])

-- Their end

-- the result was handed back for its path, and so many of the lines are left that went into the writer's ring
pub record IsJoined {W : Type 0} (is_result : Results W) (asked : Asked) (writer : Writer) (w : Written W) (left : ℕ) : Type 0 where
  pub path : List ℕ
  pub is_path : asked.path ≡ Some path
  pub lines : List (List ℕ)
  pub rest : List (List ℕ)
  pub went : sent writer.ring ≡ lines ++ rest
  pub count : length rest ≡ left
  pub result : is_result path asked.front lines w

-- that is its outcome, or its thread is given back
abbrev pub IsSettled : {W P : Type 0} → Results W → Asked → Writer → OutputOutcome W P → Type 0
IsSettled is_result asked writer Absent = asked.path ≡ None
IsSettled is_result asked writer (Joined w left) = IsJoined is_result asked writer w left
IsSettled is_result asked writer (Unjoined thread) = asked.path ≡ Some (string_bytes thread.handle.promise.task.value.path)

-- nothing more goes into the ring. The lines that a thread left there, if it was joined before, are counted
pub record IsFinished {W P : Type 0} (o : Output W P) (writer : Writer) : Type 0 where
  pub finished : o.end ≡ None → IfSome o.finished (λ finished. Finishes writer.ring finished)
  pub left : IfSome o.end (λ end. (rest : List (List ℕ)) × (sent writer.ring ≡ received end.ring ++ rest) × (length rest ≡ o.left))

-- it is written through the ring of a writer, which has ended
abbrev pub IsEnding : {W P : Type 0} → Results W → Output W P → Type 0
IsEnding is_result o = (writer : Writer) × IsOutputOf is_result o writer × IsFinished o writer

abbrev pub AreEnding : {W P : Type 0} → Results W → List (Output W P) → Type 0
AreEnding {W} {P} is_result outputs = (k : ℕ) (o : Output W P) → k < length outputs → IsEnding is_result (get_or outputs k o)

-- this is its outcome, whichever writer's ring that was
abbrev pub IsSettledBy : {W P : Type 0} → Results W → Output W P → OutputOutcome W P → Type 0
IsSettledBy is_result o outcome = (writer : Writer) → IsOutputOf is_result o writer → IsFinished o writer → IsSettled is_result (asked_of o) writer outcome

pub record AreSettledBy {W P : Type 0} (is_result : Results W) (outputs : List (Output W P)) (outcomes : List (OutputOutcome W P)) : Type 0 where
  pub count : length outcomes ≡ length outputs
  pub each : (k : ℕ) (o : Output W P) (w : OutputOutcome W P) → k < length outputs → IsSettledBy is_result (get_or outputs k o) (get_or outcomes k w)

-- these are the outcomes of all
pub record AreSettled {W P : Type 0} (is_result : Results W) (outputs : List (Output W P)) (writers : List Writer) (outcomes : List (OutputOutcome W P)) : Type 0 where
  pub count : length outcomes ≡ length outputs
  pub each : (k : ℕ) (o : Output W P) (writer : Writer) (w : OutputOutcome W P) → k < length outputs
      → IsSettled is_result (asked_of (get_or outputs k o)) (get_or writers k writer) (get_or outcomes k w)
