-- trusted: the effect of serving a cleared set on the unread bytes of a reader and on the contents of a writer.
use Rattle.std.specs.Prelude.{◌≡◌, ℕ, ◌≤◌, List, take, length, Option, IfSome, Result, Ok, Err}
use Rattle.std.specs.Io.KnownBytes.{Keeps, IsAtEnd}
use Rattle.batch_verify.specs.ClearedSet.{ClearedSet}
use Rattle.batch_engine.specs.Looked.{unfinished}
use Rattle.batch_engine.specs.View.{setup}
use Rattle.batch_wire.specs.Transcript.{lines_of}
use Rattle.batch_serve.specs.Safe.{WritesSafely, BeginsSafely, WritesWholeSafely}
use Rattle.batch_serve.specs.declared.fault.ServeFault.TheVariants.{Read, Write, TooManyReads}
use Rattle.batch_serve.specs.declared.fault.SetFault.{SetFault}
use Rattle.batch_serve.specs.declared.fault.SetFault.TheVariants.{Memory, Stopped}

-- the reader's bytes, and the writer's, before and after
pub record Ends : Type 0 where
  pub unread : Option (List ℕ)
  pub left : Option (List ℕ)
  pub before : Option (List ℕ)
  pub after : Option (List ℕ)

-- the text of a safe transcript was written, and in the plant to which it leads so many batches are neither complete, stopped nor
-- aborted
abbrev pub WritesTo : ClearedSet → ℕ → List (List ℕ) → Option (List ℕ) → Option (List ℕ) → Type 0
WritesTo set left lines before after =
    (written : WritesSafely (setup set) lines before after) × (left ≡ unfinished written.new)

-- all lines of the input were answered, and left so many batches unfinished
pub record AnswersAll (set : ClearedSet) (left : ℕ) (ends : Ends) : Type 0 where
  pub writes : IfSome ends.unread (λ input. WritesTo set left (lines_of input) ends.before ends.after)
  pub ended : IsAtEnd ends.left

-- the whole lines read were answered
abbrev pub AnswersWholeLines : ClearedSet → Ends → Type 0
AnswersWholeLines set ends = WritesWholeSafely (setup set) ends.unread ends.left ends.before ends.after

-- the input had at least a byte for each call that the reader was allowed
abbrev pub HasAsManyBytes : ℕ → Ends → Type 0
HasAsManyBytes n ends = IfSome ends.unread (λ input. n ≤ length input)

-- the first lines of the input were answered, and a prefix of the answers was written
abbrev pub AnswersFirstLines : ClearedSet → Ends → Type 0
AnswersFirstLines set ends = IfSome ends.unread (λ input. (n : ℕ) × BeginsSafely (setup set) (take n (lines_of input)) ends.before ends.after)

-- nothing was read and nothing written
abbrev pub IsUntouched : Ends → Type 0
IsUntouched ends = Keeps ends.unread ends.left × Keeps ends.before ends.after

-- the answers of the cleared set's engine from its opening on, by the outcome
abbrev pub Serves : ClearedSet → ℕ → Result ℕ SetFault → Ends → Type 0
Serves set max_reads (Ok left) ends = AnswersAll set left ends
Serves set max_reads (Err (Stopped Read)) ends = AnswersWholeLines set ends
Serves set max_reads (Err (Stopped TooManyReads)) ends = AnswersWholeLines set ends × HasAsManyBytes max_reads ends
Serves set max_reads (Err (Stopped Write)) ends = AnswersFirstLines set ends
Serves set max_reads (Err Memory) ends = IsUntouched ends
