-- private: the progress of reading.
use Rattle.std.specs.Prelude.{◌≡◌, ℕ, ◌-◌, ◌^◌, List, [], ◌∷◌, ◌++◌, length, min, Option, Some, None, ⊤, Result, MatchResult}
use Rattle.batch_record.specs.Blocks.{Stage, opening_stage, stage_after, stages}
use Rattle.batch_record.specs.Kept.{Keeps}
use Rattle.batch_wire.specs.LineEnds.{HasNoFeed}
use Rattle.batch_record.specs.StatusReading.{IsRefusedAt, IsText}
use Rattle.batch_record.specs.Telling.{Tale}
use Rattle.batch_record.specs.declared.course.RecordCourse.{RecordCourse}
use Rattle.batch_record.specs.declared.status_reading.StatusFault.{StatusFault}
use Rattle.batch_record.specs.declared.status_reading.StatusFault.TheVariants as status_faults
use Rattle.batch_record.specs.declared.status_reading.Reading.{Reading}
use Rattle.batch_record.specs.declared.status.Status.{Status}

abbrev pub KeepsBlock : Option Status → Option Tale → Type 0
KeepsBlock None None = ⊤
KeepsBlock (Some status) (Some tale) = Keeps status tale
KeepsBlock _ _ = ⊥

-- the kept state is that of the stage
pub record IsAt (course : RecordCourse) (stage : Stage) : Type 0 where
  pub tale : Keeps course.status stage.tale
  pub block : KeepsBlock course.block stage.block

-- the line with this number was taken, or is none of a record
abbrev pub Takes : RecordCourse → List ℕ → ℕ → Result (Unit {0}) StatusFault → RecordCourse → Type 0
Takes old line number result new =
    (stage : Stage) → IsAt old stage
    → MatchResult result (λ _. (next : Stage) × (stage_after stage line ≡ Some next) × IsAt new next)
    (λ fault. (told : ℕ) → fault ≡ status_faults.NoRecord told → (told ≡ number) × (stage_after stage line ≡ None))

-- the bytes were read: whole lines, and the beginning of the line after them
pub record HasRead (reading : Reading) (read : List ℕ) : Type 0 where
  pub lines : List (List ℕ)
  pub stage : Stage
  pub is_text : IsText lines reading.line.items read
  pub stages : stages opening_stage lines ≡ Some stage
  pub is_at : IsAt reading.course stage
  pub counted : reading.count ≡ min (length lines) (2 ^ 64 - 1)

-- the line ends with these bytes, or is none of a record, whatever was read before and whatever follows it
abbrev pub Ends : Reading → List ℕ → Result (Unit {0}) StatusFault → Reading → Type 0
Ends old end result new =
    (read : List ℕ) → HasRead old read → HasNoFeed end
    → MatchResult result (λ _. HasRead new (read ++ (end ++ 10 ∷ [])))
    (λ fault. (number : ℕ) → fault ≡ status_faults.NoRecord number → (rest : List ℕ) → IsRefusedAt (read ++ (end ++ 10 ∷ rest)) number)

-- a piece more was read, or a line in it is none of a record, whatever was read before
abbrev pub Feeds : Reading → List ℕ → Result (Unit {0}) StatusFault → Reading → Type 0
Feeds old piece result new =
    (read : List ℕ) → HasRead old read
    → MatchResult result (λ _. HasRead new (read ++ piece)) (λ fault. (number : ℕ) → fault ≡ status_faults.NoRecord number → IsRefusedAt (read ++ piece) number)
