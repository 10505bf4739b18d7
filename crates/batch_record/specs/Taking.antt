-- private: lines that are taken one after the other.
use Rattle.std.specs.Prelude.{◌≡◌, ℕ, List, Some, None, Result, MatchResult}
use Rattle.batch_record.specs.Blocks.{Stage, stage_after}
use Rattle.batch_record.specs.StatusReading.{IsRefusedAt}
use Rattle.batch_record.specs.Recorded.{IsRecord}
use Rattle.batch_record.specs.declared.picture_reading.RecordFault.{RecordFault}
use Rattle.batch_record.specs.declared.picture_reading.RecordFault.TheVariants as faults

-- the line with this number is one of a record, or none
abbrev pub TakesLine : List ℕ → ℕ → Result (Unit {0}) RecordFault → Type 0
TakesLine line number result =
    MatchResult result (λ _. (stage : Stage) → (next : Stage) × (stage_after stage line ≡ Some next))
    (λ fault. (told : ℕ) → fault ≡ faults.NoRecord told → (told ≡ number) × ((stage : Stage) → stage_after stage line ≡ None))

-- all whole lines are lines of a record, or one is none
abbrev pub TakesLines : List ℕ → Result (Unit {0}) RecordFault → Type 0
TakesLines text result =
    MatchResult result (λ _. IsRecord text) (λ fault. (number : ℕ) → fault ≡ faults.NoRecord number → IsRefusedAt text number)
