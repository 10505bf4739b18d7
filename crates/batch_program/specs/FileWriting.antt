-- trusted: the outcome of `check --write`.
use Rattle.std.specs.Prelude.{◌≡◌, ◌⊎◌, ℕ, List, Some}
use Rattle.batch_verdicts.specs.Running.{IsUnwritten, Stream, fault_status, memory_status, success_status}
use Rattle.batch_program.specs.RecordRuns.{Holds}

-- the file at the path contains the text, if its contents are known, and nothing is written to the errors; or the status says that it
-- wasn't written
abbrev pub IsWritten : Holds → List ℕ → List ℕ → Stream → ℕ → Type 0
IsWritten holds path text errors status =
    (holds path (Some text) × IsUnwritten errors × (status ≡ success_status)) ⊎ (status ≡ fault_status) ⊎ (status ≡ memory_status)
