-- trusted: the lines of a record that is drawn.
use Rattle.std.specs.Prelude.{ℕ, List}
use Rattle.batch_record.specs.Blocks.{Stage}
use Rattle.batch_record.specs.StatusReading.{LeadsTo}

-- each whole line of the text is a line of a record
abbrev pub IsRecord : List ℕ → Type 0
IsRecord text = (stage : Stage) × LeadsTo text stage
