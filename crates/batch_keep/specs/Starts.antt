-- surface: why there is no start over a journal.
use Rattle.std.specs.Prelude.{ℕ, List, ⊤}
use Rattle.batch_journal.specs.Recovery.{IsRefusedFor}
use Rattle.batch_keep.specs.declared.starting.StartFault.{StartFault}
use Rattle.batch_keep.specs.declared.starting.StartFault.TheVariants.{Recovery, Memory, Block}

-- a file is refused for its contents; nothing is said of memory
abbrev pub IsStartRefused : List ℕ → List ℕ → StartFault → Type 0
IsStartRefused documents file (Recovery fault) = IsRefusedFor documents file fault
IsStartRefused documents file Memory = ⊤
IsStartRefused documents file (Block fault) = ⊤
