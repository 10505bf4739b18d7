-- private: where a line ends.
use Rattle.std.specs.Prelude.{◌≡◌, ℕ, ◌+◌, ◌<◌, List, ◌∷◌, ◌++◌, length, take, drop}
use Rattle.batch_journal.specs.Lines.{IsLine}

-- a line feed is there, and neither another nor a zero byte before it
pub record EndsLine (at : ℕ) (bytes : List ℕ) : Type 0 where
  pub within : at < length bytes
  pub is_line : IsLine (take at bytes)
  pub feed : bytes ≡ take at bytes ++ 10 ∷ drop (at + 1) bytes
