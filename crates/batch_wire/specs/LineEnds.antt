-- trusted: where the first line of a text ends.
use Rattle.std.specs.Prelude.{◌≡◌, ℕ, ◌<◌, List, length, take, get_or, ◌==◌, false}
use Rattle.std.specs.List.{All}

-- no line ends in the bytes
abbrev pub HasNoFeed : List ℕ → Type 0
HasNoFeed bytes = All (λ b. (b == 10) ≡ false) bytes

-- the first line feed in the bytes is there
pub record EndsLine (at : ℕ) (bytes : List ℕ) : Type 0 where
  pub within : at < length bytes
  pub feed : get_or bytes at 0 ≡ 10
  pub before : HasNoFeed (take at bytes)
