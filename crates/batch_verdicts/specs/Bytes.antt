-- surface: the bytes that are read of a reader: all of them, or more than the limit.
use Rattle.std.specs.Prelude.{◌≡◌, ◌<◌, ◌≤◌, ℕ, List, ◌++◌, length, Option, IfSome, ⊤}
use Rattle.std.specs.Io.KnownBytes.{IsAtEnd}
use Rattle.batch_verdicts.specs.declared.reading.ReadFault.{ReadFault}
use Rattle.batch_verdicts.specs.declared.reading.ReadFault.TheVariants.{Failed, TooManyReads, Long, Memory}

-- all bytes that the reader had, and no more than the limit
pub record IsReadWhole (unread left : Option (List ℕ)) (limit : ℕ) (bytes : List ℕ) : Type 0 where
  pub whole : IfSome unread (λ input. bytes ≡ input)
  pub short : length bytes ≤ limit
  pub ended : IsAtEnd left

-- the reader had more bytes than the limit, of which these are the first
pub record IsOverLimit (unread : Option (List ℕ)) (limit : ℕ) (front : List ℕ) : Type 0 where
  pub long : limit < length front
  pub first : IfSome unread (λ input. (more : List ℕ) × (input ≡ front ++ more))

-- bytes are called too many only if they are
abbrev pub IsReadTooFar : Option (List ℕ) → ℕ → ReadFault → Type 0
IsReadTooFar unread limit (Failed error) = ⊤
IsReadTooFar unread limit TooManyReads = ⊤
IsReadTooFar unread limit (Long front) = IsOverLimit unread limit front.items
IsReadTooFar unread limit Memory = ⊤

-- a fault of the reader says nothing of how many bytes there are
abbrev pub IsOfReader : ReadFault → Type 0
IsOfReader (Failed error) = ⊤
IsOfReader TooManyReads = ⊤
IsOfReader (Long front) = ⊥
IsOfReader Memory = ⊤
