-- The first bytes of a reader.
use Rattle.std.proofs.Common.{◌≡◌, ◌<◌, ℕ, List, ◌++◌, Option, Some, None, IfSome, length}
use Rattle.std.specs.Io.KnownBytes.{Consumes}
use Rattle.batch_verdicts.specs.Bytes.{IsOverLimit}

-- the bytes so far are too many
pub has_more : (a b : Option (List ℕ)) (limit : ℕ) (bytes : List ℕ) → Consumes a b bytes → limit < length bytes → IsOverLimit a limit bytes
has_more a b limit bytes c long = record { long = long; first = first_of a b bytes c }
  where
    first_of : (x y : Option (List ℕ)) (front : List ℕ) → Consumes x y front → IfSome x (λ input. (more : List ℕ) × (input ≡ front ++ more))
    first_of None y front k = tt
    first_of (Some xs) None front k = absurd k
    first_of (Some xs) (Some ys) front k = (ys, k)
