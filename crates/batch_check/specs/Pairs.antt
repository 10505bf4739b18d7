-- private: pairs of resources that an edge joins.
use Rattle.std.specs.Prelude.{◌≡◌, ℕ, ◌<◌, ◌/◌, ◌%◌, Bool, List, IsTrue, Option, Some, nat_eq, slice_get, slice_index}
use Rattle.std.specs.Int.{bit_at}
use Rattle.batch_check.specs.declared.edge.Edge.{Edge}
use Rattle.batch_check.specs.Edges.{has_pair}

-- every pair that has an edge in the one list has one in the other
abbrev pub Keeps : List Edge → List Edge → Type 0
Keeps old new = (earlier later : ℕ) → IsTrue (has_pair old earlier later) → IsTrue (has_pair new earlier later)

-- each two needs, of which one comes before the other, have an edge where both are resources
abbrev pub ArePaired : List Edge → List (Option ℕ) → Type 0
ArePaired edges needs = (before place earlier later : ℕ) → before < place
    → slice_get needs before ≡ Some (Some earlier) → slice_get needs place ≡ Some (Some later) → IsTrue (has_pair edges earlier later)

-- the bit with this number is set in the words, of 64 bits each
abbrev pub has_bit : List ℕ → ℕ → Bool
has_bit words number = nat_eq (bit_at (slice_index words (number / 64)) (number % 64)) 1
