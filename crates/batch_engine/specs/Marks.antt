-- surface: the marked numbers.
use Rattle.std.specs.Prelude.{◌≡◌, ◌<◌, ◌≤◌, ◌/◌, ◌%◌, ℕ, List, length, Option, Some, None, slice_index}
use Rattle.std.specs.Int.{bit_at}

-- 1 if the number is marked, else 0
abbrev pub mark_at : List ℕ → ℕ → ℕ
mark_at words i = bit_at (slice_index words (i / 64)) (i % 64)

abbrev pub IsMarked : List ℕ → ℕ → Type 0
IsMarked words i = mark_at words i ≡ 1

abbrev pub IsUnmarked : List ℕ → ℕ → Type 0
IsUnmarked words i = mark_at words i ≡ 0

abbrev pub IsNextMark : List ℕ → ℕ → Option ℕ → Type 0
IsNextMark words from None = (i : ℕ) → from ≤ i → i < 4096 → IsUnmarked words i
IsNextMark words from (Some m) = (m < 4096) × (from ≤ m) × IsMarked words m × ((i : ℕ) → from ≤ i → i < m → IsUnmarked words i)

-- each bit of the summary tells whether its word is 0
pub record IsSummary (words : List ℕ) (summary : ℕ) : Type 0 where
  pub count : length words ≡ 64
  pub none : (k : ℕ) → k < 64 → bit_at summary k ≡ 0 → slice_index words k ≡ 0
  pub some : (k : ℕ) → k < 64 → bit_at summary k ≡ 1 → 0 < slice_index words k
