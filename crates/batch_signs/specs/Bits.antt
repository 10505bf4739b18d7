-- surface: bits of a word.
use Rattle.std.specs.Prelude.{◌≡◌, ◌<◌, ◌≤◌, ℕ, Bool, true, false, nat_eq, Option, Some, None}
use Rattle.std.specs.Int.{bit_at}

-- the function with 1 at a number
abbrev pub with_one : ℕ → (ℕ → ℕ) → ℕ → ℕ
with_one at f k = elim (nat_eq k at) [ true ↦ 1 | false ↦ f k ]

abbrev pub with_zero : ℕ → (ℕ → ℕ) → ℕ → ℕ
with_zero at f k = elim (nat_eq k at) [ true ↦ 0 | false ↦ f k ]

abbrev pub with_told : Bool → ℕ → (ℕ → ℕ) → ℕ → ℕ
with_told true at f k = with_one at f k
with_told false at f k = with_zero at f k

-- the lowest bit that is set, from this one on
abbrev pub IsLowestFrom : ℕ → ℕ → Option ℕ → Type 0
IsLowestFrom word from None = (k : ℕ) → from ≤ k → bit_at word k ≡ 0
IsLowestFrom word from (Some l) = (l < 64) × (from ≤ l) × (bit_at word l ≡ 1) × ((k : ℕ) → from ≤ k → k < l → bit_at word k ≡ 0)
