-- A scaled value is the whole number nearest to its quotient, and the only one.
use Rattle.std.proofs.Common.{◌≡◌, ℕ, ◌+◌, ◌*◌, ◌≤◌, ◌<◌, arith}
use Rattle.std.proofs.{Math.Nat.mul-div-le, Math.Nat.lt-mul-div-succ, Math.Nat.div-eq_of_lt-le, lemmas.Nat.mul-le}
use Rattle.batch_recipe.specs.Scale.{IsScaled, scaled}

pub scaled_is : (value size basis : ℕ) → 0 < basis → IsScaled value size basis (scaled value size basis)
scaled_is value size basis some = record {
  low = mul-div-le (2 * value * size + basis) (2 * basis);
  high = lt-mul-div-succ (2 * value * size + basis) {b = 2 * basis} (omega (arith, some));
}

pub scaled_only : (value size basis w : ℕ) → 0 < basis → IsScaled value size basis w → scaled value size basis ≡ w
scaled_only value size basis w some h = grind (arith, div-eq_of_lt-le)

pub fits : (value size : ℕ) → value ≤ 1000000000000 → size ≤ 1000000000 → 2 * value * size ≤ 2000000000000000000000
fits value size v s = mul-le (2 * value) size 2000000000000 1000000000 (omega (arith, v)) s
