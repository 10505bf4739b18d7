-- A batch of the size of the basis has the values that are declared.
use Rattle.std.proofs.Common.{arith, ◌≡◌, ℕ, ◌<◌}
use Rattle.batch_recipe.{specs.Formula.batch_value, specs.Scale.IsScaled, specs.declared.quantity.Quantity.Quantity, proofs.ScaledValues.scaled_only}

same_scaled : (value basis : ℕ) → 0 < basis → IsScaled value basis basis value
same_scaled value basis some = record { low = omega (arith, some); high = omega (arith, some) }

pub declared_value : (basis : ℕ) (q : Quantity) → 0 < basis → batch_value basis basis q ≡ q.value
declared_value basis q some = grind (arith, scaled_only q.value basis basis q.value some (same_scaled q.value basis some))
