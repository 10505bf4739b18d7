-- surface: gates that were asked.
use Rattle.std.specs.Prelude.{◌≡◌, ℕ, zero, suc, Bool}

-- a gate was asked for as many turns, one after the other from turn 0 on
abbrev pub AreAsked : {G : Type 0} → (G → ℕ → Bool → G → Type 0) → ℕ → G → G → Type 0
AreAsked passes zero old new = new ≡ old
AreAsked {G} passes (suc turn) old new = (mid : G) × (made : Bool) × AreAsked passes turn old mid × passes mid turn made new
