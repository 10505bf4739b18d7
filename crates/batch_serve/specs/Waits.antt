-- surface: the queue of a desk, and the account of the lines sent to it.
use Rattle.std.specs.Prelude.{◌≡◌, ℕ, ◌<◌, Bool, true, false, List, [], ◌∷◌, ◌++◌, length, if◌then◌else◌}

-- the queued lines, how many may be, and whether the desk is cut
pub record Waits (T : Type 0) : Type 0 where
  pub lines : List T
  pub lag : ℕ
  pub is_cut : Bool

abbrev pub nothing_waits : {T : Type 0} → ℕ → Waits T
nothing_waits lag = record { lines = []; lag = lag; is_cut = false }

-- one more line is queued, unless the desk is cut
abbrev pub pushed : {T : Type 0} → T → Waits T → Waits T
pushed line w = if w.is_cut then w else (record w { lines = w.lines ++ line ∷ [] })

abbrev pub cut_off : {T : Type 0} → Waits T → Waits T
cut_off w = record w { lines = []; is_cut = true }

-- more lines are queued than may be
abbrev pub IsLate : {T : Type 0} → Waits T → Type 0
IsLate w = w.lag < length w.lines

-- a prefix of all lines for the desk was sent to it, and unless the desk is cut, the others are queued
pub record IsAccount {T : Type 0} (all told : List T) (w : Waits T) : Type 0 where
  pub rest : List T
  pub begins : all ≡ told ++ rest
  pub waits : w.is_cut ≡ false → rest ≡ w.lines
