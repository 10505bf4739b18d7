-- worked rows: of the lines for a desk, those sent to it and those queued.
use Rattle.std.specs.Prelude.{ℕ, [], ◌∷◌, true, false}
use Rattle.batch_serve.specs.Waits.{IsAccount}

-- the first of the lines 1, 2, 3 was sent, and the others are queued
abbrev pub FrontIsTold : Type 0
FrontIsTold = IsAccount {T = ℕ} (1 ∷ 2 ∷ 3 ∷ []) (1 ∷ []) (record { lines = 2 ∷ 3 ∷ []; lag = 4; is_cut = false })

-- the second can't be sent before it, nor one that never came
abbrev pub NoOtherIsTold : Type 0
NoOtherIsTold =
    (¬ IsAccount {T = ℕ} (1 ∷ 2 ∷ 3 ∷ []) (2 ∷ []) (record { lines = 3 ∷ []; lag = 4; is_cut = true }))
    × (¬ IsAccount {T = ℕ} (1 ∷ []) (1 ∷ 1 ∷ []) (record { lines = []; lag = 4; is_cut = false }))

-- a line that wasn't sent is queued
abbrev pub RestWaits : Type 0
RestWaits = ¬ IsAccount {T = ℕ} (1 ∷ 2 ∷ 3 ∷ []) (1 ∷ []) (record { lines = 3 ∷ []; lag = 4; is_cut = false })

-- or the desk is cut
abbrev pub CutLosesTheRest : Type 0
CutLosesTheRest = IsAccount {T = ℕ} (1 ∷ 2 ∷ 3 ∷ []) (1 ∷ []) (record { lines = []; lag = 4; is_cut = true })
