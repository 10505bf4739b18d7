-- surface: the units of a cell by their numbers, each with its driver.
use Rattle.std.specs.Prelude.{◌≡◌, ℕ, List, Bool, true, false, Option, Some, None, slice_get, slice_set}
use Rattle.batch_matrix.specs.declared.report.Report.{Report}
use Rattle.batch_sim.specs.declared.order.Order.{Order}

-- one tick passes at the unit with this number, and its driver answers. An unknown unit answers nothing
abbrev pub Ticks : {D : Type 0} → (D → Option (ℕ × Report) → D → Type 0) → ℕ → List D → Option (ℕ × Report) → List D → Type 0
Ticks {D} gives unit old answer new =
    elim (slice_get old unit) [
      | None ↦ (answer ≡ None) × (new ≡ old)
      | Some driver ↦ (after : D) × gives driver answer after × (new ≡ slice_set old unit after)
    ]

-- a phase of the unit with this number is given an order, and whether the unit is known
abbrev pub TakesOrder : {D : Type 0} → (D → ℕ → Order → D → Type 0) → ℕ → ℕ → Order → List D → Bool → List D → Type 0
TakesOrder {D} gives unit phase order old known new =
    elim (slice_get old unit) [
      | None ↦ (known ≡ false) × (new ≡ old)
      | Some driver ↦ (after : D) × (known ≡ true) × gives driver phase order after × (new ≡ slice_set old unit after)
    ]
