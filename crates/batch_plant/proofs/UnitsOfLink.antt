-- The units that a link keeps, one after another.
use Rattle.std.proofs.Common.{◌≡◌, ℕ, inl, inr, List, [], ◌∷◌, ◌++◌, length}
use Rattle.batch_cell.specs.declared.cell.Cell.{Cell}
use Rattle.batch_verify.proofs.Faults.{one_more}
use Rattle.batch_plant.specs.{UnitsOfCell.AreCellUnits, UnitsOfCell.IsUnitAt, declared.unit_phases.UnitPhases.UnitPhases}

pub one_kept : (cell : Cell) (units : List UnitPhases) (unit : UnitPhases) (n : ℕ) → length units ≡ n → AreCellUnits cell units → IsUnitAt cell n unit → AreCellUnits cell (units ++ unit ∷ [])
one_kept cell units unit n count all last number found is =
    elim (one_more units unit n number found count is) [
      | inl (below, was) ↦ all number found was
      | inr (here, same) ↦ rw (here, ← same) last
    ]
