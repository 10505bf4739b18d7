use Rattle.std.proofs.Common.{◌≡◌, ◌<◌, ℕ, Some, true, length, get_or, slice_get}
use Rattle.batch_cell.specs.LookUps.{units_of}
use Rattle.batch_model.specs.{Events.bound_by, Lists.Each}
use Rattle.batch_recipe.specs.declared.role.Role.{Role}
use Rattle.batch_engine.proofs.RolePairs.{may_take}
use Rattle.batch_engine.proofs.bindings.units_for.Given as goal

-- the roles so far are taken by units that may take them
abbrev pub invariant-loop-index : goal.invariant-loop-index
invariant-loop-index l =
    (length l.units ≡ 4)
    × Each (λ u. u < length (units_of l.cell)) l.units
    × ((k : ℕ) (role : Role) → k < l.index → slice_get l.roles k ≡ Some role
    → (may_take l.cell l.pairs role ≡ true) × (slice_get (units_of l.cell) (get_or l.units k 0) ≡ Some (bound_by l.pairs role.name)))
