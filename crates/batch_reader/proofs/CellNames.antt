-- The names that a cell declares.
use Rattle.std.proofs.Common.{arith, ◌≡◌, ℕ, List, [], ◌++◌, map, nat_eq}
use Rattle.std.specs.{Cmp.Lexicographic.pointwise, List.IsDistinct}
use Rattle.batch_cell.specs.{Equipment.unit_names, Equipment.IsDeclaredOnce, declared.unit.Unit.Unit, declared.module.Module.Module, declared.shared.Shared.Shared}
use Rattle.batch_reader.proofs.NamesSoFar.{IsDistinct-front}

-- names that are not distinct among the first of all names
pub declared_units_refused : (units : List Unit) (modules : List Module) (shared : List Shared) (keys : List (List ℕ)) → keys ≡ []
    → (IsDistinct (pointwise nat_eq) (keys ++ map (λ u. u.name) units) → ⊥) → IsDeclaredOnce units modules shared → ⊥
declared_units_refused units modules shared keys none twice h = grind (arith, IsDistinct-front)

pub declared_modules_refused : (units : List Unit) (modules : List Module) (shared : List Shared) (keys : List (List ℕ)) → keys ≡ unit_names units
    → (IsDistinct (pointwise nat_eq) (keys ++ map (λ m. m.name) modules) → ⊥) → IsDeclaredOnce units modules shared → ⊥
declared_modules_refused units modules shared keys so_far twice h = grind (arith, IsDistinct-front)
