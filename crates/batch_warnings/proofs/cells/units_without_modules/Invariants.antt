use Rattle.std.proofs.Common.{◌≡◌, not, take}
use Rattle.std.specs.List.{list_any}
use Rattle.batch_cell.specs.Equipment.{belongs_to}
use Rattle.batch_warnings.specs.Warnings.{numbers_passing}
use Rattle.batch_warnings.proofs.cells.units_without_modules.Given as goal

abbrev pub invariant-loop-number : goal.invariant-loop-number
invariant-loop-number l = l.numbers.items ≡ numbers_passing (λ u. not (list_any (belongs_to u.name) l.cell.modules.items)) 0 (take l.number l.unit-items)
