use Rattle.std.proofs.Common.{◌++◌, ◌∷◌, [], not, if◌then◌else◌, ap, sym, ◌∙◌}
use Rattle.std.specs.List.{list_any}
use Rattle.batch_cell.specs.Equipment.{belongs_to}
use Rattle.batch_warnings.proofs.NumbersOfMatches.{numbers_at}
use Rattle.batch_warnings.proofs.cells.units_without_modules.Goals as goal

pub loop-number-preserved : goal.loop-number-preserved
loop-number-preserved c =
    c.in_ok-numbers.ensures
    ∙ ap (λ ns. ns ++ (if not c.has_module.result then c.loop-number.number ∷ [] else [])) c.loop-number.invariant
    ∙ rw c.has_module.ensures
    (sym (numbers_at (λ u. not (list_any (belongs_to u.name) c.args.cell.now.modules.items)) c.deref-unit-items.result.now c.loop-number.number c.unit-item.result c.loop-number-test.true c.unit-item.is))
