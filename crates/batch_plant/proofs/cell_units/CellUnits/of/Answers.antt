use Rattle.std.proofs.Common.{[], ◌∷◌, length-append, arith}
use Rattle.batch_plant.proofs.UnitsOfLink.{one_kept}
use Rattle.batch_plant.proofs.cell_units.CellUnits.of.Goals as goal

pub loop-unit-preserved : goal.loop-unit-preserved
loop-unit-preserved c =
    let (count, units) = c.loop-unit.invariant in
    let unit = c.in_ok-of.field-0 in
    rw c.in_ok-push.ensures.items
    (omega (arith, count, length-append c.loop-unit.units.items (unit ∷ [])), one_kept c.args.cell.now c.loop-unit.units.items unit c.loop-unit.unit count units c.in_ok-of.ensures)
