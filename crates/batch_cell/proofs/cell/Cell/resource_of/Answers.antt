use Rattle.std.proofs.Common.{length, arith, ap}
use Rattle.batch_cell.proofs.Resources.{few_resources}
use Rattle.batch_cell.proofs.cell.Cell.resource_of.Goals as goal

pub overflow_cast-result : goal.overflow_cast-result
overflow_cast-result c =
    let cell = c.args.self.now in
    omega (arith, c.in_ok-number.ensures.within, ap length cell.named, cell.few_units, cell.few_modules, cell.few_shared, few_resources cell.units.items cell.modules.items cell.shared.items)
