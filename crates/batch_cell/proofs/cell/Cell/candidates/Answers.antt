use Rattle.std.proofs.Common.{length, ap, arith}
use Rattle.batch_cell.{proofs.Candidates.few_counted, specs.LookUps.is_of_class}
use Rattle.batch_cell.proofs.cell.Cell.candidates.Goals as goal

pub overflow_add-count : goal.overflow_add-count
overflow_add-count c =
    let units = c.deref-unit-items.result.now in
    let few = few_counted (is_of_class c.args.class.now) units c.loop-unit.unit-index in
    omega (arith, few, ap length c.deref-unit-items.ensures.value, c.args.self.now.few_units, c.loop-unit.invariant)
