use Rattle.std.proofs.Common.{arith}
use Rattle.batch_check.proofs.Names.{resources_few}
use Rattle.batch_check.proofs.site.Site.number_of.Goals as goal

pub overflow_add-result : goal.overflow_add-result
overflow_add-result c = omega (arith, c.resources.ensures, c.from.ensures, resources_few c.args.self.now.cell.now)
