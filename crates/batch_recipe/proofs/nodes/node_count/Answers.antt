use Rattle.std.proofs.Common.{arith}
use Rattle.batch_recipe.proofs.NodesAbove.{as_many}
use Rattle.batch_recipe.proofs.nodes.node_count.Goals as goal

pub returns : goal.returns
returns c = omega (arith, c.len.ensures, as_many c.args.recipe.now)
