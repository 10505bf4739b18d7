use Rattle.std.proofs.Common.{None, arith}
use Rattle.batch_check.proofs.{Names.resources_few, RecipeEdges.edges_of_all, RecipeEdges.standing_within}
use Rattle.batch_check.proofs.edges.edges_of.Goals as goal

pub new-requires : goal.new-requires
new-requires c = omega (arith, c.resources.ensures, resources_few c.args.cell.now)

pub returns-clause-edges : goal.returns-clause-edges
returns-clause-edges c = edges_of_all c.args.cell.now c.args.recipes.now None c.in_ok-set.set c.add_all.new.set c.in_ok-set.ensures.1 c.in_ok-add_all.ensures

pub returns-clause-within : goal.returns-clause-within
returns-clause-within c =
    standing_within c.args.cell.now c.args.recipes.now c.add_all.new.set.edges.items
    (edges_of_all c.args.cell.now c.args.recipes.now None c.in_ok-set.set c.add_all.new.set c.in_ok-set.ensures.1 c.in_ok-add_all.ensures).standing
