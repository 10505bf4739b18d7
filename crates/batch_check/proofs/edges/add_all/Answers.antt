use Rattle.std.proofs.Common.{arith}
use Rattle.batch_check.{specs.Collecting.kept_at_top, proofs.RecipeEdges.AreAdded-more}
use Rattle.batch_set.proofs.SetRecipes.{recipe_linked}
use Rattle.batch_check.proofs.edges.add_all.Goals as goal

pub index-own-requires : goal.index-own-requires
index-own-requires c = omega (arith, c.requires.linked.linked.count, c.loop-number-test.true)

pub add_edges-requires-clause-linked : goal.add_edges-requires-clause-linked
add_edges-requires-clause-linked c =
    recipe_linked c.args.cell.now c.args.recipes.now c.args.linked.now c.requires.linked c.loop-number.number c.index-recipes-number.result c.index-own.result.now
    c.loop-number-test.true c.index-recipes-number.is c.index-own.ensures

pub loop-number-preserved : goal.loop-number-preserved
loop-number-preserved c =
    AreAdded-more c.args.cell.now c.args.recipes.now (kept_at_top c.args.reach) c.args.set.now c.loop-number.set c.add_edges.new.edges c.loop-number.number c.index-recipes-number.result
    c.loop-number.invariant c.loop-number-test.true c.index-recipes-number.is c.in_ok-add_edges.ensures
