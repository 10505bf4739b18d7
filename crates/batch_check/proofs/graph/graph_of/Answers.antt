use Rattle.std.proofs.Common.{length}
use Rattle.batch_cell.specs.LookUps.{resources_of}
use Rattle.batch_check.{specs.LeastRanking.HasEndsBelow, proofs.RecipeEdges.edges_with, proofs.RecipeEdges.standing_within}
use Rattle.batch_verify.proofs.RecipesInSet.{set_length}
use Rattle.batch_check.proofs.graph.graph_of.Goals as goal

pub edges_of-requires-clause-few : goal.edges_of-requires-clause-few
edges_of-requires-clause-few c = set_length c.args.cell.now c.args.recipes.now ((c.is_recipe_set.ensures c.args.cell.now).0 c.if-not-is_recipe_set.false)

pub add_each-requires : goal.add_each-requires
add_each-requires c =
    let within : HasEndsBelow (length (resources_of c.args.cell.now)) c.args.circle.now = standing_within c.args.cell.now c.args.recipes.now c.args.circle.now c.requires in
    rw c.in_ok-set.ensures.sized within

pub returns-clause-edges : goal.returns-clause-edges
returns-clause-edges c =
    edges_with c.args.cell.now c.args.recipes.now c.in_ok-set.set c.add_each.new.set c.args.circle.now c.in_ok-set.ensures.edges c.requires c.in_ok-add_each.ensures
