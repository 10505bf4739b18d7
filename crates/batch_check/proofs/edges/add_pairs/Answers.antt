use Rattle.std.proofs.Common.{Some, [], length}
use Rattle.batch_cell.specs.LookUps.{resources_of}
use Rattle.batch_check.{specs.Collecting.AreAdded, specs.Collecting.HasAllPairs, specs.LeastRanking.HasEndsBelow, proofs.RecipeEdges.pairs_of_all, proofs.RecipeEdges.pairs_within}
use Rattle.std.proofs.lemmas.Result.{IfOk-weaker}
use Rattle.batch_check.proofs.edges.add_pairs.Goals as goal

pub returns-clause-pairs : goal.returns-clause-pairs
returns-clause-pairs c =
    let cell = c.args.cell.now in
    let recipes = c.args.recipes.now in
    let old = c.args.set.now in
    let new = c.add_all.new.set in
    IfOk-weaker c.add_all.result (λ _. AreAdded cell (Some []) recipes recipes old new) (λ _. HasAllPairs cell recipes old new)
    (λ done h. pairs_of_all cell recipes old new c.requires.edges h) c.add_all.ensures

pub returns-clause-within : goal.returns-clause-within
returns-clause-within c =
    let cell = c.args.cell.now in
    let recipes = c.args.recipes.now in
    let old = c.args.set.now in
    let new = c.add_all.new.set in
    IfOk-weaker c.add_all.result (λ _. AreAdded cell (Some []) recipes recipes old new) (λ _. HasEndsBelow (length (resources_of cell)) new.edges.items)
    (λ done h. pairs_within cell recipes old new (pairs_of_all cell recipes old new c.requires.edges h)) c.add_all.ensures
