use Rattle.std.proofs.Common.{arith}
use Rattle.batch_engine.proofs.{BatchLookups.got-chart, BatchAtIndex.IsRead, BatchAtIndex.chart-within, BatchAtIndex.entry-within, BatchAtIndex.linked-here, BatchAtIndex.linked-within, MoveLines.start-told}
use Rattle.batch_engine.proofs.control.Control.start_line.Goals as goal

pub index-own-requires : goal.index-own-requires
index-own-requires c =
    let r : IsRead c.args.self.now c.requires.index c.args.batch.now = record { kept = c.requires.kept; at = c.requires.at } in
    omega (arith, c.from.ensures, linked-within (linked-here c.self.view_is c.linked-set.ensures) r)

pub recipe-recipe-requires : goal.recipe-recipe-requires
recipe-recipe-requires c = chart-within c.self.view_is (record { kept = c.requires.kept; at = c.requires.at })

pub handed-requires : goal.handed-requires
handed-requires c =
    let r : IsRead c.args.self.now c.requires.index c.args.batch.now = record { kept = c.requires.kept; at = c.requires.at } in
    omega (arith, entry-within r (got-chart c.args.self.now _ c.args.batch.now.recipe c.recipe-recipe.result.now c.self.view_is c.recipe-recipe.ensures) c.requires.few)

pub returns : goal.returns
returns c =
    start-told c.args.self.now c.requires.kept c.requires.index c.args.batch.now c.requires.at c.recipe-recipe.result.now
    (got-chart c.args.self.now _ c.args.batch.now.recipe c.recipe-recipe.result.now c.self.view_is c.recipe-recipe.ensures) c.handed.result c.phase_at-unit.ensures c.handed.ensures
