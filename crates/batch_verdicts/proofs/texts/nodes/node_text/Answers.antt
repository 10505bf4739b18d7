use Rattle.std.proofs.Common.{length, refl, string_bytes}
use Rattle.std.proofs.lemmas.Option.{slice_get_read}
use Rattle.batch_verdicts.proofs.NodeTexts.{node_told}
use Rattle.batch_verdicts.proofs.texts.nodes.node_text.Goals as goal

pub returns-in-Some : goal.returns-in-Some
returns-in-Some c =
    let recipes = c.args.recipes.now in
    let found = c.in-Some.ensures.lookup in
    let at = slice_get_read recipes (length recipes) c.from.result c.in-Some.recipe.now refl found.3.0 found.1 in
    rw (← c.from.ensures) (node_told string_bytes recipes c.from.result c.args.node c.in-Some.recipe.now c.node_of_text.result at c.node_of_text.ensures)
