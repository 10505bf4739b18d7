use Rattle.std.proofs.Common.{sym, ◌∙◌}
use Rattle.batch_recipe.specs.declared.recipe.Recipe.{Recipe}
use Rattle.batch_messages.{proofs.WordsByNumber.said_found, proofs.WordsByNumber.said_past, specs.CircleSentence.name_of_act_at}
use Rattle.batch_messages.proofs.names.act_name.Goals as goal

pub returns-in-Some : goal.returns-in-Some
returns-in-Some c =
    let found = c.in-Some.ensures.lookup in
    let named = said_found (λ (r : Recipe). name_of_act_at r c.args.node) c.args.recipes.now c.from.result c.in-Some.recipe.now found.3.0 found.1 in
    rw (← c.from.ensures) (c.name_at.ensures ∙ sym named)

pub returns-in-None : goal.returns-in-None
returns-in-None c =
    let unnamed = said_past (λ (r : Recipe). name_of_act_at r c.args.node) c.args.recipes.now c.from.result c.in-None.ensures.lookup.3 in
    rw (← c.from.ensures) (sym unnamed)
