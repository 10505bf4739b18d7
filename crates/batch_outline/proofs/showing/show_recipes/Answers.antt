use Rattle.std.proofs.Common.{[], ◌++◌, ◌∙◌, ap}
use Rattle.batch_outline.{specs.Showing.recipe_text, proofs.LineSeats.texts_more}
use Rattle.batch_outline.proofs.showing.show_recipes.Goals as goal

pub loop-recipe-preserved : goal.loop-recipe-preserved
loop-recipe-preserved c =
    let r = c.recipe-item.result in
    c.in_ok-put_recipe.ensures ∙ ap (λ text. text ++ recipe_text r) c.loop-recipe.invariant
    ∙ texts_more recipe_text [] c.args.recipes.now c.loop-recipe.recipe-index r r c.loop-recipe-test.true c.recipe-item.is
