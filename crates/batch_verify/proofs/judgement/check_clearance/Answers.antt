use Rattle.std.proofs.Common.{◌≡◌, ap, ◌∙◌, subst}
use Rattle.std.proofs.lemmas.Result.{err_from_is_err_and}
use Rattle.batch_model.specs.{Cleared.Ranking, Cleared.IsClearedRecipe, Setups.setup_of, Lists.Each}
use Rattle.batch_verify.{specs.Ranked.rank_of, specs.Refusals.rank_in, proofs.VerdictMeaning.same_ranking, proofs.VerdictMeaning.recipe_refusal, proofs.RecipesInSet.set_length}
use Rattle.batch_verify.proofs.judgement.check_clearance.Goals as goal

pub check_each-requires-clause-few : goal.check_each-requires-clause-few
check_each-requires-clause-few c = set_length c.args.cell.now c.args.recipes.now ((c.is_recipe_set.ensures c.args.cell.now).0 c.if-not-is_recipe_set.false)

pub returns-clause-cleared : goal.returns-clause-cleared
returns-clause-cleared c =
    let cell = c.args.cell.now in
    let d = setup_of cell c.args.recipes.now in
    let ranks = c.args.certificate.now.ranks.items in
    let set = (c.is_recipe_set.ensures cell).0 c.if-not-is_recipe_set.false in
    let same : rank_in cell c.deref.result.now ≡ rank_of ranks = ap (rank_in cell) (c.deref.ensures.value ∙ c.in_ok-ranks.ensures.ok) ∙ same_ranking cell ranks c.in_ok-ranks.ensures.ranked.known in
    let P : Ranking → Type 0 = λ rank. Each (IsClearedRecipe d rank) d.recipes in
    record { names_differ = set.names_differ; few = set.few; recipes = subst P same c.in_ok-check_each.ensures.cleared }

pub returns-in_err-check_each-clause-first : goal.returns-in_err-check_each-clause-first
returns-in_err-check_each-clause-first c =
    let cell = c.args.cell.now in
    let ranks = c.args.certificate.now.ranks.items in
    let rank = rank_in cell c.deref.result.now in
    let same : rank ≡ rank_of ranks = ap (rank_in cell) (c.deref.ensures.value ∙ c.in_ok-ranks.ensures.ok) ∙ same_ranking cell ranks c.in_ok-ranks.ensures.ranked.known in
    let p = err_from_is_err_and c.from_residual-in_err-check_each.result c.from_residual-in_err-check_each.ensures.1 in
    let first = recipe_refusal (setup_of cell c.args.recipes.now) ranks rank _ same ((c.is_recipe_set.ensures cell).0 c.if-not-is_recipe_set.false) c.in_ok-ranks.ensures.ranked c.in_err-check_each.ensures.refused in
    rw (p.1, p.2) first
