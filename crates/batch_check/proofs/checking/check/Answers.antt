use Rattle.std.proofs.Common.{sym, subst}
use Rattle.std.proofs.lemmas.Result.{err_from_is_err_and}
use Rattle.batch_model.specs.{Cleared.Ranking, Cleared.IsCleared, Setups.setup_of}
use Rattle.batch_check.{specs.ByName.IsCertificateOf, specs.Clearing.IsLeastClearance, specs.TightRanks.RanksTightly, proofs.CertificateRanks.TellsRanks-certificate, proofs.Verdicts.recipe_fault_none, proofs.Verdicts.circle_fault_none, proofs.Verdicts.least_clearance, proofs.Verdicts.candidates_known, proofs.Verdicts.needs_known}
use Rattle.batch_verify.proofs.RecipesInSet.{set_length}
use Rattle.batch_check.proofs.checking.check.Goals as goal

pub returns-in_err-check_each-clause-none : goal.returns-in_err-check_each-clause-none
returns-in_err-check_each-clause-none c =
    let p = err_from_is_err_and c.from_residual-in_err-check_each.result c.from_residual-in_err-check_each.ensures.1 in
    rw (p.1, p.2) (λ known. recipe_fault_none (setup_of c.args.cell.now c.args.recipes.now) c.in_err-check_each.field-0.0 c.in_err-check_each.ensures.fault known)

pub returns-in_err-ranks-clause-none : goal.returns-in_err-ranks-clause-none
returns-in_err-ranks-clause-none c =
    let p = err_from_is_err_and c.from_residual-in_err-ranks.result c.from_residual-in_err-ranks.ensures.1 in
    rw (p.1, p.2) (λ known. circle_fault_none c.args.cell.now c.args.recipes.now c.in_err-ranks.field-0.0 c.in_err-ranks.ensures.fault known)

pub returns-clause-ranked : goal.returns-clause-ranked
returns-clause-ranked c =
    let h : IsCertificateOf c.args.cell.now c.in_ok-ranks.ranks.items c.in_ok-ranks-2.ranks.items = rw c.deref.ensures.value at c.in_ok-ranks-2.ensures in
    (TellsRanks-certificate c.args.cell.now c.in_ok-ranks.ranks.items c.in_ok-ranks-2.ranks.items c.in_ok-ranks.ensures.least.complete h).ranked

pub returns-clause-in_order : goal.returns-clause-in_order
returns-clause-in_order c =
    let h : IsCertificateOf c.args.cell.now c.in_ok-ranks.ranks.items c.in_ok-ranks-2.ranks.items = rw c.deref.ensures.value at c.in_ok-ranks-2.ensures in
    (TellsRanks-certificate c.args.cell.now c.in_ok-ranks.ranks.items c.in_ok-ranks-2.ranks.items c.in_ok-ranks.ensures.least.complete h).in_order

pub returns-clause-least : goal.returns-clause-least
returns-clause-least c =
    let cell = c.args.cell.now in
    let ranks = c.in_ok-ranks.ranks.items in
    let entries = c.in_ok-ranks-2.ranks.items in
    let h : IsCertificateOf cell ranks entries = rw c.deref.ensures.value at c.in_ok-ranks-2.ensures in
    subst (λ (rank : Ranking). IsLeastClearance cell c.args.recipes.now rank) (sym (TellsRanks-certificate cell ranks entries c.in_ok-ranks.ensures.least.complete h).by_name)
    (least_clearance cell c.args.recipes.now ranks ((c.is_recipe_set.ensures c.args.cell.now).0 c.if-not-is_recipe_set.false) c.in_ok-check_each.ensures.sound c.in_ok-ranks.ensures.least)

pub returns-clause-cleared : goal.returns-clause-cleared
returns-clause-cleared c =
    let cell = c.args.cell.now in
    let ranks = c.in_ok-ranks.ranks.items in
    let entries = c.in_ok-ranks-2.ranks.items in
    let h : IsCertificateOf cell ranks entries = rw c.deref.ensures.value at c.in_ok-ranks-2.ensures in
    subst (λ (rank : Ranking). IsCleared (setup_of cell c.args.recipes.now) rank) (sym (TellsRanks-certificate cell ranks entries c.in_ok-ranks.ensures.least.complete h).by_name)
    (least_clearance cell c.args.recipes.now ranks ((c.is_recipe_set.ensures c.args.cell.now).0 c.if-not-is_recipe_set.false) c.in_ok-check_each.ensures.sound c.in_ok-ranks.ensures.least).clearing

pub returns-clause-tight : goal.returns-clause-tight
returns-clause-tight c =
    let cell = c.args.cell.now in
    let ranks = c.in_ok-ranks.ranks.items in
    let entries = c.in_ok-ranks-2.ranks.items in
    let h : IsCertificateOf cell ranks entries = rw c.deref.ensures.value at c.in_ok-ranks-2.ensures in
    subst (λ (rank : Ranking). RanksTightly cell c.args.recipes.now rank) (sym (TellsRanks-certificate cell ranks entries c.in_ok-ranks.ensures.least.complete h).by_name)
    (c.in_ok-ranks.ensures.least.tight (candidates_known cell c.args.recipes.now c.args.recipes.now c.in_ok-check_each.ensures.sound) (needs_known cell c.args.recipes.now c.args.recipes.now c.in_ok-check_each.ensures.sound))

pub check_each-requires-clause-few : goal.check_each-requires-clause-few
check_each-requires-clause-few c = set_length c.args.cell.now c.args.recipes.now ((c.is_recipe_set.ensures c.args.cell.now).0 c.if-not-is_recipe_set.false)
