use Rattle.std.proofs.Common.{◌≡◌, ◌<◌, List, ap, arith, inl, inr, length, refl, rules, subst}
use Rattle.std.proofs.lemmas.{List.nil_from_length, Result.err_from_is_err_and}
use Rattle.batch_verify.proofs.RecipesInSet.{set_length}
use Rattle.batch_verdicts.specs.{Every.AreRulesRefused, declared.refusal.DocumentRefusal.DocumentRefusal}
use Rattle.batch_verdicts.proofs.every.find_broken_rules.Goals as goal

pub rule_refusals-requires : goal.rule_refusals-requires
rule_refusals-requires c = set_length c.args.cell.now c.args.recipes.now ((c.is_recipe_set.ensures c.args.cell.now).0 c.if-not-is_recipe_set.false)

pub returns-then-not-is_recipe_set-clause-kept : goal.returns-then-not-is_recipe_set-clause-kept
returns-then-not-is_recipe_set-clause-kept c = inl (λ set. let is = (c.is_recipe_set.ensures c.args.cell.now).1 set in absurd cc)

pub returns-then-is_empty-clause-kept : goal.returns-then-is_empty-clause-kept
returns-then-is_empty-clause-kept c =
    let refusals = c.in_ok-refusals.refusals.items in
    let Refused : List DocumentRefusal → Type 0 = AreRulesRefused c.args.cell.now c.args.recipes.now 0 c.args.recipes.now in
    let none : length refusals ≡ 0 = search rules in
    inr (subst Refused (nil_from_length refusals none) c.in_ok-refusals.ensures.refused)

pub returns-clause-broken : goal.returns-clause-broken
returns-clause-broken c =
    let some : 0 < length c.in_ok-refusals.refusals.items = search rules in (
      (c.is_recipe_set.ensures c.args.cell.now).0 c.if-not-is_recipe_set.false,
      c.in_ok-refusals.ensures.refused,
      λ none. omega (arith, ap length none, some),
    )

pub returns-in_err-refusals-clause-broken : goal.returns-in_err-refusals-clause-broken
returns-in_err-refusals-clause-broken c =
    let p = err_from_is_err_and c.from_residual.result c.from_residual.ensures.1 in
    rw (p.1, p.2, c.in_err-refusals.ensures.memory) refl
