use Rattle.std.proofs.Common.{inl, inr, [], ◌∷◌, refl, sym, append-nil, arith}
use Rattle.batch_set.proofs.SetRecipes.{recipe_linked}
use Rattle.batch_verdicts.proofs.BrokenRules.{rules_next}
use Rattle.batch_verdicts.proofs.every.rule_refusals.Goals as goal
use Rattle.batch_verdicts.proofs.every.rule_refusals.Goals.{in-Some+in_ok-refusal+in_ok-push+in-Circle-1, in-Some+in_ok-refusal+in_ok-push+in-Recipes-1, in_default}

pub index-own-requires : goal.index-own-requires
index-own-requires c = omega (arith, c.in_ok-linked.ensures.linked.count, c.loop-number-test.true)

pub first_broken-requires : goal.first_broken-requires
first_broken-requires c =
    recipe_linked c.args.cell.now c.args.recipes.now c.in_ok-linked.linked c.in_ok-linked.ensures c.loop-number.number c.index-recipes-number.result c.index-own.result.now
    c.loop-number-test.true c.index-recipes-number.is c.index-own.ensures

pub loop-number-preserved : goal.loop-number-preserved
loop-number-preserved c =
    let cell = c.args.cell.now in
    let recipes = c.args.recipes.now in
    let i = c.loop-number.number in
    let recipe = c.index-recipes-number.result in
    let before = c.loop-number.refusals.items in
    elim c.match-branch-3.branch [
      | in-Some+in_ok-refusal+in_ok-push+in-Circle-1 w ↦ rules_next cell recipes recipes i recipe before (w.in_ok-refusal.refusal ∷ []) c.match-branch-3.refusals.items
          c.loop-number-test.true c.index-recipes-number.is c.loop-number.invariant
          (inr (w.in-Some.broken, w.in_ok-refusal.refusal, rw w.in-Some.is at (c.in_ok-broken.ensures recipes), w.in_ok-refusal.ensures.text, w.in_ok-refusal.ensures.kind, refl))
          (rw w.refusals-is w.in_ok-push.ensures.items)
      | in-Some+in_ok-refusal+in_ok-push+in-Recipes-1 w ↦ rules_next cell recipes recipes i recipe before (w.in_ok-refusal.refusal ∷ []) c.match-branch-3.refusals.items
          c.loop-number-test.true c.index-recipes-number.is c.loop-number.invariant
          (inr (w.in-Some.broken, w.in_ok-refusal.refusal, rw w.in-Some.is at (c.in_ok-broken.ensures recipes), w.in_ok-refusal.ensures.text, w.in_ok-refusal.ensures.kind, refl))
          (rw w.refusals-is w.in_ok-push.ensures.items)
      | in_default w ↦ rules_next cell recipes recipes i recipe before [] c.match-branch-3.refusals.items c.loop-number-test.true c.index-recipes-number.is
          c.loop-number.invariant (inl (rw w.in_default.is at (c.in_ok-broken.ensures recipes), refl)) (rw w.refusals-is (sym (append-nil before)))
    ]
