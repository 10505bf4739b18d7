use Rattle.std.proofs.Common.{◌≡◌, ◌<◌, length, true, false, subst, arith, inl, inr}
use Rattle.std.proofs.lemmas.Bool.{cases_lt}
use Rattle.batch_recipe.specs.Procedure.{procedure_nodes}
use Rattle.batch_chart.proofs.PassTarget.{as-counted, passes-no_act, passes-before, passes-follower, follower-within}
use Rattle.batch_chart.proofs.lookups.pass_target.Goals as goal

pub returns-in-None-clause-to : goal.returns-in-None-clause-to
returns-in-None-clause-to c = λ bound lt. passes-no_act c.args.recipe.now c.args.node c.args.need c.in-None.ensures.act bound lt

pub returns-then-need-own-clause-to : goal.returns-then-need-own-clause-to
returns-then-need-own-clause-to c = λ bound lt.
    passes-before c.args.recipe.now c.args.node c.in-Some.act.now (c.in-Some.ensures.act (as-counted c.args.recipe.now c.args.node bound lt)) c.args.need
    (subst (λ z. c.args.need < z) c.own_units-own.ensures c.if-need-own.true) bound lt

pub returns-else-need-own-clause-to : goal.returns-else-need-own-clause-to
returns-else-need-own-clause-to c = λ bound lt.
    passes-follower c.args.recipe.now c.args.node c.in-Some.act.now (c.in-Some.ensures.act (as-counted c.args.recipe.now c.args.node bound lt)) c.args.need c.from.result
    (omega (arith, c.own_units-own.ensures, c.if-need-own.false, c.from.ensures)) c.follows.result c.follows.ensures.some c.follows.ensures.none bound lt

pub returns-else-need-own-clause-within : goal.returns-else-need-own-clause-within
returns-else-need-own-clause-within c = elim (cases_lt c.args.node (length (procedure_nodes c.args.recipe.now.acts))) [
  | inl lt ↦
      follower-within c.args.recipe.now c.args.node c.in-Some.act.now (c.in-Some.ensures.act lt) c.args.need c.from.result
      (omega (arith, c.own_units-own.ensures, c.if-need-own.false, c.from.ensures)) c.follows.result c.follows.ensures.some c.follows.ensures.none lt
  | inr le ↦ (let bad : true ≡ false = c.in-Some.ensures.past le in absurd cc)
]
