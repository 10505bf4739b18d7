use Rattle.batch_recipe.proofs.ConditionCopies.{HavePushed-more, HavePushed-all}
use Rattle.batch_recipe.proofs.copying.push_conditions.Goals as goal

pub loop-choice-preserved : goal.loop-choice-preserved
loop-choice-preserved c =
    HavePushed-more c.args.choices.now c.args.conditions.now.items c.loop-choice.choice-index c.loop-choice.conditions.items c.push_condition.new.conditions.items c.loop-choice.invariant
    c.choice-item.result c.loop-choice-test.true c.choice-item.is c.in_ok-push_condition.ensures

pub returns : goal.returns
returns c = HavePushed-all c.args.choices.now c.args.conditions.now.items c.loop-choice.choice-index c.loop-choice.conditions.items c.loop-choice.invariant c.loop-choice-test.false
