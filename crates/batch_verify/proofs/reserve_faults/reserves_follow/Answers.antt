use Rattle.std.proofs.Common.{arith}
use Rattle.batch_recipe.specs.{Followers.IsFollowerAt, Procedure.bound_tree}
use Rattle.batch_verify.proofs.Followers.{all_follow, is_found, is_none, one_fails, one_more}
use Rattle.batch_verify.proofs.reserve_faults.reserves_follow.Goals as goal

pub loop-i-init : goal.loop-i-init
loop-i-init c = λ bound at is. tt

pub returns-then-is_none-clause-not : goal.returns-then-is_none-clause-not
returns-then-is_none-clause-not c = λ no bound at is.
    one_fails (bound_tree bound c.args.recipe.now.acts) at c.loop-i.i (omega (arith, c.loop-i-test.true, c.requires bound at is))
    (c.follows.ensures.none bound at is (is_none c.follows.result c.if-is_none.ensures))

pub loop-i-preserved : goal.loop-i-preserved
loop-i-preserved c = λ bound at is.
    let found = is_found (λ to. IsFollowerAt bound c.args.recipe.now.acts at c.loop-i.i to) c.follows.result c.if-is_none.ensures (c.follows.ensures.some bound at is) in
    one_more (bound_tree bound c.args.recipe.now.acts) at c.loop-i.i found.1.0 (c.loop-i.invariant bound at is) found.1.1

pub returns-clause-follow : goal.returns-clause-follow
returns-clause-follow c = λ all bound at is.
    all_follow (bound_tree bound c.args.recipe.now.acts) at c.loop-i.i (omega (arith, c.loop-i-test.false, c.requires bound at is)) (c.loop-i.invariant bound at is)
