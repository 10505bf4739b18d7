use Rattle.std.proofs.Common.{refl}
use Rattle.std.proofs.lemmas.Option.{slice_get_within}
use Rattle.batch_recipe.proofs.{NodesAbove.ns, NodesBelow.none_from, NodesBelow.root_at}
use Rattle.batch_recipe.proofs.nodes.node_below.Goals as goal

pub loop-child-init : goal.loop-child-init
loop-child-init c = root_at c.args.recipe.now

pub child_of-requires : goal.child_of-requires
child_of-requires c = slice_get_within (ns c.args.recipe.now) c.loop-child.at c.loop-child.invariant.0 c.loop-child.invariant.1

pub returns-in-None-clause-none : goal.returns-in-None-clause-none
returns-in-None-clause-none c = λ _.
    none_from c.args.recipe.now c.loop-child.at c.loop-child.child-index c.args.below.now c.loop-child.invariant c.loop-child-test.true (c.in-None.ensures.none refl)
