use Rattle.std.proofs.Common.{◌≡◌, ◌+◌, ◌-◌, ◌<◌, length, subst, arith}
use Rattle.batch_verify.{specs.PhaseSets.AreKnownFrom, proofs.PhaseSets.AreKnownFrom-more}
use Rattle.batch_verify.proofs.tree_phases.tree_phases.Goals as goal

pub loop-node-preserved : goal.loop-node-preserved
loop-node-preserved c =
    let acts = c.args.recipe.now.acts in
    let m = c.loop-node.node - 1 in
    let next : c.loop-node.node ≡ m + 1 = omega (arith, c.loop-node-test.true) in
    let known = subst (AreKnownFrom acts c.loop-node.trees.items) next c.loop-node.invariant in
    let within : m < length c.loop-node.trees.items = omega (arith, c.loop-node-test.true, known.sized, c.loop-node.auto.node, c.node_count-count.ensures) in
    rw c.from-in-loop-node.ensures (AreKnownFrom-more acts c.loop-node.trees.items m c.tree_at.result known c.tree_at.ensures within)

pub returns : goal.returns
returns c =
    let first : c.loop-node.node ≡ 0 = omega (arith, c.loop-node-test.false) in
    subst (AreKnownFrom c.args.recipe.now.acts c.loop-node.trees.items) first c.loop-node.invariant
