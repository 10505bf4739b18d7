use Rattle.std.proofs.Common.{◌+◌, arith, inl, inr, refl}
use Rattle.batch_recipe.proofs.{NodeSubtrees.some_count, NodesAbove.as_many, NodesBelow.KeepsLooking-first, NodesBelow.KeepsLooking-found, NodesBelow.KeepsLooking-more, NodesBelow.KeepsLooking-none, NodesBelow.end_read, NodesBelow.read_at}
use Rattle.batch_recipe.proofs.nodes.child_of.Goals as goal

pub index-requires : goal.index-requires
index-requires c = omega (arith, c.from.ensures, c.requires, as_many c.args.recipe.now)

pub loop-at-init : goal.loop-at-init
loop-at-init c =
    let r = c.args.recipe.now in
    let x = end_read r c.args.node c.from.result c.index.result.now c.requires c.from.ensures c.index.ensures in
    KeepsLooking-first r c.args.node c.args.child (c.args.node + 1) x.0 x.1 refl

pub index-entry-requires : goal.index-entry-requires
index-entry-requires c =
    let r = c.args.recipe.now in
    let x = end_read r c.args.node c.from.result c.index.result.now c.requires c.from.ensures c.index.ensures in
    omega (arith, c.from-in-loop-at.ensures, as_many r, c.loop-at-test.true, x.3)

pub returns-then-entry-child-clause-some : goal.returns-then-entry-child-clause-some
returns-then-entry-child-clause-some c =
    let r = c.args.recipe.now in
    let x = end_read r c.args.node c.from.result c.index.result.now c.requires c.from.ensures c.index.ensures in
    let is = read_at r c.loop-at.at c.from-in-loop-at.result c.index-entry.result.now (omega (arith, c.loop-at-test.true, x.3)) c.from-in-loop-at.ensures c.index-entry.ensures in
    KeepsLooking-found r c.args.node c.args.child c.loop-at.at x.0 x.1 c.loop-at.invariant c.index-entry.result.now is c.if-entry-node.true c.if-entry-child.true

pub loop-at-smaller : goal.loop-at-smaller
loop-at-smaller c =
    let r = c.args.recipe.now in
    let x = end_read r c.args.node c.from.result c.index.result.now c.requires c.from.ensures c.index.ensures in
    let y = end_read r c.loop-at.at c.from-in-loop-at.result c.index-entry.result.now (omega (arith, c.loop-at-test.true, x.3)) c.from-in-loop-at.ensures c.index-entry.ensures in
    omega (arith, c.loop-at-test.true, y.2, some_count y.0.here)

pub loop-at-preserved : goal.loop-at-preserved
loop-at-preserved c =
    let r = c.args.recipe.now in
    let x = end_read r c.args.node c.from.result c.index.result.now c.requires c.from.ensures c.index.ensures in
    let is = read_at r c.loop-at.at c.from-in-loop-at.result c.index-entry.result.now (omega (arith, c.loop-at-test.true, x.3)) c.from-in-loop-at.ensures c.index-entry.ensures in
    KeepsLooking-more r c.args.node c.args.child c.loop-at.at x.0 x.1 c.loop-at.invariant c.index-entry.result.now is (omega (arith, c.loop-at-test.true, x.2))
    (λ up number. elim c.else-entry-node.either [ inl w ↦ w.1 number | inr w ↦ w up ])

pub returns-clause-none : goal.returns-clause-none
returns-clause-none c = λ _.
    let r = c.args.recipe.now in
    let x = end_read r c.args.node c.from.result c.index.result.now c.requires c.from.ensures c.index.ensures in
    KeepsLooking-none r c.args.node c.args.child c.loop-at.at x.0 x.1 c.loop-at.invariant (omega (arith, c.loop-at-test.false, x.2))
