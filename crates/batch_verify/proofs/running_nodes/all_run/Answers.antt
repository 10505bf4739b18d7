use Rattle.std.proofs.Common.{◌≡◌, slice_get, Some, false, true, arith}
use Rattle.batch_recipe.proofs.{NodesAbove.as_many, NodesBelow.read_at}
use Rattle.batch_verify.proofs.{RunningTrees.bool_at, RunningTrees.ends_later, RunningCases.KeepsAll-first, RunningCases.KeepsAll-all, RunningCases.KeepsAll-found, RunningCases.KeepsAll-next}
use Rattle.batch_verify.proofs.running_nodes.all_run.Goals as goal
use Rattle.batch_verify.proofs.running_nodes.all_run.Goals.{After-index}

pub loop-node-init : goal.loop-node-init
loop-node-init c = KeepsAll-first c.args.recipe.now c.args.first c.args.end

pub bounds-runs-from : goal.bounds-runs-from
bounds-runs-from c = omega (arith, c.from.ensures, c.requires.known.0, c.requires.within, c.loop-node-test.true)

pub index-requires : goal.index-requires
index-requires c = omega (arith, c.from-in-loop-node.ensures, as_many c.args.recipe.now, c.requires.within, c.loop-node-test.true)

pub returns-then-not-runs-from : goal.returns-then-not-runs-from
returns-then-not-runs-from c =
    KeepsAll-found c.args.recipe.now c.args.runs.now c.args.first c.args.end c.requires.known c.loop-node.node c.loop-node.invariant c.loop-node-test.true
    (bool_at c.args.runs.now c.loop-node.node c.from.result false (omega (arith, c.requires.known.0, c.requires.within, c.loop-node-test.true)) c.from.ensures c.if-not-runs-from.true)

was_read : (c : After-index) → slice_get c.args.recipe.now.outline.entries.items c.loop-node.node ≡ Some c.index.result.now
was_read c = grind (arith, read_at)

pub loop-node-preserved : goal.loop-node-preserved
loop-node-preserved c =
    KeepsAll-next c.args.recipe.now c.args.runs.now c.args.first c.args.end c.requires.known c.loop-node.node c.loop-node.invariant c.loop-node-test.true
    (bool_at c.args.runs.now c.loop-node.node c.from.result true (omega (arith, c.requires.known.0, c.requires.within, c.loop-node-test.true)) c.from.ensures c.if-not-runs-from.false)
    c.index.result.now (was_read c)

pub loop-node-smaller : goal.loop-node-smaller
loop-node-smaller c = omega (arith, ends_later c.args.recipe.now c.loop-node.node c.index.result.now (was_read c), c.loop-node-test.true)

pub returns : goal.returns
returns c = KeepsAll-all c.args.recipe.now c.args.runs.now c.args.first c.args.end c.requires.known c.loop-node.node c.loop-node.invariant c.loop-node-test.false
