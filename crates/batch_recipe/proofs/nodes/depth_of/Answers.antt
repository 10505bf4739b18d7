use Rattle.std.proofs.Common.{◌≡◌, get_or, slice_get, Some, ap, ◌∙◌, arith}
use Rattle.batch_recipe.proofs.NodesAbove.{IsAbove-first, IsAbove-next, in_nodes, read, as_many, parent_is_earlier, top_size}
use Rattle.batch_recipe.proofs.nodes.depth_of.Goals as goal
use Rattle.batch_recipe.proofs.nodes.depth_of.Goals.{After-index}

is_read : (c : After-index) → slice_get c.args.recipe.now.outline.entries.items c.loop-at.at ≡ Some c.index.result.now
is_read c =
    read c.args.recipe.now c.loop-at.at c.index.result.now (in_nodes c.args.recipe.now c.args.node c.loop-at.at c.loop-at.depth c.loop-at.invariant)
    (c.index.ensures ∙ ap (λ n. get_or c.args.recipe.now.outline.entries.items n c.index.result.now) c.from.ensures)

pub loop-at-init : goal.loop-at-init
loop-at-init c = IsAbove-first c.args.recipe.now c.args.node c.requires

pub index-requires : goal.index-requires
index-requires c =
    omega (arith, c.from.ensures, as_many c.args.recipe.now, in_nodes c.args.recipe.now c.args.node c.loop-at.at c.loop-at.depth c.loop-at.invariant)

pub loop-at-preserved : goal.loop-at-preserved
loop-at-preserved c = IsAbove-next c.args.recipe.now c.args.node c.loop-at.at c.loop-at.depth c.loop-at.invariant c.index.result.now (is_read c) c.loop-at-test.true

pub loop-at-smaller : goal.loop-at-smaller
loop-at-smaller c = parent_is_earlier c.args.recipe.now c.args.node c.loop-at.at c.loop-at.depth c.loop-at.invariant c.index.result.now (is_read c) c.loop-at-test.true

pub overflow_add-depth : goal.overflow_add-depth
overflow_add-depth c = omega (arith, c.loop-at.invariant.room)

pub returns : goal.returns
returns c = top_size c.args.recipe.now c.args.node c.loop-at.at c.loop-at.depth c.loop-at.invariant c.loop-at-test.false
