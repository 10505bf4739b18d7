use Rattle.std.proofs.Common.{◌+◌}
use Rattle.batch_wire.proofs.recipe_places.RecipePlaces.+reach.Given as goal

abbrev pub decreases-extend : goal.decreases-extend
decreases-extend l = l.node + l.node + l.node

abbrev pub decreases-reach : goal.decreases-reach
decreases-reach l = l.node + l.node + l.node + 1

abbrev pub decreases-reach_above : goal.decreases-reach_above
decreases-reach_above l = l.node + l.node + l.node + 2
