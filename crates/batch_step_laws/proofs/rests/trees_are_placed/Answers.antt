use Rattle.batch_step_laws.proofs.ActPlaces.{expanded-HasPlacedTrees, bound_tree-IsPlaced}
use Rattle.batch_step_laws.proofs.rests.trees_are_placed.Goals as goal

pub returns : goal.returns
returns c = record { tree = bound_tree-IsPlaced; setups = expanded-HasPlacedTrees }
