use Rattle.batch_model.proofs.TreeParts.{parts-nodes}
use Rattle.batch_step_laws.proofs.parts_are_nodes.Goals as goal

pub returns : goal.returns
returns c = parts-nodes
