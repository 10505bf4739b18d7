use Rattle.batch_chart.proofs.LivePhase.{from-first}
use Rattle.batch_chart.proofs.laws.acts_from_the_first_node.Goals as goal

pub returns : goal.returns
returns c = λ t running. from-first t running.stages.items
