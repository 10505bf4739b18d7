use Rattle.batch_model.specs.Rest.{acts}
use Rattle.batch_step_laws.proofs.{WorkAfterMove.one_act, ActOrder.acts-rise}
use Rattle.batch_step_laws.proofs.rests.acts_rise.Goals as goal

pub returns : goal.returns
returns c = record { in_order = acts-rise; one = λ p chart r placed stands a b. one_act (acts r) a b (acts-rise p chart r placed stands) }
