use Rattle.batch_desk.proofs.PortEnds.{sizes_new}
use Rattle.batch_desk.proofs.opening.open_port.Goals as goal

pub returns-clause-sizes : goal.returns-clause-sizes
returns-clause-sizes c = sizes_new c.new-port.result c.in_ok-sends.events c.in_ok-outs.outs _ _ c.new-port.ensures.rings c.in_ok-sends.ensures.consumer.2 c.in_ok-outs.ensures.producer.2
