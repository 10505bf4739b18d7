use Rattle.batch_desk.proofs.SettledEngine.{settled-same}
use Rattle.batch_desk.proofs.hub.Hub.is_settled.Goals as goal

pub returns : goal.returns
returns c = settled-same _ c.args.self.now c.settled.result c.self.view_is c.settled.ensures
