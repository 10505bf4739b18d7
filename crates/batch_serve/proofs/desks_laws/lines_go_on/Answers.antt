use Rattle.batch_serve.proofs.DeskLines.{lines_go_on}
use Rattle.batch_serve.proofs.desks_laws.lines_go_on.Goals as goal

pub returns : goal.returns
returns g c = lines_go_on g.O.Protocol.allows
