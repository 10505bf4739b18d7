use Rattle.batch_desk.proofs.Outlines.{rings_stay, scopes_stay}
use Rattle.batch_desk.proofs.laws.outlines_keep_rings.Goals as goal

pub returns : goal.returns
returns c = λ h g same. (rings_stay h g same, scopes_stay h g same)
