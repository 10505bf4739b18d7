use Rattle.std.proofs.Common.{None, Some}
use Rattle.batch_serve.proofs.HeldText.{none_whole, whole_to}
use Rattle.batch_serve.proofs.held.whole_len.Goals as goal

pub returns-in-Some : goal.returns-in-Some
returns-in-Some c = whole_to c.args.text.now (Some c.in-Some.at) c.in-Some.ensures

pub returns-in-None : goal.returns-in-None
returns-in-None c = none_whole c.args.text.now (whole_to c.args.text.now None c.in-None.ensures)
