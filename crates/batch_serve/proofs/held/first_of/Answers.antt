use Rattle.batch_serve.proofs.HeldText.{finds_first}
use Rattle.batch_serve.proofs.held.first_of.Goals as goal

pub returns : goal.returns
returns c = finds_first c.args.text.now c.args.needle.now c.find.result c.requires c.find.ensures
