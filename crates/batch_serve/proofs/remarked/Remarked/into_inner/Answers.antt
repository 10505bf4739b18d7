use Rattle.batch_serve.proofs.TextsWithComments.{remarked}
use Rattle.batch_serve.proofs.remarked.Remarked.into_inner.Goals as goal

pub returns : goal.returns
returns g c = remarked g.C.Start.contents (g.W.Write.contents c.args.self.inner) c.args.self.spot c.args.self.is_cut c.args.self.stands
