use Rattle.batch_serve.proofs.TextsWithComments.{told_nothing}
use Rattle.batch_serve.proofs.remarked.RemarkedWrite.flush.Goals as goal

pub invariant_of-self : goal.invariant_of-self
invariant_of-self g c =
    let now = c.args.self.now in
    record { stands = (told_nothing g.C.Start.contents (g.W.Write.contents now.inner) (g.W.Write.contents c.flush.new.self) now.spot now.is_cut c.flush.ensures.bytes now.stands).1 }
