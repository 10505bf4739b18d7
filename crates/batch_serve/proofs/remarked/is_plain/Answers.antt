use Rattle.batch_serve.proofs.TextsWithComments.{plain_all}
use Rattle.batch_serve.proofs.remarked.is_plain.Goals as goal

pub returns-in-None : goal.returns-in-None
returns-in-None c = λ _. plain_all c.args.bytes.now c.in-None.ensures
