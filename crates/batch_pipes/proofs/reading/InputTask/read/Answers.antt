use Rattle.batch_pipes.proofs.ReaderMessages.{may_hand_over}
use Rattle.batch_pipes.proofs.reading.InputTask.read.Goals as goal

pub hand_over-requires-clause-allowed : goal.hand_over-requires-clause-allowed
hand_over-requires-clause-allowed g c = may_hand_over g.P.InputBytes.given c.args.self.now (g.R.Read.remaining c.args.input) c.requires.new c.requires.given
