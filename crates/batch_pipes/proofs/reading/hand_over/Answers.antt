use Rattle.std.proofs.Common.{true, false}
use Rattle.std.proofs.lemmas.Bool.{false≢true}
use Rattle.batch_pipes.proofs.ThreadStreams.{hands_over}
use Rattle.batch_pipes.proofs.reading.hand_over.Goals as goal

pub returns-then-read_lines-clause-handed : goal.returns-then-read_lines-clause-handed
returns-then-read_lines-clause-handed g c =
    hands_over true c.read_lines.result (g.R.Read.remaining c.args.input) _ _ _ _ (λ t. c.if-read_lines.true) (rw (← c.new-lines.ensures) at c.new-clean.ensures) c.read_lines.ensures.read

pub returns-clause-handed : goal.returns-clause-handed
returns-clause-handed g c =
    hands_over false c.read_lines.result (g.R.Read.remaining c.args.input) _ _ _ _ (λ t. absurd (false≢true t)) (rw (← c.new-lines.ensures) at c.new-clean.ensures) c.read_lines.ensures.read
