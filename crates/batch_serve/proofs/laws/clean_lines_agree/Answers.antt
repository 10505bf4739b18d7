use Rattle.batch_serve.proofs.JournalLines.{agree}
use Rattle.batch_serve.proofs.laws.clean_lines_agree.Goals as goal

pub returns : goal.returns
returns c = agree
