use Rattle.batch_serve.proofs.JournalLines.{alike}
use Rattle.batch_serve.proofs.laws.clean_lines_serve_alike.Goals as goal

pub returns : goal.returns
returns c = alike
