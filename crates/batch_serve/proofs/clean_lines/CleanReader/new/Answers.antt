use Rattle.batch_serve.proofs.JournalLines.{new_cleans}
use Rattle.batch_serve.proofs.clean_lines.CleanReader.new.Goals as goal

pub returns : goal.returns
returns g c = new_cleans _ _ c.new.ensures
