use Rattle.batch_serve.proofs.HeldText.{held_rows}
use Rattle.batch_serve.proofs.laws.held_rows.Goals as goal

pub returns : goal.returns
returns c = held_rows
