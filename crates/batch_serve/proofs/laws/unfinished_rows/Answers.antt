use Rattle.std.proofs.Common.{refl}
use Rattle.batch_serve.proofs.laws.unfinished_rows.Goals as goal

pub returns : goal.returns
returns c = record { at_rest = refl; at_work = refl; mixed = refl }
