use Rattle.std.proofs.Common.{refl}
use Rattle.batch_cli.proofs.table.commands.Goals as goal

pub returns : goal.returns
returns c = refl
