use Rattle.batch_signs.proofs.Bits.{set-bit}
use Rattle.batch_signs.proofs.word.with_bit.Goals as goal

pub returns : goal.returns
returns c = set-bit c.args.word c.args.at c.requires
