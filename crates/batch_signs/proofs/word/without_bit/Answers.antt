use Rattle.batch_signs.proofs.Bits.{clear-bit}
use Rattle.batch_signs.proofs.word.without_bit.Goals as goal

pub returns : goal.returns
returns c = clear-bit c.args.word c.args.at c.ranges.word.fits c.requires
