use Rattle.std.proofs.Common.{◌∙◌}
use Rattle.batch_serve.proofs.TextsWithComments.{decimal_part}
use Rattle.batch_serve.proofs.remarking.write_milliseconds.Goals as goal

pub write_part-requires-2 : goal.write_part-requires-2
write_part-requires-2 g c = decimal_part c.as_bytes-digits.result.now c.args.milliseconds (c.as_bytes-digits.ensures.value ∙ c.format.ensures.text) c.ranges.milliseconds.fits
