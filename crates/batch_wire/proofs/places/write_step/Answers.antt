use Rattle.std.proofs.lemmas.Fmt.{decimal_digit}
use Rattle.batch_wire.proofs.places.write_step.Goals as goal

pub returns-then-number-lt10 : goal.returns-then-number-lt10
returns-then-number-lt10 g c = rw (decimal_digit c.args.number c.if-number-lt10.true) c.write_all.ensures
