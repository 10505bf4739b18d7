use Rattle.std.proofs.Common.{arith}
use Rattle.batch_serve.proofs.PassedText.{passed_first}
use Rattle.batch_serve.proofs.held.Held.new.Goals as goal

pub invariant_of-result : goal.invariant_of-result
invariant_of-result g c = record { within = omega arith; told = passed_first _ _ c.requires }
