use Rattle.call_tests.proofs.FirstPort.{left_sealed}
use Rattle.call_tests.proofs.left.Left.seal.Goals as goal

pub invariant_of-self : goal.invariant_of-self
invariant_of-self c = left_sealed _ _ _ _ _ _ c.in-Ok-Some.ensures.ok c.self.invariant

pub invariant_of-self-in-Ok-None : goal.invariant_of-self-in-Ok-None
invariant_of-self-in-Ok-None c = left_sealed _ _ _ _ _ _ c.in-Ok-None.ensures.ok c.self.invariant
