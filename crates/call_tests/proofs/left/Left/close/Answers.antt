use Rattle.call_tests.proofs.FirstPort.{tokens_of_port, left_back}
use Rattle.call_tests.proofs.left.Left.close.Goals as goal

pub close_by-requires : goal.close_by-requires
close_by-requires c = tokens_of_port _ _ _ c.self.invariant

pub invariant_of-self : goal.invariant_of-self
invariant_of-self c = left_back _ _ _ _ _ c.close_by.ensures.rings c.close_by.ensures.token c.self.invariant
