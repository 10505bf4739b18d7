use Rattle.std.proofs.Common.{◌*◌, subst, sym, List, ℕ, replicate, arith}
use Rattle.batch_signs.{specs.SignSets.AreSummed, proofs.SignSets.summed-zeros}
use Rattle.batch_signs.proofs.sets.Sets.new.Goals as goal

pub invariant_of-result : goal.invariant_of-result
invariant_of-result c =
    subst (λ (ws : List ℕ). AreSummed ws (replicate 32 0) 0) (sym (c.in_ok-vec.ensures.items_if_clones_equal (λ y e. e)))
    (summed-zeros (c.div_ceil.result * 32) (omega arith) (omega (arith, c.div_ceil.ensures, c.requires)))
