use Rattle.std.proofs.Common.{arith, subst, sym, List, ℕ, replicate}
use Rattle.batch_signs.{specs.SignSets.AreSummed, proofs.SignSets.summed-zeros}
use Rattle.batch_signs.proofs.sets.Sets.clear.Goals as goal

pub invariant_of-self : goal.invariant_of-self
invariant_of-self c =
    subst (λ (ws : List ℕ). AreSummed ws (replicate 32 0) 0) (sym (c.fill.ensures.items (λ y e. e)))
    (summed-zeros c.self.inside.words.len (omega (arith, c.self.invariant.whole, c.self.inside.words.ok.0)) (omega (arith, c.self.invariant.few, c.self.inside.words.ok.0)))
