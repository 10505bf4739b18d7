use Rattle.std.proofs.Common.{List, ℕ, subst, sym, nat_eq}
use Rattle.std.specs.Int.Bits.{bit_and}
use Rattle.batch_signs.{specs.SignSets.AreAbsent, proofs.SignSets.absent-told}
use Rattle.batch_signs.proofs.sets.Sets.are_absent.Goals as goal

pub returns : goal.returns
returns c =
    subst (λ (ws : List ℕ). AreAbsent ws c.args.wanted (nat_eq (bit_and c.self.inside.all c.from.result) 0)) c.self.view_is
    (subst (λ z. AreAbsent c.self.inside.words.items c.args.wanted (nat_eq (bit_and c.self.inside.all z) 0)) (sym c.from.ensures)
    (absent-told c.self.inside.words.items c.self.inside.summary c.self.inside.all c.args.wanted c.self.invariant c.ranges.wanted.fits))
