use Rattle.std.proofs.Common.{List, ℕ, sym, subst, arith}
use Rattle.std.{specs.Int.Bits.bit_and, proofs.lemmas.Nat.and_le_r}
use Rattle.batch_signs.{specs.SignSets.IsFirstShown, proofs.SignSets.first-among}
use Rattle.batch_signs.proofs.sets.Sets.next_of_many.Goals as goal

pub overflow_cast-shown : goal.overflow_cast-shown
overflow_cast-shown c = omega (arith, and_le_r c.self.inside.all c.from.result, c.from.ensures, c.ranges.wanted.fits)

pub returns : goal.returns
returns c =
    subst (λ (ws : List ℕ). IsFirstShown ws c.args.wanted c.args.from c.search.result) c.self.view_is
    (first-among c.self.inside.words.items c.self.inside.summary c.self.inside.all c.args.wanted c.args.from c.self.invariant c.search.result
    (subst (λ z. IsFirstShown c.self.inside.words.items (bit_and c.self.inside.all z) c.args.from c.search.result) c.from.ensures
    (subst (λ (ws : List ℕ). IsFirstShown ws (bit_and c.self.inside.all c.from.result) c.args.from c.search.result) (sym c.self.view_is) c.search.ensures)))
