use Rattle.std.proofs.Common.{◌≡◌, List, ℕ, subst, None}
use Rattle.std.specs.Int.Bits.{bit_and}
use Rattle.batch_signs.{specs.SignSets.IsFirstShown, proofs.SignSets.none-wanted}
use Rattle.batch_signs.proofs.sets.Sets.next.Goals as goal

pub returns-then-self-from-eq0 : goal.returns-then-self-from-eq0
returns-then-self-from-eq0 c =
    subst (λ (ws : List ℕ). IsFirstShown ws c.args.wanted c.args.from None) c.self.view_is
    (none-wanted c.self.inside.words.items c.self.inside.summary c.self.inside.all c.args.wanted c.args.from c.self.invariant
    (subst (λ z. bit_and c.self.inside.all z ≡ 0) c.from.ensures c.if-self-from-eq0.true))
