use Rattle.std.proofs.Common.{List, ℕ, subst}
use Rattle.batch_signs.{specs.Signs.IsNextShown, proofs.NodesBySign.next-shown}
use Rattle.batch_signs.proofs.signs.Signs.next_of_many.Goals as goal

pub returns : goal.returns
returns c =
    subst (λ (ws : List ℕ). IsNextShown ws c.args.wanted c.args.from c.next_of_many.result) c.self.view_is
    (next-shown c.self.inside.nodes.items c.self.inside.sets c.args.wanted c.args.from c.self.invariant c.ranges.wanted.fits c.next_of_many.result c.next_of_many.ensures)
