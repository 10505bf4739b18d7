use Rattle.std.proofs.Common.{List, ℕ, subst}
use Rattle.batch_signs.{specs.Signs.FindsNone, proofs.NodesBySign.finds-none}
use Rattle.batch_signs.proofs.signs.Signs.are_absent.Goals as goal

pub returns : goal.returns
returns c =
    subst (λ (ws : List ℕ). FindsNone ws c.args.wanted c.are_absent.result) c.self.view_is
    (finds-none c.self.inside.nodes.items c.self.inside.sets c.args.wanted 0 c.self.invariant c.ranges.wanted.fits c.are_absent.result c.are_absent.ensures)
