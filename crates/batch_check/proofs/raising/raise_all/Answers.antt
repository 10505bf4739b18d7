use Rattle.std.proofs.Common.{◌+◌, ◌<◌, get_or, arith}
use Rattle.std.proofs.lemmas.List.Elements.{All-from_get_or}
use Rattle.batch_check.{specs.Raising.RisesOr, proofs.Raises.KeepsRaising-skip, proofs.Raises.KeepsRaising-raise, proofs.Raises.no_edge}
use Rattle.batch_check.proofs.raising.raise_all.Goals as goal
use Rattle.batch_check.proofs.raising.raise_all.Goals.{then-ranks-later+else-rank-count, else-ranks-later}

pub loop-edge-preserved : goal.loop-edge-preserved
loop-edge-preserved c = elim c.if-ranks-later.branch [
  | then-ranks-later+else-rank-count w ↦
      rw (w.ranks-is, w.causes-is, w.raised-is, c.from-earlier.ensures, c.from-later.ensures)
      (KeepsRaising-raise c.args.edges.now c.args.ranks.now c.loop-edge.ranks c.loop-edge.causes c.loop-edge.raised c.loop-edge.edge-index
      c.requires.within c.loop-edge.invariant c.loop-edge-test.true (rw (c.from-earlier.ensures, c.from-later.ensures) at w.if-ranks-later.true) (omega (arith, c.loop-edge.auto.ranks, rw c.from-earlier.ensures at w.if-rank-count.false)))
  | else-ranks-later w ↦
      rw (w.ranks-is, w.causes-is, w.raised-is)
      (KeepsRaising-skip c.args.edges.now c.args.ranks.now c.loop-edge.ranks c.loop-edge.causes c.loop-edge.raised c.loop-edge.edge-index
      c.requires.within c.loop-edge.invariant c.loop-edge-test.true (rw (c.from-earlier.ensures, c.from-later.ensures) at w.if-ranks-later.false))
]

pub returns-then-raised-clause-round : goal.returns-then-raised-clause-round
returns-then-raised-clause-round c = λ k h. All-from_get_or (RisesOr (k + 1) c.loop-edge.ranks) c.args.edges.now no_edge (λ j in'. c.loop-edge.invariant.raised k h j (omega arith))

pub returns-else-raised-clause-round : goal.returns-else-raised-clause-round
returns-else-raised-clause-round c =
    All-from_get_or (λ e. get_or c.loop-edge.ranks e.earlier 0 < get_or c.loop-edge.ranks e.later 0) c.args.edges.now no_edge (λ j in'. c.loop-edge.invariant.still c.if-raised.false j (omega arith))
