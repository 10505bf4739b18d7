use Rattle.std.proofs.Common.{◌≡◌, subst, arith, inl, inr}
use Rattle.batch_engine.proofs.marking.mark_firsts.Goals as goal
use Rattle.batch_signs.proofs.Bits.{within-or_past}

pub loop-resource-preserved : goal.loop-resource-preserved
loop-resource-preserved c =
    record {
      firsts = λ q lt i served u. elim (within-or_past q c.loop-resource.resource) [
        | inl l ↦ c.loop-resource.invariant.firsts q l i served (c.mark_first.ensures.kept i u)
        | inr l ↦ c.mark_first.ensures.set i (subst (λ n. Rattle.batch_engine.specs.Marking.IsServedAt c.args.control.now n i) (let e : q ≡ c.loop-resource.resource = omega (arith, lt, l) in e) served) u
      ];
      kept = λ i u. c.loop-resource.invariant.kept i (c.mark_first.ensures.kept i u);
    }

pub returns-clause-set : goal.returns-clause-set
returns-clause-set c q lt = c.loop-resource.invariant.firsts q (omega (arith, lt, c.resources-resource-end.ensures, c.loop-resource-test.false))

pub returns-clause-kept : goal.returns-clause-kept
returns-clause-kept c = c.loop-resource.invariant.kept
