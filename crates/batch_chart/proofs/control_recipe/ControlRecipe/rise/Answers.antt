use Rattle.std.proofs.Common.{◌∙◌, arith}
use Rattle.batch_chart.proofs.{PathToRoot.above-each, PathToRoot.some-at, PathToRoot.risen-top, PathToRoot.risen-stop, EndedActSigns.left-neat, EndedActSigns.risen-neat}
use Rattle.batch_chart.proofs.control_recipe.ControlRecipe.rise.Goals as goal

pub go_on_at-requires-clause-standing : goal.go_on_at-requires-clause-standing
go_on_at-requires-clause-standing c =
    let above = above-each _ _ _ c.requires.laid.1 _ c.loop-n-test.true c.loop-n.invariant.within in
    some-at _ _ _ c.requires.laid.1 _ _ (c.loop-n.auto.stages ∙ c.requires.fits) (omega (arith, above.before, c.loop-n.invariant.within))

pub returns-then-not-go_on_at : goal.returns-then-not-go_on_at
returns-then-not-go_on_at c =
    let above = above-each _ _ _ c.requires.laid.1 _ c.loop-n-test.true c.loop-n.invariant.within in
    λ xs ws ms r s.
    (let now = c.loop-n.invariant.risen xs ws ms r s in
    let stops = c.if-not-go_on_at.ensures.passes xs ws ms now.0 now.1 in (
      risen-stop _ _ _ c.requires.laid.1 _ _ _ _ _ (omega (arith, above.before, c.loop-n.invariant.within)) stops.0,
      stops.1.count,
      left-neat _ _ _ c.requires.laid.1 _ (omega (arith, above.before, c.loop-n.invariant.within)) _ _ _ _ stops.1,
    ))

pub loop-n-preserved : goal.loop-n-preserved
loop-n-preserved c =
    let above = above-each _ _ _ c.requires.laid.1 _ c.loop-n-test.true c.loop-n.invariant.within in
    record {
      within = omega (arith, above.before, c.loop-n.invariant.within);
      fits = c.if-not-go_on_at.ensures.count ∙ c.loop-n.invariant.fits;
      risen = λ xs ws ms r s. (let now = c.loop-n.invariant.risen xs ws ms r s in c.if-not-go_on_at.ensures.passes xs ws ms now.0 now.1);
    }

pub returns : goal.returns
returns c = λ xs ws ms r s.
    (let now = c.loop-n.invariant.risen xs ws ms r s in (
      risen-top _ _ _ c.requires.laid.1 _ _ _ _ _ (omega (arith, c.loop-n-test.false)) now.0,
      now.1.count,
      risen-neat _ _ _ c.requires.laid.1 _ (omega (arith, c.loop-n-test.false)) _ _ _ _ now.1,
    ))
