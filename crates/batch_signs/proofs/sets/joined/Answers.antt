use Rattle.std.proofs.Common.{◌≡◌, subst, arith, refl}
use Rattle.std.specs.Int.{bit_at}
use Rattle.batch_signs.proofs.SignSets.{joined-more, within-signs}
use Rattle.batch_signs.proofs.sets.joined.Goals as goal

pub bounds-words-first : goal.bounds-words-first
bounds-words-first c =
    let small = within-signs c.args.wanted c.in-Some.sign c.ranges.wanted.fits (subst (λ z. bit_at z c.in-Some.sign ≡ 1) c.from.ensures c.in-Some.ensures.2) in
    omega (arith, small, c.requires)

pub loop-sign-smaller : goal.loop-sign-smaller
loop-sign-smaller c =
    let small = within-signs c.args.wanted c.in-Some.sign c.ranges.wanted.fits (subst (λ z. bit_at z c.in-Some.sign ≡ 1) c.from.ensures c.in-Some.ensures.2) in
    let above = c.in-Some.ensures.1 in
    omega (arith, small, above)

pub loop-sign-preserved : goal.loop-sign-preserved
loop-sign-preserved c =
    let small = within-signs c.args.wanted c.in-Some.sign c.ranges.wanted.fits (subst (λ z. bit_at z c.in-Some.sign ≡ 1) c.from.ensures c.in-Some.ensures.2) in (
      omega (arith, small),
      joined-more c.args.words.now c.args.first c.args.wanted c.loop-sign.from c.loop-sign.set c.in-Some.sign _ c.loop-sign.invariant.1
          (λ k l q. subst (λ z. bit_at z k ≡ 0) c.from.ensures (c.in-Some.ensures.3 k l q)) (subst (λ z. bit_at z c.in-Some.sign ≡ 1) c.from.ensures c.in-Some.ensures.2) small refl,
    )
