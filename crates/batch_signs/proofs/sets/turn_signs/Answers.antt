use Rattle.std.proofs.Common.{◌≡◌, ◌≤◌, ◌<◌, ◌∙◌, ◌+◌, ◌*◌, ◌/◌, ◌%◌, ap, sym, subst, arith, length, nat_eq}
use Rattle.std.{specs.Prelude.◌^◌, specs.Prelude.not, specs.Prelude.slice_index, specs.Int.bit_at, specs.Int.Bits.bit_xor, proofs.lemmas.Nat.Bits.bit_at-lt, proofs.lemmas.Nat.Bits.bit_at_xor, proofs.lemmas.Nat.xor_lt}
use Rattle.batch_signs.{specs.Bits.with_told, specs.SignSets.bit_of, specs.SignSets.sign_shown, proofs.SignSets.changed-all, proofs.SignSets.changed-more, proofs.SignSets.flipped, proofs.SignSets.other-bit, proofs.SignSets.summed-written, proofs.SignSets.told-there, proofs.SignSets.turned, proofs.SignSets.with-one_there, proofs.SignSets.within-turned}
use Rattle.batch_signs.proofs.sets.turn_signs.Goals as goal
use Rattle.batch_signs.proofs.sets.turn_signs.Goals.{then-set-eq0, else-set-eq0}

pub loop-sign-smaller : goal.loop-sign-smaller
loop-sign-smaller c =
    let small = within-turned c.args.was c.args.signs c.in-Some.sign c.ranges.was.fits c.ranges.signs.fits (subst (λ z. bit_at z c.in-Some.sign ≡ 1) c.from-turned.ensures c.in-Some.ensures.2) in
    let above = c.in-Some.ensures.1 in
    omega (arith, small, above)

pub loop-sign-preserved : goal.loop-sign-preserved
loop-sign-preserved c =
    let words = c.loop-sign.words in
    let node = c.args.node in
    let sign = c.in-Some.sign in
    let place = node / 64 * 32 + sign in
    let mask = 1 * 2 ^ (node % 64) % 2 ^ 64 in
    let i = c.loop-sign.invariant in
    let small : sign < 32 = within-turned c.args.was c.args.signs sign c.ranges.was.fits c.ranges.signs.fits (subst (λ z. bit_at z sign ≡ 1) c.from-turned.ensures c.in-Some.ensures.2) in
    let room : node / 64 * 32 + 32 ≤ length words = omega (arith, i.summed.whole, i.changed.long, c.requires.room) in
    let left : sign_shown words node sign ≡ bit_at c.args.was sign = i.changed.left sign small c.in-Some.ensures.1 in
    let differ : (bit_at c.args.was sign + bit_at c.args.signs sign) % 2 ≡ 1 =
    sym (bit_at_xor c.args.was c.args.signs sign) ∙ subst (λ z. bit_at z sign ≡ 1) c.from-turned.ensures c.in-Some.ensures.2 in
    let is : bit_of (nat_eq (sign_shown words node sign) 0) ≡ bit_at c.args.signs sign =
    ap (λ z. bit_of (nat_eq z 0)) left ∙ other-bit (bit_at c.args.was sign) (bit_at c.args.signs sign) (bit_at-lt c.args.was sign) (bit_at-lt c.args.signs sign) differ in
    let set = bit_xor (slice_index words place) mask in
    let fits = xor_lt 64 (slice_index words place) mask (i.summed.fit place) (omega arith) in
    let written = summed-written words c.loop-sign.summary c.loop-sign.shown (node / 64) sign set room small i.summed in
    record {
      within = omega (arith, small);
      summed = elim c.if-set-eq0.branch [
        | then-set-eq0 w ↦ rw (w.summary-is, w.shown-is)
            (written _ _ (λ k. w.without_bit-sets.ensures k ∙ ap (λ z. with_told (not (nat_eq z 0)) (node / 64) (bit_at (slice_index c.loop-sign.summary sign)) k) (sym w.if-set-eq0.true))
            w.with_bit_as-shown.ensures fits (omega arith))
        | else-set-eq0 w ↦ rw (w.summary-is, w.shown-is)
            (written _ _ (λ k. w.with_bit.ensures k ∙ ap (λ t. with_told t (node / 64) (bit_at (slice_index c.loop-sign.summary sign)) k) (sym (told-there set w.if-set-eq0.false)))
            (λ k. w.with_bit-shown.ensures k ∙ ap (λ t. with_told t sign (bit_at c.loop-sign.shown) k) (sym (told-there _ (with-one_there _ _ _ w.with_bit.ensures)))) fits (omega arith))
      ];
      changed = changed-more _ _ _ _ _ _ c.loop-sign.from sign _ i.changed c.in-Some.ensures.1
          (λ k l q. subst (λ z. bit_at z k ≡ 0) c.from-turned.ensures (c.in-Some.ensures.3 k l q)) small is
          (turned words node sign (nat_eq (sign_shown words node sign) 0) set room small (flipped (slice_index words place) (node % 64) (omega arith)));
    }

pub returns-clause-changed : goal.returns-clause-changed
returns-clause-changed c =
    changed-all _ _ _ c.args.was c.args.signs c.loop-sign.from c.loop-sign.invariant.changed (λ k l. subst (λ z. bit_at z k ≡ 0) c.from-turned.ensures (c.in_default.ensures k l))

pub bounds-words-word : goal.bounds-words-word
bounds-words-word c =
    let i = c.loop-sign.invariant in
    omega (arith, within-turned c.args.was c.args.signs c.in-Some.sign c.ranges.was.fits c.ranges.signs.fits (subst (λ z. bit_at z c.in-Some.sign ≡ 1) c.from-turned.ensures c.in-Some.ensures.2), i.summed.whole, i.changed.long, c.requires.room)

pub bounds-words-word-in-Some : goal.bounds-words-word-in-Some
bounds-words-word-in-Some c =
    let i = c.loop-sign.invariant in
    omega (arith, within-turned c.args.was c.args.signs c.in-Some.sign c.ranges.was.fits c.ranges.signs.fits (subst (λ z. bit_at z c.in-Some.sign ≡ 1) c.from-turned.ensures c.in-Some.ensures.2), i.summed.whole, i.changed.long, c.requires.room)

pub bounds-summary-sign : goal.bounds-summary-sign
bounds-summary-sign c = within-turned c.args.was c.args.signs c.in-Some.sign c.ranges.was.fits c.ranges.signs.fits (subst (λ z. bit_at z c.in-Some.sign ≡ 1) c.from-turned.ensures c.in-Some.ensures.2)

pub bounds-summary-sign-then-set-eq0 : goal.bounds-summary-sign-then-set-eq0
bounds-summary-sign-then-set-eq0 c = within-turned c.args.was c.args.signs c.in-Some.sign c.ranges.was.fits c.ranges.signs.fits (subst (λ z. bit_at z c.in-Some.sign ≡ 1) c.from-turned.ensures c.in-Some.ensures.2)

pub bounds-summary-sign-else-set-eq0 : goal.bounds-summary-sign-else-set-eq0
bounds-summary-sign-else-set-eq0 c = within-turned c.args.was c.args.signs c.in-Some.sign c.ranges.was.fits c.ranges.signs.fits (subst (λ z. bit_at z c.in-Some.sign ≡ 1) c.from-turned.ensures c.in-Some.ensures.2)

pub bounds-summary-sign-else-set-eq0-2 : goal.bounds-summary-sign-else-set-eq0-2
bounds-summary-sign-else-set-eq0-2 c = within-turned c.args.was c.args.signs c.in-Some.sign c.ranges.was.fits c.ranges.signs.fits (subst (λ z. bit_at z c.in-Some.sign ≡ 1) c.from-turned.ensures c.in-Some.ensures.2)
