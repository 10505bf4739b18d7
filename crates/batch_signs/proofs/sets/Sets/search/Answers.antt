use Rattle.std.proofs.Common.{◌*◌, ◌+◌, ◌/◌, sym, subst, ℕ, List, Some, None}
use Rattle.batch_signs.{specs.Bits.IsLowestFrom, specs.SignSets.AreJoined, specs.SignSets.IsFirstShown, proofs.SignSets.first-here, proofs.SignSets.first-later, proofs.SignSets.none-after_last, proofs.SignSets.none-anywhere, proofs.SignSets.not-empty}
use Rattle.batch_signs.proofs.sets.Sets.search.Goals as goal

pub returns-in-Some : goal.returns-in-Some
returns-in-Some c =
    let from = c.args.from in
    subst (λ (ws : List ℕ). IsFirstShown ws c.args.wanted from (Some (from / 64 * 64 + c.in-Some.bit))) c.self.view_is
    (first-here c.self.inside.words.items c.args.wanted from c.joined-set.result (subst (λ (ws : List ℕ). AreJoined ws (c.args.from / 64 * 32) c.args.wanted 32 c.joined-set.result) c.deref.ensures.value c.joined-set.ensures) c.in-Some.bit c.in-Some.ensures)

pub returns-then-word-eq63 : goal.returns-then-word-eq63
returns-then-word-eq63 c =
    subst (λ (ws : List ℕ). IsFirstShown ws c.args.wanted c.args.from None) c.self.view_is
    (none-after_last c.self.inside.words.items c.args.wanted c.args.from c.joined-set.result (subst (λ (ws : List ℕ). AreJoined ws (c.args.from / 64 * 32) c.args.wanted 32 c.joined-set.result) c.deref.ensures.value c.joined-set.ensures) c.self.invariant.few c.if-word-eq63.true c.in_default.ensures)

pub returns-in_err-later : goal.returns-in_err-later
returns-in_err-later c =
    let s = c.self.inside in
    let none : IsFirstShown c.args.self.now c.args.wanted c.args.from None = subst (λ (ws : List ℕ). IsFirstShown ws c.args.wanted c.args.from None) c.self.view_is
    (none-anywhere s.words.items c.args.wanted c.args.from c.joined-set.result (subst (λ (ws : List ℕ). AreJoined ws (c.args.from / 64 * 32) c.args.wanted 32 c.joined-set.result) c.deref.ensures.value c.joined-set.ensures) s.summary s.all c.self.invariant c.joined.result c.joined.ensures c.in_default.ensures
    (subst (IsLowestFrom c.joined.result (c.args.from / 64 + 1)) c.in_err-later.was c.lowest_from-2.ensures)) in
    subst (IsFirstShown c.args.self.now c.args.wanted c.args.from) (sym c.from_residual.ensures) none

pub returns-in_err-bit : goal.returns-in_err-bit
returns-in_err-bit c =
    let s = c.self.inside in
    absurd (not-empty s.words.items c.args.wanted c.args.from c.joined-set.result (subst (λ (ws : List ℕ). AreJoined ws (c.args.from / 64 * 32) c.args.wanted 32 c.joined-set.result) c.deref.ensures.value c.joined-set.ensures) s.summary s.all c.self.invariant c.joined.result c.joined.ensures c.in_ok-later.later
    (subst (IsLowestFrom c.joined.result (c.args.from / 64 + 1)) c.in_ok-later.was c.lowest_from-2.ensures)
    c.joined-set_later.result (subst (λ (ws : List ℕ). AreJoined ws (c.in_ok-later.later * 32) c.args.wanted 32 c.joined-set_later.result) c.deref-2.ensures.value c.joined-set_later.ensures) (subst (IsLowestFrom c.joined-set_later.result 0) c.in_err-bit.was c.lowest_from-3.ensures))

pub returns : goal.returns
returns c =
    let s = c.self.inside in
    subst (λ (ws : List ℕ). IsFirstShown ws c.args.wanted c.args.from (Some (c.in_ok-later.later * 64 + c.in_ok-bit.bit))) c.self.view_is
    (first-later s.words.items c.args.wanted c.args.from c.joined-set.result (subst (λ (ws : List ℕ). AreJoined ws (c.args.from / 64 * 32) c.args.wanted 32 c.joined-set.result) c.deref.ensures.value c.joined-set.ensures) s.summary s.all c.self.invariant c.joined.result c.joined.ensures c.in_ok-later.later
    (subst (IsLowestFrom c.joined.result (c.args.from / 64 + 1)) c.in_ok-later.was c.lowest_from-2.ensures)
    c.joined-set_later.result (subst (λ (ws : List ℕ). AreJoined ws (c.in_ok-later.later * 32) c.args.wanted 32 c.joined-set_later.result) c.deref-2.ensures.value c.joined-set_later.ensures) c.in_default.ensures c.in_ok-bit.bit (subst (IsLowestFrom c.joined-set_later.result 0) c.in_ok-bit.was c.lowest_from-3.ensures))
