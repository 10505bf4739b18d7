use Rattle.std.proofs.Common.{◌≡◌, ◌<◌, ◌+◌, List, length, arith, ap, ap₂, ◌∙◌}
use Rattle.std.proofs.lemmas.List.{get_or_read, length-map}
use Rattle.batch_arbiter.{specs.declared.entry.Entry.Entry, specs.Linked.at, specs.Linked.ends_at, specs.Linked.no_list, specs.Linked.nowhere, specs.Linked.IsBefore, proofs.ClaimRemoval.here-within, proofs.ClaimRemoval.later-seen, proofs.ClaimRemoval.length-unlinked, proofs.ClaimRemoval.next-within, proofs.ClaimRemoval.removed-units, proofs.ClaimRemoval.unlinks, proofs.ClaimRemoval.unlinks-act}
use Rattle.batch_arbiter.proofs.pool.Pool.remove_later.Goals as goal

pub before_act-requires-clause-later : goal.before_act-requires-clause-later
before_act-requires-clause-later c =
    let known : c.args.list < length c.self.inside.lists.items = rw (← c.self.view_is, length-map) at c.requires.known in
    let ends : c.index-ends.result.now ≡ ends_at c.self.inside.lists.items c.args.list = get_or_read _ _ _ known c.index-ends.ensures no_list in
    rw (c.deref.ensures.value, ends) (later-seen _ _ _ _ _ known (rw (← c.self.view_is) at c.requires.later))

pub unlink-taken-requires-clause-known : goal.unlink-taken-requires-clause-known
unlink-taken-requires-clause-known c =
    let known : c.args.list < length c.self.inside.lists.items = rw (← c.self.view_is, length-map) at c.requires.known in
    let ends : c.index-ends.result.now ≡ ends_at c.self.inside.lists.items c.args.list = get_or_read _ _ _ known c.index-ends.ensures no_list in
    let before : IsBefore c.self.inside.entries.items (ends_at c.self.inside.lists.items c.args.list) c.args.batch c.args.node c.in_ok-before.before = rw (c.deref.ensures.value, ends) at c.in_ok-before.ensures.some in
    here-within _ _ _ _ _ _ _ known c.self.invariant before.is before.within

pub unlink-taken-requires-clause-next : goal.unlink-taken-requires-clause-next
unlink-taken-requires-clause-next c =
    let known : c.args.list < length c.self.inside.lists.items = rw (← c.self.view_is, length-map) at c.requires.known in
    let ends : c.index-ends.result.now ≡ ends_at c.self.inside.lists.items c.args.list = get_or_read _ _ _ known c.index-ends.ensures no_list in
    let before : IsBefore c.self.inside.entries.items (ends_at c.self.inside.lists.items c.args.list) c.args.batch c.args.node c.in_ok-before.before = rw (c.deref.ensures.value, ends) at c.in_ok-before.ensures.some in
    next-within _ _ _ _ _ _ _ known c.self.invariant before.is before.within

pub index-requires : goal.index-requires
index-requires c =
    let known : c.args.list < length c.self.inside.lists.items = rw (← c.self.view_is, length-map) at c.requires.known in
    let ends : c.index-ends.result.now ≡ ends_at c.self.inside.lists.items c.args.list = get_or_read _ _ _ known c.index-ends.ensures no_list in
    let before : IsBefore c.self.inside.entries.items (ends_at c.self.inside.lists.items c.args.list) c.args.batch c.args.node c.in_ok-before.before = rw (c.deref.ensures.value, ends) at c.in_ok-before.ensures.some in
    omega (
      arith,
      next-within _ _ _ _ _ _ _ known c.self.invariant before.is before.within,
      c.unlink-taken.ensures.value,
      c.unlink-taken.new.entries.ok.0,
      ap length c.unlink-taken.ensures.after,
      length-unlinked c.self.inside.entries.items c.in_ok-before.before c.self.inside.free,
    )

pub invariant_of-self : goal.invariant_of-self
invariant_of-self c =
    let known : c.args.list < length c.self.inside.lists.items = rw (← c.self.view_is, length-map) at c.requires.known in
    let ends : c.index-ends.result.now ≡ ends_at c.self.inside.lists.items c.args.list = get_or_read _ _ _ known c.index-ends.ensures no_list in
    let before : IsBefore c.self.inside.entries.items (ends_at c.self.inside.lists.items c.args.list) c.args.batch c.args.node c.in_ok-before.before = rw (c.deref.ensures.value, ends) at c.in_ok-before.ensures.some in
    rw (c.unlink-taken.ensures.after, c.unlink-taken.ensures.value, ends) (unlinks _ _ _ _ _ _ _ known c.self.invariant before.is before.within).0

pub returns-clause-some : goal.returns-clause-some
returns-clause-some c =
    let known : c.args.list < length c.self.inside.lists.items = rw (← c.self.view_is, length-map) at c.requires.known in
    let ends : c.index-ends.result.now ≡ ends_at c.self.inside.lists.items c.args.list = get_or_read _ _ _ known c.index-ends.ensures no_list in
    let before : IsBefore c.self.inside.entries.items (ends_at c.self.inside.lists.items c.args.list) c.args.batch c.args.node c.in_ok-before.before = rw (c.deref.ensures.value, ends) at c.in_ok-before.ensures.some in
    let inside : c.unlink-taken.result < length c.unlink-taken.new.entries.items =
    omega (
      arith,
      next-within _ _ _ _ _ _ _ known c.self.invariant before.is before.within,
      c.unlink-taken.ensures.value,
      ap length c.unlink-taken.ensures.after,
      length-unlinked c.self.inside.entries.items c.in_ok-before.before c.self.inside.free,
    ) in
    let read : c.index.result.now ≡ at c.unlink-taken.new.entries.items c.unlink-taken.result = get_or_read _ _ _ inside c.index.ensures nowhere in
    let units : c.index.result.now.units ≡ (at c.self.inside.entries.items (at c.self.inside.entries.items c.in_ok-before.before).next).units =
    ap (λ (e : Entry). e.units) read
    ∙ ap₂ (λ (xs : List Entry) x. (at xs x).units) c.unlink-taken.ensures.after c.unlink-taken.ensures.value
    ∙ (unlinks _ _ _ _ _ _ _ known c.self.invariant before.is before.within).3 in
    rw (units, c.unlink-taken.ensures.after, ends, ← c.self.view_is) (record {
      sum = removed-units _ _ _ _ _ _ _ _ known c.self.invariant before;
      after = ap (λ ls. record { lists = ls; room = c.self.inside.room + 1 }) (unlinks-act _ _ _ _ _ _ _ _ known c.self.invariant before);
    })
