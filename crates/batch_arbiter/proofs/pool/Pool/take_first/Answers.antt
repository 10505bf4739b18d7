use Rattle.std.proofs.Common.{◌≡◌, ◌<◌, ◌+◌, arith, length, get_or, refl, ap}
use Rattle.std.proofs.lemmas.List.{get_or_read, length-map}
use Rattle.batch_arbiter.{specs.Linked.at, specs.Linked.ends_at, specs.Linked.no_list, specs.Linked.nowhere, proofs.Calls.leaves, proofs.Calls.first-within, proofs.Calls.first-seen, proofs.Calls.length-seen}
use Rattle.batch_arbiter.proofs.pool.Pool.take_first.Goals as goal

pub index-taken-requires : goal.index-taken-requires
index-taken-requires c =
    let known : c.args.list < length c.self.inside.lists.items = rw (← c.self.view_is, length-map) at c.requires.known in
    let some : 0 < (ends_at c.self.inside.lists.items c.args.list).len = rw (← c.self.view_is, length-seen _ _ _ known) at c.requires.some in
    let ends : c.index-ends.result.now ≡ ends_at c.self.inside.lists.items c.args.list = get_or_read _ _ _ known c.index-ends.ensures no_list in
    rw ends (omega (arith, first-within _ _ _ _ _ known some c.self.invariant, c.self.inside.entries.ok.0))

pub index_mut-requires : goal.index_mut-requires
index_mut-requires c =
    let known : c.args.list < length c.self.inside.lists.items = rw (← c.self.view_is, length-map) at c.requires.known in
    let some : 0 < (ends_at c.self.inside.lists.items c.args.list).len = rw (← c.self.view_is, length-seen _ _ _ known) at c.requires.some in
    let ends : c.index-ends.result.now ≡ ends_at c.self.inside.lists.items c.args.list = get_or_read _ _ _ known c.index-ends.ensures no_list in
    rw ends (omega (arith, first-within _ _ _ _ _ known some c.self.invariant, c.self.inside.entries.ok.0))

pub invariant_of-self : goal.invariant_of-self
invariant_of-self c =
    let known : c.args.list < length c.self.inside.lists.items = rw (← c.self.view_is, length-map) at c.requires.known in
    let some : 0 < (ends_at c.self.inside.lists.items c.args.list).len = rw (← c.self.view_is, length-seen _ _ _ known) at c.requires.some in
    let ends : c.index-ends.result.now ≡ ends_at c.self.inside.lists.items c.args.list = get_or_read _ _ _ known c.index-ends.ensures no_list in
    let read : c.index-taken.result.now ≡ get_or c.self.inside.entries.items (ends_at c.self.inside.lists.items c.args.list).first c.index-taken.result.now = rw ends at c.index-taken.ensures in
    let taken : c.index-taken.result.now ≡ at c.self.inside.entries.items (ends_at c.self.inside.lists.items c.args.list).first = get_or_read _ _ _ (first-within _ _ _ _ _ known some c.self.invariant) read nowhere in
    rw (taken, ends) (leaves _ _ _ _ _ _ known some c.self.invariant refl).0

pub returns-clause-value : goal.returns-clause-value
returns-clause-value c =
    let known : c.args.list < length c.self.inside.lists.items = rw (← c.self.view_is, length-map) at c.requires.known in
    let some : 0 < (ends_at c.self.inside.lists.items c.args.list).len = rw (← c.self.view_is, length-seen _ _ _ known) at c.requires.some in
    let ends : c.index-ends.result.now ≡ ends_at c.self.inside.lists.items c.args.list = get_or_read _ _ _ known c.index-ends.ensures no_list in
    let read : c.index-taken.result.now ≡ get_or c.self.inside.entries.items (ends_at c.self.inside.lists.items c.args.list).first c.index-taken.result.now = rw ends at c.index-taken.ensures in
    let taken : c.index-taken.result.now ≡ at c.self.inside.entries.items (ends_at c.self.inside.lists.items c.args.list).first = get_or_read _ _ _ (first-within _ _ _ _ _ known some c.self.invariant) read nowhere in
    rw (taken, ← c.self.view_is) (first-seen _ _ _ _ _ known some c.self.invariant)

pub returns-clause-after : goal.returns-clause-after
returns-clause-after c =
    let known : c.args.list < length c.self.inside.lists.items = rw (← c.self.view_is, length-map) at c.requires.known in
    let some : 0 < (ends_at c.self.inside.lists.items c.args.list).len = rw (← c.self.view_is, length-seen _ _ _ known) at c.requires.some in
    let ends : c.index-ends.result.now ≡ ends_at c.self.inside.lists.items c.args.list = get_or_read _ _ _ known c.index-ends.ensures no_list in
    let read : c.index-taken.result.now ≡ get_or c.self.inside.entries.items (ends_at c.self.inside.lists.items c.args.list).first c.index-taken.result.now = rw ends at c.index-taken.ensures in
    let taken : c.index-taken.result.now ≡ at c.self.inside.entries.items (ends_at c.self.inside.lists.items c.args.list).first = get_or_read _ _ _ (first-within _ _ _ _ _ known some c.self.invariant) read nowhere in
    rw (taken, ends, ← c.self.view_is) (ap (λ ls. record { lists = ls; room = c.self.inside.room + 1 }) (leaves _ _ _ _ _ _ known some c.self.invariant refl).1)
