use Rattle.std.proofs.Common.{◌≡◌, ◌<◌, arith, length, add-one, refl, ap, ◌-◌}
use Rattle.std.proofs.lemmas.List.{get_or_read, length-map}
use Rattle.batch_arbiter.{specs.Linked.at, specs.Linked.ends_at, specs.Linked.no_list, specs.Linked.nowhere, proofs.Calls.joins, proofs.Calls.len-fits, proofs.Calls.unused-within}
use Rattle.batch_arbiter.proofs.pool.Pool.push.Goals as goal

pub overflow_add-ends : goal.overflow_add-ends
overflow_add-ends c =
    let known : c.args.list < length c.self.inside.lists.items = rw (← c.self.view_is, length-map) at c.requires.known in
    let some : 0 < c.self.inside.room = rw (← c.self.view_is) at c.requires.room in
    let ends : c.index-ends.result.now ≡ ends_at c.self.inside.lists.items c.args.list = get_or_read _ _ _ known c.index-ends.ensures no_list in
    rw ends (omega (arith, len-fits _ _ _ _ _ known c.self.invariant, c.self.invariant.by_parts.numbered))

pub invariant_of-self : goal.invariant_of-self
invariant_of-self c =
    let known : c.args.list < length c.self.inside.lists.items = rw (← c.self.view_is, length-map) at c.requires.known in
    let some : 0 < c.self.inside.room = rw (← c.self.view_is) at c.requires.room in
    let ends : c.index-ends.result.now ≡ ends_at c.self.inside.lists.items c.args.list = get_or_read _ _ _ known c.index-ends.ensures no_list in
    let next : c.index.result.now ≡ at c.self.inside.entries.items c.self.inside.free = get_or_read _ _ _ (unused-within _ _ _ _ some c.self.invariant) c.index.ensures nowhere in
    rw (ends, next, add-one) (joins _ _ _ _ _ _ known some c.self.invariant refl).0

pub returns : goal.returns
returns c =
    let known : c.args.list < length c.self.inside.lists.items = rw (← c.self.view_is, length-map) at c.requires.known in
    let some : 0 < c.self.inside.room = rw (← c.self.view_is) at c.requires.room in
    let ends : c.index-ends.result.now ≡ ends_at c.self.inside.lists.items c.args.list = get_or_read _ _ _ known c.index-ends.ensures no_list in
    rw (ends, add-one, ← c.self.view_is) (ap (λ ls. record { lists = ls; room = c.self.inside.room - 1 }) (joins _ _ _ _ _ _ known some c.self.invariant refl).1)
