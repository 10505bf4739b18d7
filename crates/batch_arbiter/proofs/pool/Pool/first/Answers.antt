use Rattle.std.proofs.Common.{◌≡◌, ◌<◌, arith, length, get_or, sym, ap}
use Rattle.std.{specs.Prelude.slice_get, proofs.lemmas.List.get_or_read, proofs.lemmas.List.length-map}
use Rattle.batch_arbiter.{specs.declared.ends.Ends.Ends, specs.Linked.at, specs.Linked.ends_at, specs.Linked.no_list, specs.Linked.nowhere, proofs.Calls.first-within, proofs.Calls.first-seen}
use Rattle.batch_arbiter.proofs.pool.Pool.first.Goals as goal

pub index-requires : goal.index-requires
index-requires c =
    let known : c.args.list < length c.self.inside.lists.items = rw (← c.self.view_is, length-map) at c.requires in
    let ends : c.index-ends.result.now ≡ ends_at c.self.inside.lists.items c.args.list = get_or_read _ _ _ known c.index-ends.ensures no_list in
    let some : 0 < (ends_at c.self.inside.lists.items c.args.list).len = omega (arith, c.if-ends-eq0.false, ap (λ (l : Ends). l.len) ends) in
    rw ends (omega (arith, first-within _ _ _ _ _ known some c.self.invariant, c.self.inside.entries.ok.0))

pub returns : goal.returns
returns c =
    let known : c.args.list < length c.self.inside.lists.items = rw (← c.self.view_is, length-map) at c.requires in
    let ends : c.index-ends.result.now ≡ ends_at c.self.inside.lists.items c.args.list = get_or_read _ _ _ known c.index-ends.ensures no_list in
    let some : 0 < (ends_at c.self.inside.lists.items c.args.list).len = omega (arith, c.if-ends-eq0.false, ap (λ (l : Ends). l.len) ends) in
    let read : c.index.result.now ≡ get_or c.self.inside.entries.items (ends_at c.self.inside.lists.items c.args.list).first c.index.result.now = rw ends at c.index.ensures in
    let taken : c.index.result.now ≡ at c.self.inside.entries.items (ends_at c.self.inside.lists.items c.args.list).first = get_or_read _ _ _ (first-within _ _ _ _ _ known some c.self.invariant) read nowhere in
    rw (taken, ← c.self.view_is) (sym (ap (λ cs. slice_get cs 0) (first-seen _ _ _ _ _ known some c.self.invariant)))
