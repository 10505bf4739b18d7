use Rattle.std.proofs.Common.{◌≡◌, List, ap, ◌∙◌, map, sym, subst}
use Rattle.batch_arbiter.specs.{declared.entry.Entry.Entry, Linked.Lists, Linked.AreLinkedLists, Linked.entry_claims}
use Rattle.batch_arbiter.proofs.pool.Pool.reserve.Goals as goal

pub returns-clause-rest : goal.returns-clause-rest
returns-clause-rest c =
    let linked : AreLinkedLists c.reserve.new.self.items c.self.inside.lists.items c.self.inside.free c.self.inside.room =
    subst (λ (es : List Entry). AreLinkedLists es c.self.inside.lists.items c.self.inside.free c.self.inside.room) (sym c.reserve.ensures.items) c.self.invariant in
    let same : map (entry_claims c.add_free-self-inside.new.entries.items) c.self.inside.lists.items ≡ map (entry_claims c.self.inside.entries.items) c.self.inside.lists.items =
    (c.add_free-self-inside.ensures c.self.inside.lists.items c.self.inside.room linked).1 ∙ ap (λ es. map (entry_claims es) c.self.inside.lists.items) c.reserve.ensures.items in
    ap (λ ls. record { lists = ls; room = c.args.n }) (same ∙ ap (λ (p : Lists). p.lists) c.self.view_is)
