use Rattle.std.proofs.Common.{take, refl, ap, ◌∙◌}
use Rattle.batch_journal.proofs.DiskInMemory.{was_cut}
use Rattle.batch_journal.proofs.memory.MemoryDisk.cut.Goals as goal

pub returns-clause-time : goal.returns-clause-time
returns-clause-time c =
    let m = c.args.self.now in
    let p = c.in_ok-moment.ensures in
    let next = c.in_ok-next.ensures ∙ ap (λ l. take c.args.len l) c.deref-4.ensures.value in
    let durable = c.in_ok-durable.ensures ∙ c.deref-5.ensures.value ∙ next in
    λ is. was_cut m.durable.items m.seen.items m.given.items _ _ _ _ _ c.args.len (c.requires is).1 (c.requires is).0 next durable refl refl (p.2 ∙ c.deref-2.ensures.value) (p.3 ∙ c.deref-3.ensures.value) c.in_ok-push_moment.ensures.ok
