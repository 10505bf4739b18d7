use Rattle.std.proofs.Common.{◌++◌, refl, ap, ◌∙◌}
use Rattle.batch_journal.{specs.Past.before_append, proofs.CrashLemmas.as_of, proofs.DiskInMemory.wrote}
use Rattle.batch_journal.proofs.memory.MemoryDisk.append.Goals as goal

pub returns-clause-time : goal.returns-clause-time
returns-clause-time c =
    let m = c.args.self.now in
    let p = c.in_ok-moment.ensures in
    let next = c.in_ok-next.ensures ∙ ap (λ l. l ++ c.args.bytes.now) c.deref.ensures.value in
    λ is. wrote _ _ _ _ _ _ _ _ _ _ _ _ p.0 (p.1 ∙ c.deref-2.ensures.value) (p.2 ∙ c.deref-3.ensures.value ∙ next) (p.3 ∙ c.deref-4.ensures.value) c.in_ok-push_moment.ensures.ok
    (before_append m.durable.items m.seen.items m.given.items c.args.bytes.now) (λ left may. as_of left refl next refl may)
