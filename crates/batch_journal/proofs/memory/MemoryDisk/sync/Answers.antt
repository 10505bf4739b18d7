use Rattle.std.proofs.Common.{◌∙◌}
use Rattle.batch_journal.proofs.DiskInMemory.{wrote, after_sync, begins_from}
use Rattle.batch_journal.proofs.memory.MemoryDisk.sync.Goals as goal

pub returns-clause-time : goal.returns-clause-time
returns-clause-time c =
    let m = c.args.self.now in
    let p = c.in_ok-moment.ensures in
    let next = c.in_ok-next.ensures ∙ c.deref.ensures.value in
    λ is. wrote _ _ _ _ _ _ _ _ _ _ _ _ p.0 (p.1 ∙ c.deref-2.ensures.value) (p.2 ∙ c.deref-3.ensures.value) (p.3 ∙ c.deref-4.ensures.value) c.in_ok-push_moment.ensures.ok
    (λ left may. may) (λ left may. after_sync _ _ _ _ left (begins_from _ _ m.front) next may)
