use Rattle.std.proofs.Common.{rules, ℕ, List, length, ap}
use Rattle.batch_journal.proofs.{PendingLines.kept_group, PendingLines.kept_rest, PendingLines.none_in, PendingLines.rest_kept, ReaderLemmas.recalled_on, ReaderLemmas.recalls_kept, ReaderLemmas.whole_as}
use Rattle.batch_journal.proofs.groups.Groups.write.Goals as goal

pub invariant_of-self : goal.invariant_of-self
invariant_of-self g c =
    let now = c.args.self.now in
    record {
      none_ready = λ is. c.requires.all_given;
      kept = λ d f. absurd (cc f);
      rest = λ d f. absurd (cc f);
      whole = λ d. whole_as _ _ (c.write_group.ensures.given d) (now.whole (c.write_group.ensures.stays d));
      recalled = λ d. let d0 = c.write_group.ensures.stays d in
          recalled_on g.C.JournalRun.documents g.C.JournalRun.base _ _ _ _ _ _ (now.recalled d0) (c.write_group.ensures.time d)
          (λ left may. recalls_kept _ _ _ _ _ _ _ _ left (now.kept d0 c.requires.works) may.1);
      stays = λ d. now.stays (c.write_group.ensures.stays d);
    }

pub invariant_of-self-2 : goal.invariant_of-self-2
invariant_of-self-2 g c =
    let now = c.args.self.now in
    record {
      none_ready = λ f. absurd (cc f);
      kept = λ d f.
          let d0 = c.write_group.ensures.stays d in
          let written = c.in_ok-write_group.ensures.written d in
          kept_rest _ _ _ _ _ _ _ (kept_group _ _ _ _ _ _ _ _ _ _ _ _ _ (now.kept d0 c.requires.works) (none_in _ _ (now.rest d0 c.requires.works) c.requires.all_given)
          c.requires.lines c.next-sum.ensures.sum c.next-sum.ensures.line (search rules) written.0 written.1 (c.write_group.ensures.given d));
      rest = λ d f.
          let d0 = c.write_group.ensures.stays d in
          let written = c.in_ok-write_group.ensures.written d in
          ap (λ (l : List ℕ). length l)
          (rest_kept g.C.JournalRun.documents g.C.JournalRun.base (g.D.Disk.durable c.write_group.new.disk) (g.D.Disk.seen c.write_group.new.disk) (g.D.Disk.given c.write_group.new.disk) c.args.lines.now _
          (kept_group _ _ _ _ _ _ _ _ _ _ _ _ _ (now.kept d0 c.requires.works) (none_in _ _ (now.rest d0 c.requires.works) c.requires.all_given)
          c.requires.lines c.next-sum.ensures.sum c.next-sum.ensures.line (search rules) written.0 written.1 (c.write_group.ensures.given d)));
      whole = λ d. whole_as _ _ (c.write_group.ensures.given d) (now.whole (c.write_group.ensures.stays d));
      recalled = λ d. let d0 = c.write_group.ensures.stays d in
          recalled_on g.C.JournalRun.documents g.C.JournalRun.base _ _ _ _ _ _ (now.recalled d0) (c.write_group.ensures.time d)
          (λ left may. recalls_kept _ _ _ _ _ _ _ _ left (now.kept d0 c.requires.works) may.1);
      stays = λ d. now.stays (c.write_group.ensures.stays d);
    }

pub returns-clause-lines : goal.returns-clause-lines
returns-clause-lines g c = λ d.
    let now = c.args.self.now in
    let d0 = c.write_group.ensures.stays d in
    let written = c.in_ok-write_group.ensures.written d in
    rest_kept g.C.JournalRun.documents g.C.JournalRun.base (g.D.Disk.durable c.write_group.new.disk) (g.D.Disk.seen c.write_group.new.disk) (g.D.Disk.given c.write_group.new.disk) c.args.lines.now _
    (kept_group _ _ _ _ _ _ _ _ _ _ _ _ _ (now.kept d0 c.requires.works) (none_in _ _ (now.rest d0 c.requires.works) c.requires.all_given)
    c.requires.lines c.next-sum.ensures.sum c.next-sum.ensures.line (search rules) written.0 written.1 (c.write_group.ensures.given d))
