use Rattle.std.proofs.Common.{ℕ, List, ◌-◌, length, refl, ◌∙◌, ap}
use Rattle.std.proofs.lemmas.List.{length-drop}
use Rattle.batch_journal.proofs.{PendingLines.kept_on, PendingLines.kept_rest, PendingLines.recalls_on, PendingLines.rest_kept, LineLemmas.whole_both, ReaderLemmas.recalled_on, ReaderLemmas.whole_as}
use Rattle.batch_journal.proofs.groups.Groups.mark_given.Goals as goal

pub invariant_of-self : goal.invariant_of-self
invariant_of-self g c =
    let now = c.args.self.now in
    record {
      none_ready = λ is. refl;
      kept = λ d f. absurd (cc f);
      rest = λ d f. absurd (cc f);
      whole = λ d. whole_as _ _ (c.in_err-mark_given.ensures.not_given d) (now.whole (c.mark_given.ensures.stays d));
      recalled = λ d. let d0 = c.mark_given.ensures.stays d in
          recalled_on g.C.JournalRun.documents g.C.JournalRun.base _ _ _ _ _ _ (now.recalled d0) (c.mark_given.ensures.time d)
          (λ left may. recalls_on _ _ _ _ _ _ _ _ left (now.kept d0 c.requires.works) (c.requires.next d0) may);
      stays = λ d. now.stays (c.mark_given.ensures.stays d);
    }

pub invariant_of-self-2 : goal.invariant_of-self-2
invariant_of-self-2 g c =
    let now = c.args.self.now in
    record {
      none_ready = λ f. absurd (cc f);
      kept = λ d f. let d0 = c.mark_given.ensures.stays d in
          let others = c.in_ok-mark_given.ensures.others d in
          kept_rest _ _ _ _ _ _ _ (kept_on _ _ _ _ _ _ _ _ _ _ _ (now.kept d0 c.requires.works) (c.requires.next d0) (c.in_ok-mark_given.ensures.given d) others.0 others.1);
      rest = λ d f. let d0 = c.mark_given.ensures.stays d in
          let others = c.in_ok-mark_given.ensures.others d in
          ap (λ (l : List ℕ). length l)
          (rest_kept g.C.JournalRun.documents g.C.JournalRun.base (g.D.Disk.durable c.mark_given.new.self) (g.D.Disk.seen c.mark_given.new.self) (g.D.Disk.given c.mark_given.new.self) _ _
          (kept_on _ _ _ _ _ _ _ _ _ _ _ (now.kept d0 c.requires.works) (c.requires.next d0) (c.in_ok-mark_given.ensures.given d) others.0 others.1))
          ∙ length-drop _ _ ∙ ap (λ n. n - length c.args.lines.now) (now.rest d0 c.requires.works);
      whole = λ d. let d0 = c.mark_given.ensures.stays d in
          whole_as _ _ (c.in_ok-mark_given.ensures.given d) (whole_both _ _ c.args.lines.now (now.whole d0) c.requires.whole);
      recalled = λ d. let d0 = c.mark_given.ensures.stays d in
          recalled_on g.C.JournalRun.documents g.C.JournalRun.base _ _ _ _ _ _ (now.recalled d0) (c.mark_given.ensures.time d)
          (λ left may. recalls_on _ _ _ _ _ _ _ _ left (now.kept d0 c.requires.works) (c.requires.next d0) may);
      stays = λ d. now.stays (c.mark_given.ensures.stays d);
    }

pub returns-clause-rest : goal.returns-clause-rest
returns-clause-rest g c = λ d.
    let now = c.args.self.now in
    let d0 = c.mark_given.ensures.stays d in
    let others = c.in_ok-mark_given.ensures.others d in
    rest_kept g.C.JournalRun.documents g.C.JournalRun.base (g.D.Disk.durable c.mark_given.new.self) (g.D.Disk.seen c.mark_given.new.self) (g.D.Disk.given c.mark_given.new.self) _ _
    (kept_on _ _ _ _ _ _ _ _ _ _ _ (now.kept d0 c.requires.works) (c.requires.next d0) (c.in_ok-mark_given.ensures.given d) others.0 others.1)
