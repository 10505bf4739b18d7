use Rattle.std.proofs.Common.{sym, ◌∙◌, ap}
use Rattle.batch_journal.{specs.Journals.recovered, proofs.RecoveryLemmas.cut_moments, proofs.RecoveryLemmas.lines_to}
use Rattle.batch_journal.proofs.recovery.cut_behind.Goals as goal

pub returns-in_err-cut-clause-any_moment : goal.returns-in_err-cut-clause-any_moment
returns-in_err-cut-clause-any_moment g c = λ d.
    let d0 = c.cut.ensures.stays d in
    let D = g.D.Disk in
    let old = c.args.disk.now in
    cut_moments D.moment D.left_since old c.cut.new.self c.args.documents.now _ _ _ _ _ _ (c.requires.synced d0).0 (c.requires.synced d0).1 c.requires.stands
    (g.met.D.Disk.only_now old) d0 (c.cut.ensures.time d)

pub returns-clause-any_moment : goal.returns-clause-any_moment
returns-clause-any_moment g c = λ d.
    let d0 = c.cut.ensures.stays d in
    let D = g.D.Disk in
    let old = c.args.disk.now in
    cut_moments D.moment D.left_since old c.cut.new.self c.args.documents.now _ _ _ _ _ _ (c.requires.synced d0).0 (c.requires.synced d0).1 c.requires.stands
    (g.met.D.Disk.only_now old) d0 (c.cut.ensures.time d)

pub returns-clause-lines : goal.returns-clause-lines
returns-clause-lines g c = λ d.
    let d0 = c.cut.ensures.stays d in
    let seen_is = (c.requires.synced d0).1 in
    ap (recovered c.args.documents.now) c.truncate.ensures.items ∙ sym (lines_to _ _ _ _ c.requires.stands) ∙ ap (recovered c.args.documents.now) (sym seen_is)
