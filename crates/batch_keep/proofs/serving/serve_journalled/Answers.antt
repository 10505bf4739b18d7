use Rattle.std.proofs.Common.{refl}
use Rattle.batch_keep.proofs.StartOverJournal.{recalled_here}
use Rattle.batch_keep.proofs.serving.serve_journalled.Goals as goal

pub returns-clause-again : goal.returns-clause-again
returns-clause-again g c = λ d all known. c.serve_at.ensures.again d refl all (g.D.Disk.seen c.args.journal.disk) known refl

pub serve_at-requires-clause-recalled : goal.serve_at-requires-clause-recalled
serve_at-requires-clause-recalled g c = λ d.
    recalled_here c.args.journal.documents _ _ _ _ (g.D.Disk.moment c.args.journal.disk) (g.D.Disk.left_since c.args.journal.disk) (c.requires d)
    (λ left had. g.met.D.Disk.only_now c.args.journal.disk left d had)
