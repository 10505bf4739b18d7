use Rattle.std.proofs.Common.{refl}
use Rattle.batch_keep.proofs.StartOverJournal.{recalled_here}
use Rattle.batch_keep.proofs.holding.serve_holding.Goals as goal

pub serve_started-requires-clause-recalled : goal.serve_started-requires-clause-recalled
serve_started-requires-clause-recalled g c = λ d.
    recalled_here c.args.journal.documents _ _ _ _ (g.D.Disk.moment c.args.journal.disk) (g.D.Disk.left_since c.args.journal.disk) (c.requires d)
    (λ left had. g.met.D.Disk.only_now c.args.journal.disk left d had)

pub returns-clause-never_lost : goal.returns-clause-never_lost
returns-clause-never_lost g c = λ d all known. c.serve_started.ensures.never_lost d refl all (g.D.Disk.seen c.args.journal.disk) known refl
