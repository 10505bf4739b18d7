use Rattle.batch_journal.proofs.LineLemmas.{are_whole_lines}
use Rattle.batch_journal.proofs.groups.Groups.into_disk.Goals as goal

pub returns-clause-lines : goal.returns-clause-lines
returns-clause-lines g c = λ d. are_whole_lines (g.D.Disk.given c.args.self.disk)
