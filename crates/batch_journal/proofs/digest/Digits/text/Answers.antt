use Rattle.batch_journal.proofs.DigestLemmas.{line_of}
use Rattle.batch_journal.proofs.digest.Digits.text.Goals as goal

pub returns-clause-line : goal.returns-clause-line
returns-clause-line c = line_of c.args.self.text c.args.self.plain
