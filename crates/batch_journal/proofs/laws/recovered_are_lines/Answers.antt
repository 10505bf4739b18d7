use Rattle.batch_journal.proofs.{LineLemmas.are_whole_lines, JournalLemmas.are_recovered}
use Rattle.batch_journal.proofs.laws.recovered_are_lines.Goals as goal

pub returns : goal.returns
returns c = record { whole = are_whole_lines; recovered = are_recovered }
