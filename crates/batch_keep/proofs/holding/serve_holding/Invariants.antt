use Rattle.std.specs.Prelude.{⊤}
use Rattle.batch_journal.specs.{Journals.recovered, Lines.text_of}
use Rattle.batch_keep.proofs.holding.serve_holding.Given as goal

abbrev pub ghosts-serve_started : goal.ghosts-serve_started
ghosts-serve_started g a = record {
  documents = a.journal.documents;
  base = text_of (recovered a.journal.documents (g.D.Disk.seen a.journal.disk));
  since = g.D.Disk.moment a.journal.disk;
  input = g.R.Read.remaining a.input;
  was = ⊤;
}
