use Rattle.std.specs.Prelude.{⊤}
use Rattle.batch_journal.specs.{Journals.recovered, Lines.text_of}
use Rattle.batch_keep.proofs.serving.serve_journalled.Given as goal

abbrev pub ghosts-serve_at : goal.ghosts-serve_at
ghosts-serve_at g a = record {
  documents = a.journal.documents;
  base = text_of (recovered a.journal.documents (g.D.Disk.seen a.journal.disk));
  since = g.D.Disk.moment a.journal.disk;
  input = g.R.Read.remaining a.input;
  was = ⊤;
}
