use Rattle.std.specs.Prelude.{⊤}
use Rattle.batch_journal.specs.{Journals.recovered, Lines.text_of}
use Rattle.batch_program.specs.Keeping.{cleaned}
use Rattle.batch_program.proofs.keeping.serve_opened.Given as goal

abbrev pub ghosts-serve_file : goal.ghosts-serve_file
ghosts-serve_file g a = record {
  documents = a.digested.documents.text;
  base = text_of (recovered a.digested.documents.text (g.D.Disk.seen a.disk));
  since = g.D.Disk.moment a.disk;
  input = cleaned (g.R.Read.remaining a.input.now.stream);
  was = ⊤;
}
