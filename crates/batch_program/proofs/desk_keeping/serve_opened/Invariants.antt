use Rattle.std.specs.Prelude.{None, ⊤}
use Rattle.batch_journal.specs.{Journals.recovered, Lines.text_of}
use Rattle.batch_program.proofs.desk_keeping.serve_opened.Given as goal

abbrev pub ghosts-serve_file : goal.ghosts-serve_file
ghosts-serve_file g a = record {
  documents = a.served.digested.documents.text;
  base = text_of (recovered a.served.digested.documents.text (g.D.Disk.seen a.disk));
  since = g.D.Disk.moment a.disk;
  input = None;
  was = ⊤;
}
