use Rattle.std.specs.Prelude.{None}
use Rattle.batch_program.proofs.desk_keeping.serve_file.Given as goal

abbrev pub ghosts-serve_behind : goal.ghosts-serve_behind
ghosts-serve_behind g a = record {
  documents = a.journal.documents;
  base = g.C.JournalRun.base;
  since = g.C.JournalRun.since;
  input = None;
  was = g.D.Disk.is_disk a.journal.disk;
}
