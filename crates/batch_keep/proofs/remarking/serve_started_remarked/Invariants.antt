use Rattle.batch_keep.proofs.remarking.serve_started_remarked.Given as goal

abbrev pub ghosts-serve_remarked_at : goal.ghosts-serve_remarked_at
ghosts-serve_remarked_at g a = record { contents = g.W.Write.contents a.writer }
