use Rattle.batch_keep.proofs.holding.serve_started.Given as goal

abbrev pub ghosts-serve_holding_at : goal.ghosts-serve_holding_at
ghosts-serve_holding_at g a = record { contents = g.W.Write.contents a.writer }
