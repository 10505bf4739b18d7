use Rattle.std.proofs.Common.{◌≡◌, ◌++◌, drop}
use Rattle.batch_serve.specs.Runs.{runs_text}
use Rattle.batch_serve.proofs.desks_remarks.runs_text.Given as goal

-- the written text, and the text of the other runs
abbrev pub invariant-loop-run : goal.invariant-loop-run
invariant-loop-run l = l.text.items ++ runs_text l.names l.last (drop l.run-index l.runs) ≡ runs_text l.names l.fn.before l.runs
