use Rattle.std.proofs.Common.{◌≡◌, drop}
use Rattle.batch_serve.specs.Runs.{last_of}
use Rattle.batch_serve.proofs.desks_remarks.last_of.Given as goal

abbrev pub invariant-loop-run : goal.invariant-loop-run
invariant-loop-run l = last_of l.last (drop l.run-index l.runs) ≡ last_of l.fn.before l.runs
