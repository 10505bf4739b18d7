use Rattle.std.proofs.Common.{take}
use Rattle.batch_serve.specs.Served.{AreWhole}
use Rattle.batch_serve.proofs.desk_server.are_whole.Given as goal

-- the runs so far are
abbrev pub invariant-loop-run : goal.invariant-loop-run
invariant-loop-run l = record {
  whole : AreWhole (take l.run-index l.runs);
}
