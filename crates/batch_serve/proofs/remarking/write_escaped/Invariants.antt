use Rattle.std.proofs.Common.{take}
use Rattle.std.specs.Io.KnownBytes.{Appends, Keeps}
use Rattle.batch_serve.specs.{Comments.escaped, Remarking.uncommented}
use Rattle.batch_serve.proofs.remarking.write_escaped.Given as goal

abbrev pub invariant-loop-byte : goal.invariant-loop-byte
invariant-loop-byte g l = record {
  kept : Keeps (uncommented g.C.Start.contents (g.W.Write.contents l.initial.writer.inner)) (uncommented g.C.Start.contents (g.W.Write.contents l.writer.inner));
  written : Appends (g.W.Write.contents l.initial.writer.inner) (g.W.Write.contents l.writer.inner) (escaped (take l.byte-index l.text));
}
