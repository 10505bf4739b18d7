use Rattle.std.proofs.Common.{◌≡◌, map, take}
use Rattle.batch_serve.specs.CleanLines.{clean_byte}
use Rattle.batch_serve.proofs.clean_lines.put_bytes.Given as goal

abbrev pub invariant-loop-i : goal.invariant-loop-i
invariant-loop-i l = take l.i l.out ≡ map clean_byte (take l.i l.line)
