use Rattle.std.proofs.Common.{◌≡◌, take}
use Rattle.batch_serve.specs.Comments.{spot_behind}
use Rattle.batch_serve.proofs.remarked.spot_behind.Given as goal

abbrev pub invariant-loop-byte : goal.invariant-loop-byte
invariant-loop-byte l = l.at ≡ spot_behind l.fn.spot (take l.byte-index l.bytes)
