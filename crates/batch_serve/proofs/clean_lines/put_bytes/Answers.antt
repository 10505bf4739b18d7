use Rattle.std.proofs.Common.{arith}
use Rattle.batch_serve.proofs.JournalLines.{put_more, put_end}
use Rattle.batch_serve.proofs.clean_lines.put_bytes.Goals as goal

pub loop-i-preserved : goal.loop-i-preserved
loop-i-preserved c = put_more c.loop-i.out c.args.line.now c.loop-i.i _ (omega arith) (omega arith) c.loop-i.invariant c.clean_byte.ensures

pub returns : goal.returns
returns c = put_end c.loop-i.out c.args.line.now c.loop-i.i (omega arith) (omega arith) c.loop-i.invariant
