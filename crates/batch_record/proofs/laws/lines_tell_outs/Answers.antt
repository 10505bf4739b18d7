use Rattle.std.proofs.Common.{refl}
use Rattle.batch_record.{specs.RecordLine.out_of_line, proofs.OutFromLine.line-said}
use Rattle.batch_record.proofs.laws.lines_tell_outs.Goals as goal

pub returns : goal.returns
returns c = λ line. line-said line (out_of_line line) refl
