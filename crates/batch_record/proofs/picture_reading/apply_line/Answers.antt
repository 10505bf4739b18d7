use Rattle.batch_record.{specs.Reading.out_told, proofs.Lines.passed-on, proofs.Lines.told-on}
use Rattle.batch_record.proofs.picture_reading.apply_line.Goals as goal

pub returns-in_ok-apply_out-in-Ok-Some : goal.returns-in_ok-apply_out-in-Ok-Some
returns-in_ok-apply_out-in-Ok-Some c = told-on c.args.line.now (out_told c.in-Ok-Some.told) (rw c.in-Ok-Some.field-0-is at c.in-Ok-Some.ensures.ok).0 (rw c.in-Ok-Some.field-0-is at c.in-Ok-Some.ensures.read)

pub returns-in_ok-apply_comment-in-Ok-None : goal.returns-in_ok-apply_comment-in-Ok-None
returns-in_ok-apply_comment-in-Ok-None c = passed-on c.args.line.now (rw c.in-Ok-None.field-0-is at c.in-Ok-None.ensures.ok).0
