use Rattle.batch_keep.proofs.RecordComparison.{behind_line}
use Rattle.batch_keep.proofs.record.left_behind.Goals as goal

pub returns : goal.returns
returns c = behind_line c.args.line.now c.args.text.now c.in_ok-behind.field-0.now c.behind-2.result c.in_ok-behind.ensures c.behind-2.ensures
