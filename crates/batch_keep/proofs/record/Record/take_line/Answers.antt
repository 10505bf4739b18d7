use Rattle.batch_keep.proofs.RecordComparison.{line_shorter, line_taken}
use Rattle.batch_keep.proofs.record.Record.take_line.Goals as goal

pub returns-clause-takes : goal.returns-clause-takes
returns-clause-takes c = line_taken c.args.self.now.count c.args.self.now.rest.now c.args.at _ c.requires c.next_number-self.ensures

pub returns-clause-shorter : goal.returns-clause-shorter
returns-clause-shorter c = line_shorter c.args.self.now.rest.now c.args.at c.requires
