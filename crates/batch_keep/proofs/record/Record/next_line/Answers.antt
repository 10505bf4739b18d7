use Rattle.std.proofs.Common.{sym, ◌∙◌}
use Rattle.batch_keep.proofs.RecordComparison.{comment_compared}
use Rattle.batch_keep.proofs.record.Record.next_line.Goals as goal

pub loop-at-preserved : goal.loop-at-preserved
loop-at-preserved c =
    comment_compared c.args.self.now.count c.args.self.now.rest.now c.loop-at.self.count c.take_line.new.self.count c.in-Some.at c.loop-at.self.rest.now c.take_line.new.self.rest.now
    c.loop-at.invariant (sym c.is_comment.ensures ∙ c.if-not-is_comment.false) c.take_line.ensures.takes
