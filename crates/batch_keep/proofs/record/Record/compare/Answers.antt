use Rattle.std.proofs.Common.{sym}
use Rattle.batch_keep.{specs.Comparing.IsCompared, specs.Comparing.all_told, specs.Comparing.differs, specs.Comparing.ends, proofs.RecordComparison.comments_compared, proofs.RecordComparison.compared_both, proofs.RecordComparison.line_compared, proofs.RecordComparison.nothing_compared, proofs.RecordComparison.nothing_left, proofs.RecordComparison.something_left}
use Rattle.batch_keep.proofs.record.Record.compare.Goals as goal
use Rattle.batch_keep.proofs.record.Record.compare.Goals.{After-next_line}

-- comments were taken, and nothing more of the due text
passed : (c : After-next_line) → IsCompared c.args.self.now.count c.args.self.now.rest.now c.args.due.now c.next_line.new.self.count c.next_line.new.self.rest.now c.loop-left.left.now
passed c =
    compared_both c.args.self.now.count c.args.self.now.rest.now c.args.due.now c.loop-left.self.count c.next_line.new.self.count c.loop-left.self.rest.now c.next_line.new.self.rest.now
    c.loop-left.left.now c.loop-left.left.now c.loop-left.invariant
    (comments_compared c.loop-left.self.count c.loop-left.self.rest.now c.next_line.new.self.count c.next_line.new.self.rest.now c.loop-left.left.now c.next_line.ensures.passed)

pub loop-left-init : goal.loop-left-init
loop-left-init c = nothing_compared c.args.self.now.count c.args.self.now.rest.now c.args.due.now

pub loop-left-preserved : goal.loop-left-preserved
loop-left-preserved c =
    line_compared c.args.self.now.count c.args.self.now.rest.now c.args.due.now c.next_line.new.self.count c.take_line.new.self.count c.in-Some.at c.next_line.new.self.rest.now
    c.take_line.new.self.rest.now c.loop-left.left.now c.in-Some-left_behind.more.now (passed (goal.at.loop-left-preserved c).After-next_line) c.in-Some.ensures.next.1
    c.in-Some-left_behind.ensures c.take_line.ensures.takes

pub returns-in_default : goal.returns-in_default
returns-in_default c = record {
  left = c.loop-left.left.now;
  compared = passed (goal.at.returns-in_default c).After-next_line;
  halts = ends _ c.in_default.ensures.next (something_left c.loop-left.left.now (sym c.loop-left-test.ensures)) c.next_number.ensures;
}

pub returns-in_default-left_behind : goal.returns-in_default-left_behind
returns-in_default-left_behind c = record {
  left = c.loop-left.left.now;
  compared = passed (goal.at.returns-in_default-left_behind c).After-next_line;
  halts = differs _ c.in-Some.at c.in-Some.ensures.next (something_left c.loop-left.left.now (sym c.loop-left-test.ensures)) c.in_default-left_behind.ensures
      c.next_number-in_default-left_behind.ensures;
}

pub returns : goal.returns
returns c = record {
  left = c.loop-left.left.now;
  compared = c.loop-left.invariant;
  halts = all_told (nothing_left c.loop-left.left.now (sym c.loop-left-test.ensures));
}
