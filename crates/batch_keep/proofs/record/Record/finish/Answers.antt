use Rattle.std.proofs.Common.{sym, ◌∙◌}
use Rattle.batch_keep.{specs.Comparing.empty, specs.Comparing.more, specs.Comparing.part, proofs.RecordComparison.nothing_left, proofs.RecordComparison.something_left}
use Rattle.batch_keep.proofs.record.Record.finish.Goals as goal

pub returns-in-Some : goal.returns-in-Some
returns-in-Some c = record {
  count = c.next_line.new.self.count;
  rest = c.next_line.new.self.rest.now;
  passed = c.next_line.ensures.passed;
  end = more _ c.in-Some._at c.in-Some.ensures.next c.next_number.ensures;
}

pub returns-then-is_empty : goal.returns-then-is_empty
returns-then-is_empty c = record {
  count = c.next_line.new.self.count;
  rest = c.next_line.new.self.rest.now;
  passed = c.next_line.ensures.passed;
  end = empty (nothing_left c.next_line.new.self.rest.now (sym c.is_empty.ensures ∙ c.if-is_empty.true));
}

pub returns : goal.returns
returns c = record {
  count = c.next_line.new.self.count;
  rest = c.next_line.new.self.rest.now;
  passed = c.next_line.ensures.passed;
  end = part _ c.in_default.ensures.next (something_left c.next_line.new.self.rest.now (sym c.is_empty.ensures ∙ c.if-is_empty.false)) c.next_number-2.ensures;
}
