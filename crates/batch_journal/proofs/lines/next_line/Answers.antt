use Rattle.std.proofs.Common.{get_or, arith}
use Rattle.batch_journal.proofs.GroupScan.{no_line, no_line_before_zero, ends_there, is_zero}
use Rattle.batch_journal.proofs.lines.next_line.Goals as goal

pub returns-in-Some : goal.returns-in-Some
returns-in-Some c =
    let found = c.in-Some.ensures in
    ends_there c.args.bytes.now c.in-Some.at (λ k lt is. found.0.before k (omega arith) lt is) found.0.high c.if-bytes-at-eq10.true

pub returns-in_default : goal.returns-in_default
returns-in_default c =
    let found = c.in-Some.ensures in
    no_line_before_zero c.args.bytes.now c.in-Some.at (λ k lt is. found.0.before k (omega arith) lt is) found.0.high
    (is_zero (get_or c.args.bytes.now c.in-Some.at 0) found.1 c.if-bytes-at-eq10.false)

pub returns-in_default-2 : goal.returns-in_default-2
returns-in_default-2 c = no_line c.args.bytes.now (λ k lt is. c.in_default.ensures k (omega arith) lt is)
