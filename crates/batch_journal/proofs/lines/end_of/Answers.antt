use Rattle.batch_journal.proofs.LastWholeLine.{at_start, at_zero, at_end, at_feed, at_other, text_found, rest_found, lines_found}
use Rattle.batch_journal.proofs.lines.end_of.Goals as goal

pub loop-i-init : goal.loop-i-init
loop-i-init c = at_start c.args.bytes.now

pub returns-then-bytes-i-eq0-clause-text : goal.returns-then-bytes-i-eq0-clause-text
returns-then-bytes-i-eq0-clause-text c = text_found _ _ _ _ c.loop-i.invariant (at_zero _ _ c.loop-i-test.true c.if-bytes-i-eq0.true)

pub returns-then-bytes-i-eq0-clause-rest : goal.returns-then-bytes-i-eq0-clause-rest
returns-then-bytes-i-eq0-clause-rest c = rest_found _ _ _ _ c.loop-i.invariant (at_zero _ _ c.loop-i-test.true c.if-bytes-i-eq0.true)

pub loop-i-preserved-then-bytes-i-eq10 : goal.loop-i-preserved-then-bytes-i-eq10
loop-i-preserved-then-bytes-i-eq10 c = at_feed _ _ _ c.loop-i-test.true c.if-bytes-i-eq10.true c.loop-i.invariant

pub loop-i-preserved : goal.loop-i-preserved
loop-i-preserved c = at_other _ _ _ c.loop-i-test.true c.if-bytes-i-eq0.false c.if-bytes-i-eq10.false c.loop-i.invariant

pub returns-clause-text : goal.returns-clause-text
returns-clause-text c = text_found _ _ _ _ c.loop-i.invariant (at_end _ _ c.loop-i-test.false)

pub returns-clause-rest : goal.returns-clause-rest
returns-clause-rest c = rest_found _ _ _ _ c.loop-i.invariant (at_end _ _ c.loop-i-test.false)

pub returns-then-bytes-i-eq0-clause-lines : goal.returns-then-bytes-i-eq0-clause-lines
returns-then-bytes-i-eq0-clause-lines c = lines_found _ _ _ _ c.loop-i.invariant (at_zero _ _ c.loop-i-test.true c.if-bytes-i-eq0.true)

pub returns-clause-lines : goal.returns-clause-lines
returns-clause-lines c = lines_found _ _ _ _ c.loop-i.invariant (at_end _ _ c.loop-i-test.false)
