use Rattle.batch_engine.specs.View.{plant_of}
use Rattle.batch_keep.proofs.AuditSteps.{goes_by, goes_over}
use Rattle.batch_keep.proofs.auditing.audit_line.Goals as goal

pub returns-in-Some-clause-answered : goal.returns-in-Some-clause-answered
returns-in-Some-clause-answered c = λ all left text so_far.
    goes_over c.args.engine.now.cleared all left c.args.line.now (plant_of c.args.engine.now) text c.args.audited.now.count c.args.audited.now.rest.now so_far
    c.end_of_free_refusal.new.audited.count c.take_line.new.self.count c.end_of_free_refusal.new.audited.rest.now c.take_line.new.self.rest.now c.in_ok-at.ensures.passed
    c.in-Some.at (rw c.in-Some.is at c.in_ok-at.ensures.over) c.take_line.ensures.takes

pub returns-clause-answered : goal.returns-clause-answered
returns-clause-answered c = λ all left text so_far.
    let answer = c.in_ok-answer_line.ensures.answers in
    goes_by c.args.engine.now.cleared all left c.args.line.now (plant_of c.args.engine.now) text c.args.audited.now.count c.args.audited.now.rest.now so_far
    c.end_of_free_refusal.new.audited.count c.compare.new.self.count c.end_of_free_refusal.new.audited.rest.now c.compare.new.self.rest.now c.in_ok-at.ensures.passed
    (plant_of c.answer_line.new.engine) c.answer_line.new.writer.items c.compare.result
    (rw c.in_default.is at c.in_ok-at.ensures.over)
    (rw c.deref.ensures.value at (c.is_want.ensures c.if-is_want.false))
    (answer.0, answer.1, rw c.clear.ensures.items at answer.2)
    (rw c.deref-2.ensures.value at c.compare.ensures)
