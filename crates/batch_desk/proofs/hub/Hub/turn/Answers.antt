use Rattle.batch_desk.proofs.SettledEngine.{answers_between, grows_between}
use Rattle.batch_desk.proofs.hub.Hub.turn.Goals as goal

pub returns-clause-history : goal.returns-clause-history
returns-clause-history c =
    grows_between c.args.port c.args.self.now c.flush.new.self c.advance_engine-turned.new.self c.flush-2.new.self
    c.flush.ensures.same c.flush.ensures.outlines c.advance_engine-turned.ensures.history c.flush-2.ensures.same

pub returns-clause-answer : goal.returns-clause-answer
returns-clause-answer c =
    answers_between c.args.self.now c.flush.new.self c.advance_engine-turned.new.self _ c.advance_engine-turned.result
    c.flush.ensures.same c.flush-2.ensures.same c.advance_engine-turned.ensures.answer
