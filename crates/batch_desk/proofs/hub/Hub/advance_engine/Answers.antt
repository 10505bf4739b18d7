use Rattle.std.proofs.Common.{rules}
use Rattle.batch_desk.{specs.HubState.IsEngineSettled, proofs.Hubs.grows_taken, proofs.Moves.turn_answers}
use Rattle.batch_desk.proofs.hub.Hub.advance_engine.Goals as goal

pub returns-clause-answer : goal.returns-clause-answer
returns-clause-answer c =
    let taken = rw c.if-not-branch.false at c.in_ok-answer_one.ensures.taken in
    turn_answers c.args.port _ _ _ c.end_turn-2.result taken c.end_turn-2.ensures.history c.end_turn-2.ensures.answer

pub returns-clause-history : goal.returns-clause-history
returns-clause-history c =
    let settled : IsEngineSettled c.args.self.now.engine = c.is_settled.ensures.0 (search rules) in
    let taken = rw c.if-not-branch.false at c.in_ok-answer_one.ensures.taken in
    grows_taken c.args.port _ _ _ settled taken c.end_turn-2.ensures.history
