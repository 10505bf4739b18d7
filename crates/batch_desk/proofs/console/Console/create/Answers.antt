use Rattle.std.proofs.Common.{refl, inl}
use Rattle.batch_desk.proofs.ConsoleTurns.{sent_more, create_goes, full_goes}
use Rattle.batch_desk.proofs.console.Console.create.Goals as goal
use Rattle.batch_desk.proofs.console.Console.create.Goals.{in-Ok, in-Err}

pub returns-clause-goes : goal.returns-clause-goes
returns-clause-goes c plan same_plan = elim c.match-send.branch [
  | in-Ok w ↦ rw w.self-is (create_goes plan c.args.copy c.args.self.now _ c.args.desk.now c.send.new.self same_plan c.requires refl refl refl refl refl w.in-Ok.ensures.sent)
  | in-Err w ↦ rw w.self-is (full_goes plan c.args.self.now c.args.desk.now c.send.new.self w.in-Err.ensures.full.1)
]

pub returns-clause-tries : goal.returns-clause-tries
returns-clause-tries c = elim c.match-send.branch [
  | in-Ok w ↦ rw w.self-is (sent_more _ _ _ _ _ w.in-Ok.ensures.sent)
  | in-Err w ↦ rw w.self-is (inl refl)
]
