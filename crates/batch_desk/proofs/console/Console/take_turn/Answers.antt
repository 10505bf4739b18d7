use Rattle.batch_desk.{specs.ConsoleSteps.Follows, proofs.ConsoleTurns.take_goes}
use Rattle.batch_desk.proofs.console.Console.take_turn.Goals as goal
use Rattle.batch_desk.proofs.console.Console.take_turn.Goals.{in-Some, in_default}

pub returns : goal.returns
returns c batches before was =
    let taken : Follows c.args.plan.now batches before c.match-pop_out.self c.pop_out.new.self =
    elim c.match-pop_out.branch [
      | in-Some w ↦ rw w.self-is (take_goes c.args.plan.now w.in-Some.out c.args.self.now _ c.args.desk.now c.pop_out.new.self w.learn.ensures (rw w.in-Some.is at c.pop_out.ensures) batches before was)
      | in_default w ↦ rw (w.self-is, rw w.in_default.is at c.pop_out.ensures) was
    ] in
    c.act.ensures.goes batches before taken
