use Rattle.batch_desk.proofs.console.Console.act.Goals as goal

pub returns-in-Start-clause-goes : goal.returns-in-Start-clause-goes
returns-in-Start-clause-goes c = c.start.ensures.goes _

pub returns-in-Ok-clause-goes : goal.returns-in-Ok-clause-goes
returns-in-Ok-clause-goes c = c.create.ensures.goes c.args.plan.now c.in-Ok.ensures
