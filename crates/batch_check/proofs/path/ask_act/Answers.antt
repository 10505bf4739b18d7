use Rattle.batch_check.proofs.path.ask_act.Goals as goal

pub ask_each-requires-clause-needs : goal.ask_each-requires-clause-needs
ask_each-requires-clause-needs c = rw (c.deref.ensures.value, c.in_ok-numbers.ensures) c.requires.needs
