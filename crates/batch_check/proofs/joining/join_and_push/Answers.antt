use Rattle.batch_check.proofs.joining.join_and_push.Goals as goal

pub join_asked-requires-clause-needs : goal.join_asked-requires-clause-needs
join_asked-requires-clause-needs c = rw c.deref.ensures (rw c.in-Some.is at c.requires.asked)
