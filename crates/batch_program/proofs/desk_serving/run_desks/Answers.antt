use Rattle.batch_program.proofs.desk_serving.run_desks.Goals as goal

pub returns-in-Some : goal.returns-in-Some
returns-in-Some g c = rw c.in-Some.is (rw c.deref.ensures at c.serve_desks_over_journal.ensures)

pub returns-in-None : goal.returns-in-None
returns-in-None g c = rw c.in-None.is c.serve_desk_set.ensures
