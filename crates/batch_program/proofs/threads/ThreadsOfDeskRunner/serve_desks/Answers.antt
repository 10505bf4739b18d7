use Rattle.batch_program.proofs.threads.ThreadsOfDeskRunner.serve_desks.Goals as goal

pub returns : goal.returns
returns g c = c.in_ok-end.ensures.service
