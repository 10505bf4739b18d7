use Rattle.batch_program.proofs.program.serve_plainly.Goals as goal

pub returns : goal.returns
returns g c = (c.serve_set-served.result, c.serve_set-served.ensures, c.report_served.ensures.told, c.report_served.ensures.status)
