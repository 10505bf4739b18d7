use Rattle.batch_program.proofs.program.serve_with_comments.Goals as goal

pub returns : goal.returns
returns g c = (c.serve_remarked-served.result.0, c.serve_remarked-served.ensures, c.report_served.ensures.told, c.report_served.ensures.status)
