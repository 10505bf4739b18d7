use Rattle.batch_verdicts.proofs.judging.clear_recipes.Goals as goal

pub returns-in-Err-clause-refused : goal.returns-in-Err-clause-refused
returns-in-Err-clause-refused c =
    let is = c.in-Err.ensures.rejected in
    (c.in-Err.rejected.fault, c.in-Err.ensures.first, rw (is.0, is.1) at c.set_halt.ensures)
