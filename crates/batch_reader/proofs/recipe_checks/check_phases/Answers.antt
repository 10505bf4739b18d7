use Rattle.batch_reader.proofs.recipe_checks.check_phases.Goals as goal

pub returns : goal.returns
returns c = rw (c.new-none.ensures.empty) at c.check_table.ensures
