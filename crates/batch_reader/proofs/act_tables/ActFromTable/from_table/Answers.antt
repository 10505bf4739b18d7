use Rattle.batch_reader.proofs.act_tables.ActFromTable.from_table.Goals as goal

pub returns-in-UnitProcedure-clause-ok : goal.returns-in-UnitProcedure-clause-ok
returns-in-UnitProcedure-clause-ok c = rw c.in-UnitProcedure.is c.unit_procedure.ensures.ok

pub returns-in-UnitProcedure-clause-refused : goal.returns-in-UnitProcedure-clause-refused
returns-in-UnitProcedure-clause-refused c = rw c.in-UnitProcedure.is c.unit_procedure.ensures.refused

pub returns-in-Operation-clause-ok : goal.returns-in-Operation-clause-ok
returns-in-Operation-clause-ok c = rw c.in-Operation.is c.operation.ensures.ok

pub returns-in-Operation-clause-refused : goal.returns-in-Operation-clause-refused
returns-in-Operation-clause-refused c = rw c.in-Operation.is c.operation.ensures.refused

pub returns-in-Phase-clause-ok : goal.returns-in-Phase-clause-ok
returns-in-Phase-clause-ok c = rw c.in-Phase.is c.phase_step.ensures.ok

pub returns-in-Phase-clause-refused : goal.returns-in-Phase-clause-refused
returns-in-Phase-clause-refused c = rw c.in-Phase.is c.phase_step.ensures.refused
