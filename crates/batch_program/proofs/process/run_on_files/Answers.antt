use Rattle.std.proofs.Common.{arith}
use Rattle.batch_program.proofs.ProgramRuns.{run_in_range}
use Rattle.batch_program.proofs.process.run_on_files.Goals as goal

pub returns : goal.returns
returns g c = run_in_range _ _ _ _ _ _ _ c.run_program-status.ensures

pub returns-in_default : goal.returns-in_default
returns-in_default g c = omega (arith, c.complain.ensures)
