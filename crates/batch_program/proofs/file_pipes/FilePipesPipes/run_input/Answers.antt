use Rattle.std.proofs.Common.{None}
use Rattle.batch_pipes.proofs.ThreadStreams.{nothing_handed}
use Rattle.batch_program.proofs.file_pipes.FilePipesPipes.run_input.Goals as goal

pub returns-in-Err : goal.returns-in-Err
returns-in-Err c = nothing_handed None _
