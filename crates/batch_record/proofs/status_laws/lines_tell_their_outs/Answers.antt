use Rattle.batch_record.proofs.Promises.{lines-tell-their-outs}
use Rattle.batch_record.proofs.status_laws.lines_tell_their_outs.Goals as goal

pub returns : goal.returns
returns c = lines-tell-their-outs
