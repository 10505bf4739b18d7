use Rattle.batch_record_laws.proofs.Ways as ways
use Rattle.batch_record_laws.proofs.ways_rise.Goals as goal

pub returns : goal.returns
returns c = ways.ways_rise
