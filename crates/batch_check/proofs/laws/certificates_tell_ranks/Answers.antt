use Rattle.batch_check.proofs.CertificateRanks.{TellsRanks-certificate}
use Rattle.batch_check.proofs.laws.certificates_tell_ranks.Goals as goal

pub returns : goal.returns
returns c = TellsRanks-certificate
