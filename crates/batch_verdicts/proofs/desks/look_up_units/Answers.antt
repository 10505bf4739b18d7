use Rattle.std.proofs.Common.{subst}
use Rattle.batch_reader.specs.declared.fault.DocFault.{DocFault}
use Rattle.batch_verdicts.specs.{Judging.HaltsWith, Judging.document_kind, VerdictTexts.document_text}
use Rattle.batch_verdicts.proofs.desks.look_up_units.Goals as goal

pub returns-in-Err-clause-refused : goal.returns-in-Err-clause-refused
returns-in-Err-clause-refused c = record {
  fault = _;
  told = c.in-Err.ensures.refused;
  halts = subst (λ (fault : DocFault). HaltsWith (document_text c.args.path.now c.in-Err.fault) (document_kind fault) c.document_halt.result) c.in-Err.ensures.refused.told c.document_halt.ensures;
}
