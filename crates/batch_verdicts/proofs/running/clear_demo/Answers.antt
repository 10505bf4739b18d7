use Rattle.std.proofs.Common.{string_bytes}
use Rattle.batch_verdicts.proofs.Outcomes.{halted_by_demo}
use Rattle.batch_verdicts.proofs.running.clear_demo.Goals as goal

pub returns-clause-halted : goal.returns-clause-halted
returns-clause-halted c =
    halted_by_demo (string_bytes c.in_ok-from_str.field-0) c.clear_documents.result c.in_ok-from_str.ensures.ok c.clear_documents.ensures.halted
