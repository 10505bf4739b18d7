use Rattle.batch_verdicts.proofs.running.clear_source.Goals as goal

pub returns-in-Documents-clause-halted : goal.returns-in-Documents-clause-halted
returns-in-Documents-clause-halted g c =
    rw c.in-Documents.is
    (rw (c.deref.ensures, c.deref-in-Documents.ensures, c.deref-in-Documents-2.ensures.value) at c.clear_documents.ensures.halted)
