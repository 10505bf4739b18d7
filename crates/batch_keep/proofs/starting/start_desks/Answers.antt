use Rattle.std.proofs.lemmas.Result.{err_from_is_err_and}
use Rattle.batch_journal.specs.Journals.{recovered}
use Rattle.batch_keep.proofs.StartBlock.{blocks_as, same_lines}
use Rattle.batch_keep.proofs.starting.start_desks.Goals as goal

pub returns-clause-blocks : goal.returns-clause-blocks
returns-clause-blocks g c =
    let recovery = c.in_ok-recovered in
    let engine = c.in-Ok.ensures in (
      recovered c.args.documents.text recovery.recovered.text.items,
      blocks_as _ _ _ _ _ _ _ _ _ _ _ _ engine.cleared engine.opening c.text-digits.ensures.digits c.deref.ensures.value c.in_ok-block.ensures.blocks,
      λ d. same_lines _ _ recovery.recovered.text.items (g.D.Disk.seen c.args.disk.now) c.text-digits.ensures.digits (recovery.ensures.lines d),
    )

pub returns-clause-at_rest : goal.returns-clause-at_rest
returns-clause-at_rest g c = λ d.
    let recovery = c.in_ok-recovered in (
      recovery.recovered.text.items,
      rw c.text-digits.ensures.digits at (recovery.ensures.at_rest d),
      same_lines _ _ recovery.recovered.text.items (g.D.Disk.seen c.args.disk.now) c.text-digits.ensures.digits (recovery.ensures.lines d),
    )

pub returns-in_err-recovered-clause-refused : goal.returns-in_err-recovered-clause-refused
returns-in_err-recovered-clause-refused g c = λ d.
    let p = err_from_is_err_and c.from_residual.result c.from_residual.ensures.1 in
    rw (p.1, p.2) (rw c.text-digits.ensures.digits at (c.in_err-recovered.ensures.refused d))

pub returns-clause-taken : goal.returns-clause-taken
returns-clause-taken g c = λ d. rw c.text-digits.ensures.digits at (c.in_ok-recovered.ensures.taken d)

pub returns-in_err-recovered-clause-untouched : goal.returns-in_err-recovered-clause-untouched
returns-in_err-recovered-clause-untouched g c = λ d. rw c.text-digits.ensures.digits at (c.recover.ensures.untouched d)

pub returns-in_default-clause-untouched : goal.returns-in_default-clause-untouched
returns-in_default-clause-untouched g c = λ d. rw c.text-digits.ensures.digits at (c.recover.ensures.untouched d)

pub returns-in_err-block-clause-untouched : goal.returns-in_err-block-clause-untouched
returns-in_err-block-clause-untouched g c = λ d. rw c.text-digits.ensures.digits at (c.recover.ensures.untouched d)

pub returns-clause-untouched : goal.returns-clause-untouched
returns-clause-untouched g c = λ d. rw c.text-digits.ensures.digits at (c.recover.ensures.untouched d)

pub returns-in_err-block-clause-refused : goal.returns-in_err-block-clause-refused
returns-in_err-block-clause-refused g c = λ d.
    let p = err_from_is_err_and c.from_residual-in_err-block.result c.from_residual-in_err-block.ensures.1 in
    rw (p.1, p.2) tt
