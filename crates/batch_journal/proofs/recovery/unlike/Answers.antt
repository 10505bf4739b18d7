use Rattle.std.proofs.Common.{refl, ◌⊎◌, subst}
use Rattle.batch_journal.specs.{Disks.IsPart, Recovery.HasNoFeed}
use Rattle.batch_journal.proofs.recovery.unlike.Goals as goal

pub returns-then-is_unbegun-clause-ok : goal.returns-then-is_unbegun-clause-ok
returns-then-is_unbegun-clause-ok c =
    (refl, subst (λ header. HasNoFeed c.args.bytes.now ⊎ IsPart c.args.bytes.now header) c.header_text.ensures (c.is_unbegun.ensures.yes c.if-is_unbegun.true))
