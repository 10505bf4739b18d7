use Rattle.std.proofs.Common.{subst, sym}
use Rattle.batch_messages.{specs.Shown.IsOneLine, proofs.ShownLines.shown_is_one_line}
use Rattle.batch_messages.proofs.sentence.Sentence.of.Goals as goal

pub invariant_of-result : goal.invariant_of-result
invariant_of-result c = record { one_line = subst (λ text. IsOneLine text) (sym c.in_ok-text.ensures) (shown_is_one_line c.args.text.now) }
