use Rattle.std.proofs.Common.{sym, ◌∙◌}
use Rattle.batch_serve.proofs.HeldText.{found_none, found_some}
use Rattle.batch_serve.proofs.held.occurs.Goals as goal

pub returns-clause-none : goal.returns-clause-none
returns-clause-none c = λ none. found_none c.args.needle.now c.args.text.now c.first_of.result c.first_of.ensures (sym c.is_some.ensures ∙ none)

pub returns-clause-some : goal.returns-clause-some
returns-clause-some c = λ some. found_some c.args.needle.now c.args.text.now c.first_of.result c.first_of.ensures (sym c.is_some.ensures ∙ some)
