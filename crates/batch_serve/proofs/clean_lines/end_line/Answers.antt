use Rattle.std.proofs.Common.{ap, ◌∙◌}
use Rattle.batch_serve.specs.CleanLines.{clean, clean_text}
use Rattle.batch_serve.proofs.clean_lines.end_line.Goals as goal

pub returns-clause-text : goal.returns-clause-text
returns-clause-text c = c.put_clean-count.ensures.text ∙ ap (λ l. clean_text (clean l)) c.as_slice.ensures
