use Rattle.std.proofs.Common.{◌∙◌, sym, arith}
use Rattle.batch_serve.proofs.JournalLines.{long_text, no_text, line_text}
use Rattle.batch_serve.proofs.clean_lines.put_clean.Goals as goal

pub put_long-requires : goal.put_long-requires
put_long-requires c = omega (arith, (long_text c.args.line.now c.without_return-text.result.now c.without_return-text.ensures c.if-text-gt-MAX_LINE_LEN.true).1, c.requires)

pub returns-then-text-gt-MAX_LINE_LEN : goal.returns-then-text-gt-MAX_LINE_LEN
returns-then-text-gt-MAX_LINE_LEN c =
    let long = long_text c.args.line.now c.without_return-text.result.now c.without_return-text.ensures c.if-text-gt-MAX_LINE_LEN.true in
    record { within = long.1; text = c.put_long.ensures ∙ long.0 }

pub returns-then-gives_nothing-clause-text : goal.returns-then-gives_nothing-clause-text
returns-then-gives_nothing-clause-text c =
    no_text c.args.line.now c.without_return-text.result.now c.without_return-text.ensures c.if-text-gt-MAX_LINE_LEN.false (sym c.gives_nothing.ensures ∙ c.if-gives_nothing.true)

pub returns-clause-text : goal.returns-clause-text
returns-clause-text c =
    c.put_bytes.ensures ∙ line_text c.args.line.now c.without_return-text.result.now c.without_return-text.ensures c.if-text-gt-MAX_LINE_LEN.false (sym c.gives_nothing.ensures ∙ c.if-gives_nothing.false)
