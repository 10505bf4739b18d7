use Rattle.batch_reader.proofs.tokens.end_token.Goals as goal

pub returns-in-Letters : goal.returns-in-Letters
returns-in-Letters c = rw c.in-Letters.is (c.end_word.ensures c.args.text.now c.args.place c.args.place)
