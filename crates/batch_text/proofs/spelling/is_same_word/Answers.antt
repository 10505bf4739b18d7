use Rattle.std.proofs.Common.{rules}
use Rattle.batch_text.proofs.ShortNames.{same_word}
use Rattle.batch_text.proofs.spelling.is_same_word.Goals as goal

pub returns : goal.returns
returns c = same_word c.args.word c.args.other _ _ (search rules) (search rules) (search rules) (search rules) c.from_le_bytes.ensures c.from_le_bytes-2.ensures
