use Rattle.std.proofs.Common.{◌≡◌, take, flat_map, string_bytes}
use Rattle.batch_verdicts.specs.GraphTexts.{shared_text}
use Rattle.batch_verdicts.proofs.texts.graphs.all_shared_text.Given as goal

abbrev pub invariant-loop-one : goal.invariant-loop-one
invariant-loop-one l = string_bytes l.text ≡ flat_map shared_text (take l.one-index l.shared)
