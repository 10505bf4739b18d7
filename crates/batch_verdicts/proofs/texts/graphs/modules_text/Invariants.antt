use Rattle.std.proofs.Common.{◌≡◌, take, flat_map, string_bytes}
use Rattle.batch_verdicts.specs.GraphTexts.{module_text}
use Rattle.batch_verdicts.proofs.texts.graphs.modules_text.Given as goal

abbrev pub invariant-loop-one : goal.invariant-loop-one
invariant-loop-one l = string_bytes l.text ≡ flat_map module_text (take l.one-index l.modules)
