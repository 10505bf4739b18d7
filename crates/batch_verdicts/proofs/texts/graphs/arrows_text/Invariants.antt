use Rattle.std.proofs.Common.{◌≡◌, take, string_bytes}
use Rattle.batch_messages.specs.CircleSentence.{act_name}
use Rattle.batch_verdicts.specs.GraphTexts.{arrows_text}
use Rattle.batch_verdicts.proofs.texts.graphs.arrows_text.Given as goal

abbrev pub invariant-loop-edge : goal.invariant-loop-edge
invariant-loop-edge l = string_bytes l.text ≡ arrows_text (act_name l.recipes) l.cell l.recipes l.red (take l.edge-index l.edges)
