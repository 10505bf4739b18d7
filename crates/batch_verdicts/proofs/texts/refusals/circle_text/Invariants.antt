use Rattle.std.proofs.Common.{◌≡◌, take, string_bytes}
use Rattle.batch_verdicts.specs.VerdictTexts.{circle_text}
use Rattle.batch_verdicts.proofs.texts.refusals.circle_text.Given as goal

abbrev pub invariant-loop-edge : goal.invariant-loop-edge
invariant-loop-edge l = string_bytes l.text ≡ circle_text l.cell l.recipes (take l.edge-index l.edges)
