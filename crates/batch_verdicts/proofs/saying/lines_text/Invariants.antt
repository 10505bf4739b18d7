use Rattle.std.proofs.Common.{◌≡◌, take, string_bytes}
use Rattle.std.specs.List.{flat_map}
use Rattle.batch_verdicts.specs.Saying.{sentence_line}
use Rattle.batch_verdicts.proofs.saying.lines_text.Given as goal

abbrev pub invariant-loop-refusal : goal.invariant-loop-refusal
invariant-loop-refusal l = string_bytes l.text ≡ flat_map (λ r. sentence_line r.sentence) (take l.refusal-index l.refusals)
