use Rattle.std.proofs.Common.{◌≡◌, None, map, take, string_bytes}
use Rattle.batch_messages.specs.Explaining.{code_in, first_code}
use Rattle.batch_messages.proofs.explanation.explanation_among.Given as goal

abbrev pub invariant-loop-text : goal.invariant-loop-text
invariant-loop-text l = first_code code_in (map string_bytes (take l.text-index l.texts)) ≡ None
