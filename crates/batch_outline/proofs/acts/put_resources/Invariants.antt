use Rattle.std.proofs.Common.{◌≡◌, ◌++◌, take, string_bytes}
use Rattle.batch_outline.specs.Along.{asked_needs}
use Rattle.batch_outline.proofs.acts.put_resources.Given as goal

abbrev pub invariant-loop-need : goal.invariant-loop-need
invariant-loop-need l =
    string_bytes l.text ≡ string_bytes l.initial.text ++ asked_needs (take l.need-index l.needs)
