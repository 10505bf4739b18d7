use Rattle.std.proofs.Common.{◌≡◌, ◌++◌, take, string_bytes}
use Rattle.batch_outline.specs.Along.{asked_reserves}
use Rattle.batch_outline.proofs.acts.put_reserved.Given as goal

abbrev pub invariant-loop-name : goal.invariant-loop-name
invariant-loop-name l =
    string_bytes l.text ≡ string_bytes l.initial.text ++ asked_reserves l.acts (take l.name-index l.names)
