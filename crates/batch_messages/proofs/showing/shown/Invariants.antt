use Rattle.std.proofs.Common.{◌≡◌, ◌++◌, IsUtf8, string_bytes}
use Rattle.std.specs.Str.Iter.{chars_rest}
use Rattle.batch_messages.specs.Shown.{shown}
use Rattle.batch_messages.proofs.showing.shown.Given as goal

abbrev pub invariant-loop-letter : goal.invariant-loop-letter
invariant-loop-letter l = IsUtf8 (chars_rest l.letter-iterator) × (string_bytes l.told ++ shown (chars_rest l.letter-iterator) ≡ shown l.text)
