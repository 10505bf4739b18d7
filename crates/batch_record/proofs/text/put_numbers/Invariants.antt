use Rattle.std.proofs.Common.{◌≡◌, ◌++◌, length}
use Rattle.batch_recipe.specs.Texts.{place_text}
use Rattle.batch_record.proofs.text.put_numbers.Given as goal

abbrev pub invariant-loop-rest : goal.invariant-loop-rest
invariant-loop-rest l = l.text.items ++ place_text l.rest ≡ l.initial.text.items ++ place_text l.numbers

abbrev pub decreases-loop-rest : goal.decreases-loop-rest
decreases-loop-rest l = length l.rest
