use Rattle.std.proofs.Common.{◌≡◌, None}
use Rattle.batch_messages.specs.Explaining.{code_of_word, first_code}
use Rattle.batch_messages.proofs.explanation.explanation_in.Given as goal

abbrev pub invariant-loop-word : goal.invariant-loop-word
invariant-loop-word l =
    (goal.iterator-loop-word).can_next l.word-iterator × (goal.iterator-loop-word).is_finite l.word-iterator
    × (first_code (λ word. code_of_word word.now) l.yielded ≡ None)
