use Rattle.std.proofs.Common.{◌≡◌, ◌++◌, map, length}
use Rattle.batch_recipe.specs.Texts.{line_text}
use Rattle.batch_record.proofs.text.put_words.Given as goal

abbrev pub invariant-loop-rest : goal.invariant-loop-rest
invariant-loop-rest l =
    l.text.items ++ line_text (map (λ word. word.now) l.rest) ≡ l.initial.text.items ++ line_text (map (λ word. word.now) l.words)

abbrev pub decreases-loop-rest : goal.decreases-loop-rest
decreases-loop-rest l = length l.rest
