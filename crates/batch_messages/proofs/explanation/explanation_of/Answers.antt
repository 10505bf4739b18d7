use Rattle.std.proofs.Common.{ap, ◌∙◌, List, ℕ}
use Rattle.std.specs.{Prelude.find, Prelude.option_map, Str.str_eq_ignore_ascii_case}
use Rattle.batch_messages.{specs.declared.explanation.Explanation.Explanation, proofs.ExplanationCodes.found_code}
use Rattle.batch_messages.proofs.explanation.explanation_of.Goals as goal

pub returns : goal.returns
returns c =
    ap (option_map (λ (e : Explanation). e.code.now)) c.found_in.ensures ∙ found_code c.args.word.now c.explanations.result
    ∙ ap (find (λ (known : List ℕ). str_eq_ignore_ascii_case known c.args.word.now)) c.explanations.ensures
