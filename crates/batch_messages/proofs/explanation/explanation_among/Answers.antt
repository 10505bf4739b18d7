use Rattle.std.proofs.Common.{ap, length, rules, string_bytes, sym, take, ◌+◌, ◌<◌, ◌∙◌}
use Rattle.batch_messages.{specs.Explaining.code_in, proofs.ExplanationCodes.first_at, proofs.ExplanationCodes.first_of-map, proofs.ExplanationCodes.none_at}
use Rattle.batch_messages.proofs.explanation.explanation_among.Goals as goal

pub returns-in-Some : goal.returns-in-Some
returns-in-Some c =
    let texts = c.args.texts.now in
    let i = c.loop-text.text-index in
    let within : i < length texts = search rules in
    let before = sym (first_of-map code_in string_bytes (take i texts)) ∙ c.loop-text.invariant in
    let found = ap code_in (sym c.as_bytes.ensures.value) ∙ sym c.in-Some.ensures in
    sym (first_of-map code_in string_bytes texts
    ∙ first_at (λ text. code_in (string_bytes text)) texts i c.text-item.result _ within c.text-item.is before found)

pub loop-text-preserved : goal.loop-text-preserved
loop-text-preserved c =
    let texts = c.args.texts.now in
    let i = c.loop-text.text-index in
    let within : i < length texts = search rules in
    let before = sym (first_of-map code_in string_bytes (take i texts)) ∙ c.loop-text.invariant in
    let none = ap code_in (sym c.as_bytes.ensures.value) ∙ sym c.in_default.ensures in
    first_of-map code_in string_bytes (take (i + 1) texts)
    ∙ none_at (λ text. code_in (string_bytes text)) texts i c.text-item.result within c.text-item.is before none
