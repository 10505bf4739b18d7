use Rattle.std.proofs.Common.{ap, length, rules, sym, tests, ◌∙◌}
use Rattle.std.{specs.Char.is_ascii_whitespace, proofs.lemmas.Iterator.Consumers.YieldsList-at, proofs.lemmas.Iterator.Consumers.YieldsList-end, proofs.lemmas.Iterator.Consumers.YieldsList-so_far, proofs.lemmas.Iterator.Consumers.YieldsList-turn, proofs.lemmas.Iterator.Splits.YieldsList-from_slice_split}
use Rattle.batch_messages.{specs.Explaining.code_of_word, specs.Explaining.first_code, specs.Explaining.pieces_of, proofs.ExplanationCodes.first_at, proofs.ExplanationCodes.first_of-map, proofs.ExplanationCodes.none_more}
use Rattle.batch_messages.proofs.explanation.explanation_in.Goals as goal

pub returns-in-Some-explanation_of : goal.returns-in-Some-explanation_of
returns-in-Some-explanation_of c =
    let word = c.in-Some.word in
    let cut = c.split-word-items.ensures in
    let turn = YieldsList-turn
    (YieldsList-at c.into_iter-word-iterator.ensures.into_iter_gives
    (YieldsList-from_slice_split _ is_ascii_whitespace c.args.text.now cut.rest cut.done cut.closure (λ x r q k. search (rules, tests))))
    c.loop-word.yielded c.loop-word.word-iterator c.loop-word.yielded_by c.next.result c.next.new.self word c.in-Some.is c.next.ensures.steps in
    let so_far = YieldsList-so_far
    (YieldsList-at c.into_iter-word-iterator.ensures.into_iter_gives
    (YieldsList-from_slice_split _ is_ascii_whitespace c.args.text.now cut.rest cut.done cut.closure (λ x r q k. search (rules, tests))))
    c.loop-word.yielded c.loop-word.word-iterator c.loop-word.yielded_by in
    let before = ap (first_code code_of_word) (sym so_far) ∙ first_of-map code_of_word (λ x. x.now) c.loop-word.yielded ∙ c.loop-word.invariant.2 in
    sym (first_at code_of_word (pieces_of c.args.text.now) (length c.loop-word.yielded) word.now c.in-Some-explanation_of.explanation.code.now turn.0 turn.1 before (sym c.in-Some-explanation_of.ensures))

pub loop-word-preserved : goal.loop-word-preserved
loop-word-preserved c = (
  search rules,
  search rules,
  none_more (λ word. code_of_word word.now) c.loop-word.yielded c.in-Some.word c.loop-word.invariant.2 (sym c.in_default.ensures),
)

pub returns : goal.returns
returns c =
    let cut = c.split-word-items.ensures in
    let end = YieldsList-end
    (YieldsList-at c.into_iter-word-iterator.ensures.into_iter_gives
    (YieldsList-from_slice_split _ is_ascii_whitespace c.args.text.now cut.rest cut.done cut.closure (λ x r q k. search (rules, tests))))
    c.loop-word.yielded _ c.loop-word.yielded_by _ _ c.in-None.is c.next.ensures.steps in
    sym (ap (first_code code_of_word) (sym end.0) ∙ first_of-map code_of_word (λ x. x.now) c.loop-word.yielded ∙ c.loop-word.invariant.2)
