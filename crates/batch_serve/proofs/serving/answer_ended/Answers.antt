use Rattle.std.proofs.Common.{◌≡◌, [], length, rules}
use Rattle.std.proofs.lemmas.List.{nil_from_length}
use Rattle.batch_serve.proofs.LineBeginnings.{event_of_line-take}
use Rattle.batch_serve.proofs.serving.answer_ended.Goals as goal

pub returns-then-is_empty-clause-answers : goal.returns-then-is_empty-clause-answers
returns-then-is_empty-clause-answers g c =
    let short : length c.as_slice.result.now ≡ 0 = search rules in
    let none : c.args.line.now ≡ [] = nil_from_length c.args.line.now (rw (← c.as_slice.ensures) short) in
    rw (none, event_of_line-take c.args.end.now) c.answer_line.ensures.answers
