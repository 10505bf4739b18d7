use Rattle.std.proofs.Common.{◌≡◌, ◌+◌, ◌-◌, ◌<◌, ◌&&◌, ◌++◌, ◌∷◌, [], true, length, drop, get_or, replicate, arith, rules, sym, ap, ◌∙◌}
use Rattle.std.proofs.lemmas.List.{length-set, take_more, take_more_set, drop-set-lt, drop-drop, drop-replicate, Folds.list_all_more}
use Rattle.batch_text.specs.NameText.{is_name_byte}
use Rattle.batch_text.proofs.spelling.Spelling.read_front.Goals as goal

pub returns-then-not-is_name_byte-clause-within_room : goal.returns-then-not-is_name_byte-clause-within_room
returns-then-not-is_name_byte-clause-within_room c = (c.loop-i.invariant.few, c.loop-i.invariant.all, c.loop-i.invariant.left)

pub loop-i-preserved : goal.loop-i-preserved
loop-i-preserved c =
    let kept = c.loop-i.invariant in
    let i = c.loop-i.i in
    let bytes = c.args.bytes.now in
    let room = c.loop-i.room in
    let here : i < length bytes = search rules in
    let few : i < 14 = omega (arith, kept.few, c.if-i-eq-MAX_SHORT_LEN.false) in
    let spelled : is_name_byte (get_or bytes i 0) ≡ true = search rules in
    record {
      few = omega (arith, few);
      all = length-set room i (get_or bytes i 0) ∙ kept.all;
      copied = take_more_set room i (get_or bytes i 0) (omega (arith, kept.all, few)) ∙ ap (λ t. t ++ get_or bytes i 0 ∷ []) kept.copied ∙ sym (take_more bytes i 0 here);
      left = drop-set-lt (i + 1) room i (get_or bytes i 0) (omega arith) ∙ sym (drop-drop 1 i room) ∙ ap (drop 1) kept.left ∙ drop-replicate 1 (14 - i) 0 ∙ ap (λ n. replicate n 0) (omega arith);
      spelled = list_all_more is_name_byte bytes i 0 here ∙ ap (λ b. b && is_name_byte (get_or bytes i 0)) kept.spelled ∙ spelled;
    }
