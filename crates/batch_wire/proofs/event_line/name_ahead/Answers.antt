use Rattle.std.proofs.Common.{◌≡◌, ℕ, zero, suc, ◌+◌, ◌<◌, ◌∷◌, true, List, take, drop, get_or, slice_index, subst, arith, rules, sym, ap, ◌∙◌}
use Rattle.std.{proofs.lemmas.Bool.and_parts, proofs.lemmas.Bool.false≢true, proofs.lemmas.List.take_rest, specs.Char.is_ascii_alphabetic}
use Rattle.batch_text.specs.NameText.{is_name_spelling}
use Rattle.batch_wire.{specs.EventLine.event_words, proofs.LineWords.name_ahead}
use Rattle.batch_wire.proofs.event_line.name_ahead.Goals as goal

some_of : (xs : List ℕ) (n : ℕ) → is_name_spelling (take n xs) ≡ true → 0 < n
some_of xs zero e = absurd (false≢true e)
some_of xs (suc n) e = omega arith

pub returns-clause-ahead : goal.returns-clause-ahead
returns-clause-ahead c =
    let text = c.args.text.now in
    let len = c.in_ok-name.len in
    let read = c.in_ok-name.ensures.read in
    let spelled = subst (λ word. is_name_spelling word ≡ true) read c.in_ok-name.ensures.valid.spelled in
    let space : get_or text len 0 ≡ 32 = search rules in
    name_ahead text len (some_of text len spelled) c.in_ok-name.ensures.within (and_parts (is_ascii_alphabetic (slice_index (take len text) 0)) _ spelled).1 space
    ∙ ap (λ word. word ∷ event_words (drop (len + 1) text)) (sym read)
    ∙ ap (λ rest. c.in_ok-name.name ∷ event_words rest) (sym (take_rest text (len + 1)))
