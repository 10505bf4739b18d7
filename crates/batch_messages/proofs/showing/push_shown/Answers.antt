use Rattle.std.proofs.Common.{◌≡◌, ◌++◌, ◌∙◌, OnOk, ap, sym, subst, encode_utf8, encode_utf8_all, string_bytes}
use Rattle.batch_messages.{specs.Shown.shown_char, proofs.TextGrowth.grown_to, proofs.TextGrowth.one_more, proofs.ShownLines.shown_control, proofs.ShownLines.shown_plain}
use Rattle.batch_messages.proofs.showing.push_shown.Goals as goal

pub returns-then-code-lt32 : goal.returns-then-code-lt32
returns-then-code-lt32 c =
    subst (λ told. OnOk c.push_escape.result (string_bytes c.push_escape.new.told ≡ string_bytes c.args.told.now ++ encode_utf8_all told))
    (sym (shown_control c.args.letter c.then-code-lt32.either)) c.push_escape.ensures

pub returns-then-letter-eq92 : goal.returns-then-letter-eq92
returns-then-letter-eq92 c = rw c.if-letter-eq92.true (rw c.if-letter-eq92.true at c.push_twice.ensures)

pub returns : goal.returns
returns c =
    let old = string_bytes c.args.told.now in
    let letter = c.args.letter in
    grown_to c.push.result (string_bytes c.push.new.self) old (encode_utf8 letter) (old ++ encode_utf8_all (shown_char letter)) c.push.ensures.bytes
    (one_more old (encode_utf8 letter)
    ∙ ap (λ told. old ++ encode_utf8_all told) (sym (shown_plain letter c.if-code-lt32.false c.if-code-eq127.false c.if-letter-eq92.false)))
