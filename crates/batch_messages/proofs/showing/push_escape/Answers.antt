use Rattle.std.proofs.Common.{◌++◌, ◌/◌, ◌%◌, encode_utf8, encode_utf8_all, string_bytes}
use Rattle.batch_messages.{specs.Shown.escape, specs.Shown.hex_digit, proofs.TextGrowth.four_more, proofs.TextGrowth.grown_to}
use Rattle.batch_messages.proofs.showing.push_escape.Goals as goal

pub returns : goal.returns
returns c =
    let old = string_bytes c.args.told.now in
    let code = c.args.code in
    grown_to c.push-4.result (string_bytes c.push-4.new.self) (string_bytes c.push-3.new.self) (encode_utf8 c.hex_digit-2.result)
    (old ++ encode_utf8_all (escape code)) c.push-4.ensures.bytes
    (rw (c.in_ok-push-3.ensures.bytes, c.in_ok-push-2.ensures.bytes, c.in_ok-push.ensures.bytes, c.hex_digit.ensures, c.hex_digit-2.ensures)
    (four_more old (encode_utf8 92) (encode_utf8 120) (encode_utf8 (hex_digit (code / 16))) (encode_utf8 (hex_digit (code % 16)))))
