use Rattle.std.proofs.Common.{◌++◌, ◌∷◌, [], encode_utf8, encode_utf8_all, string_bytes}
use Rattle.batch_messages.proofs.TextGrowth.{grown_to, two_more}
use Rattle.batch_messages.proofs.showing.push_twice.Goals as goal

pub returns : goal.returns
returns c =
    let old = string_bytes c.args.told.now in
    let letter = c.args.letter in
    grown_to c.push-2.result (string_bytes c.push-2.new.self) (string_bytes c.push.new.self) (encode_utf8 letter)
    (old ++ encode_utf8_all (letter ∷ letter ∷ [])) c.push-2.ensures.bytes
    (rw c.in_ok-push.ensures.bytes (two_more old (encode_utf8 letter) (encode_utf8 letter)))
