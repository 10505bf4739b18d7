use Rattle.std.proofs.Common.{rules, ◌≡◌, sym, subst}
use Rattle.hex.specs.Hex.{encode_lower}
use Rattle.batch_journal.{specs.Digests.IsPlain, proofs.DigestLemmas.plain_of, proofs.SumLemmas.encoded_line}
use Rattle.batch_journal.proofs.digest.hex_digits.Goals as goal

pub returns-clause-plain : goal.returns-clause-plain
returns-clause-plain c =
    let digest = c.args.digest.now in
    let is : c.encode_to_slice-written.new.output ≡ encode_lower digest = search rules in
    subst IsPlain (sym is) (plain_of (encode_lower digest) (encoded_line digest (λ i. (c.type_inv.digest i).fits)))
