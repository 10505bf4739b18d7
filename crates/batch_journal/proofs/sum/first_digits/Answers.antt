use Rattle.std.proofs.Common.{rules, ◌≡◌, take, sym, subst}
use Rattle.hex.specs.Hex.{encode_lower}
use Rattle.batch_journal.{specs.Lines.IsLine, proofs.SumLemmas.line_front, proofs.SumLemmas.encoded_line}
use Rattle.batch_journal.proofs.sum.first_digits.Goals as goal

pub returns-clause-line : goal.returns-clause-line
returns-clause-line c =
    let digest = c.args.digest.now in
    let is : c.copy_from_slice.new.self ≡ take 16 (encode_lower digest) = search rules in
    subst IsLine (sym is) (line_front 16 (encode_lower digest) (encoded_line digest (λ i. (c.type_inv.digest i).fits)))
