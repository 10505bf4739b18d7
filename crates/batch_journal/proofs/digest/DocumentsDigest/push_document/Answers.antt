use Rattle.std.proofs.Common.{rules, ◌≡◌, ◌++◌, decimal, length, subst}
use Rattle.sha2.specs.Hashers.{Holds256}
use Rattle.batch_journal.{specs.Digests.counted, proofs.DigestLemmas.counted_more}
use Rattle.batch_journal.proofs.digest.DocumentsDigest.push_document.Goals as goal

pub returns : goal.returns
returns c = λ texts has.
    let text = c.args.text.now in
    let size : c.as_bytes.result.now ≡ decimal (length text) = search rules in
    let first = subst (λ l. Holds256 c.update.new.self (counted texts ++ l)) size (c.update.ensures (counted texts) has) in
    subst (Holds256 c.update-3.new.self) (counted_more texts text) (c.update-3.ensures _ (c.update-2.ensures _ first))
