use Rattle.std.proofs.Common.{ℕ, List, sym, subst}
use Rattle.batch_verify.specs.CertificateText.{IsCertificateText}
use Rattle.batch_verdicts.proofs.CertificateRanks.{certificate_is_read, certificate_is_short}
use Rattle.batch_verdicts.proofs.judging.check_recipes.Goals as goal

pub returns-in_ok-certificate_text-in-Ok-clause-checked : goal.returns-in_ok-certificate_text-in-Ok-clause-checked
returns-in_ok-certificate_text-in-Ok-clause-checked c =
    let ranks = c.in-Ok.certificate.ranks.items in
    let found = c.in-Ok.ensures in
    let written = c.in_ok-certificate_text-in-Ok.ensures in
    let Read : List ℕ → Type 0 = λ text. IsCertificateText text ranks in
    let read = certificate_is_read c.args.cell.now c.args.recipes.now ranks written.names found.ranked found.least found.in_order in
    let short = certificate_is_short c.args.cell.now c.args.recipes.now ranks written.names found.ranked found.least in (
      ranks,
      found.ranked,
      found.least,
      found.in_order,
      written.text,
      subst Read (sym written.text) read,
      rw written.text short,
    )
