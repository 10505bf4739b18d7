use Rattle.std.proofs.Common.{◌<◌, ◌++◌, ◌∷◌, ◌∙◌, [], List, length, take, get_or, ap, sym, subst, rules}
use Rattle.std.{specs.Prelude.All, proofs.lemmas.List.take_more, proofs.lemmas.List.Elements.All-push}
use Rattle.batch_text.specs.NameText.{IsName}
use Rattle.batch_verify.specs.CertificateText.{Rank}
use Rattle.batch_verdicts.specs.VerdictTexts.{rank_text}
use Rattle.batch_verdicts.proofs.texts.certificates.certificate_text.Goals as goal
use Rattle.batch_outline.proofs.LineSeats.{texts_more}

pub loop-name-preserved : goal.loop-name-preserved
loop-name-preserved c =
    let ranks = c.args.certificate.now.ranks.items in
    let at = c.loop-name.name-index in
    let rank = c.loop-name-item.result in
    let within : at < length ranks = search rules in
    let is = c.loop-name-item.is ∙ ap (λ ranks. get_or ranks at rank) c.deref-name-items.ensures.value in
    let Named : Rank → Type 0 = λ r. IsName r.0 in
    let Names : List Rank → Type 0 = λ rs. All Named rs in
    let bytes = rw c.text-name.ensures.value at c.in_ok-writeln.ensures.bytes in
    record {
      text = bytes ∙ ap (λ text. text ++ rank_text rank) c.loop-name.invariant.text ∙ texts_more rank_text [] ranks at rank rank within is;
      names =
          subst Names (sym (take_more ranks at rank within ∙ ap (λ r. take at ranks ++ r ∷ []) (sym is)))
          (All-push Named (take at ranks) rank c.loop-name.invariant.names c.text-name.ensures.valid);
    }
