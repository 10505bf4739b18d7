use Rattle.std.proofs.Common.{rules}
use Rattle.std.proofs.lemmas.Result.{on_ok_weaker}
use Rattle.batch_text.specs.PlaceText.{numbers_of}
use Rattle.batch_record.{specs.Reading.need_told, proofs.Shares.passed-read}
use Rattle.batch_record.proofs.standing.Standing.claim_passes.Goals as goal

pub returns-clause-ok : goal.returns-clause-ok
returns-clause-ok c =
    let told = c.args.told in
    on_ok_weaker c.take_over.result (λ is. passed-read _ _ _ _ (numbers_of told.claim.place.now) (numbers_of told.to.now) (need_told told.claim.resource.now told.claim.units)
    (search rules) (search rules) (search rules) (search rules) is) c.take_over.ensures.ok
