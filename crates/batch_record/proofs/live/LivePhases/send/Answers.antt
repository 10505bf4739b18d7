use Rattle.std.proofs.Common.{rules}
use Rattle.batch_text.specs.PlaceText.{numbers_of}
use Rattle.batch_record.proofs.LivePhases.{sent-on}
use Rattle.batch_record.proofs.live.LivePhases.send.Goals as goal

pub returns : goal.returns
returns c =
    let told = c.args.told in
    sent-on _ _ told.step.batch (numbers_of told.step.place.now) _ told.command (search rules) c.go_on.ensures
