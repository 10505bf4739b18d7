use Rattle.std.proofs.Common.{rules}
use Rattle.batch_text.specs.PlaceText.{numbers_of}
use Rattle.batch_record.proofs.LivePhases.{report-ends, report-goes_on}
use Rattle.batch_record.proofs.live.LivePhases.report.Goals as goal

pub returns-then-ends_phase : goal.returns-then-ends_phase
returns-then-ends_phase c =
    let told = c.args.told in
    report-ends _ _ told.unit.now told.phase.now told.word told.batch (numbers_of told.place.now) _ told.state (search rules) (search rules) c.end.ensures

pub returns : goal.returns
returns c =
    let told = c.args.told in
    report-goes_on _ _ told.unit.now told.phase.now told.word told.batch (numbers_of told.place.now) _ told.state (search rules) (search rules) c.go_on.ensures
