use Rattle.batch_keep.proofs.RepeatedDeskAnswers.{desks_again}
use Rattle.batch_keep.proofs.desks.desks_are_told_again.Goals as goal

pub returns : goal.returns
returns c = desks_again c.recovered_are_lines.ensures.whole c.recovered_are_lines.ensures.recovered c.lines_begin.ensures c.no_want_is_well.ensures
