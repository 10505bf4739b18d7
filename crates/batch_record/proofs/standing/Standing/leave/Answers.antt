use Rattle.std.proofs.Common.{rules}
use Rattle.std.proofs.lemmas.Fn.{filter_same}
use Rattle.batch_record.specs.Kept.{is_other, kept_act}
use Rattle.batch_record.proofs.standing.Standing.leave.Goals as goal

pub returns : goal.returns
returns c = filter_same _ (is_other c.args.left.now.resource (kept_act c.args.left.now)) _ (λ x b q called. (search rules, search rules)) _ _ c.retain.ensures.filtered
