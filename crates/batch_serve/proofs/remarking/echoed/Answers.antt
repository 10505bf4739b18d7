use Rattle.std.proofs.Common.{◌∙◌, ap, take}
use Rattle.batch_serve.proofs.TextsWithComments.{take_min}
use Rattle.batch_serve.proofs.remarking.echoed.Goals as goal

pub returns : goal.returns
returns c = take_min c.min.result 1025 c.without_return-text.result.now c.min.ensures ∙ ap (take 1025) c.without_return-text.ensures
