use Rattle.batch_signs.proofs.WantedSigns.{tells-none, tells-some}
use Rattle.batch_signs.proofs.signs.Signs.has_none.Goals as goal

pub returns-in-None : goal.returns-in-None
returns-in-None c = tells-none _ _ _ _ c.in-None.ensures

pub returns-in-Some : goal.returns-in-Some
returns-in-Some c = tells-some _ _ _ _ _ c.in-Some.ensures
