use Rattle.batch_check.proofs.Detours.{takes_no_detour}
use Rattle.batch_check.proofs.laws.shortest_circles_take_no_detour.Goals as goal

pub returns : goal.returns
returns c = takes_no_detour
