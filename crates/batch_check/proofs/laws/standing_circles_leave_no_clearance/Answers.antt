use Rattle.batch_model.specs.Setups.{setup_of}
use Rattle.batch_check.proofs.RanksAlongPaths.{circle_leaves_none, cleared_rises}
use Rattle.batch_check.proofs.laws.standing_circles_leave_no_clearance.Goals as goal

pub returns : goal.returns
returns c = record {
  rising = λ cell recipes circle rank. circle_leaves_none rank cell recipes circle;
  clearance = λ cell recipes circle stands (rank, cleared).
      circle_leaves_none rank cell recipes circle stands (cleared_rises cell (setup_of cell recipes) rank recipes cleared.recipes);
}
