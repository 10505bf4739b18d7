use Rattle.batch_step_laws.proofs.{RestsAfterChange.withdrawn-IsRestOf, NodesOfRests.advance-IsRestOf, NodesOfRests.reach-IsRestOf}
use Rattle.batch_step_laws.proofs.rests.stands_in_its_chart.Goals as goal

pub returns : goal.returns
returns c = record { reached = reach-IsRestOf; advanced = advance-IsRestOf; withdrawn = withdrawn-IsRestOf }
