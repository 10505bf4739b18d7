use Rattle.batch_chart.proofs.NextMoves.{state-none, state-waits, state-ends}
use Rattle.batch_chart.proofs.scene.Scene.next_state.Goals as goal

pub returns-in-None : goal.returns-in-None
returns-in-None c = state-none _ _ _ _ c.in-None.ensures

pub returns-then-not-is_reached : goal.returns-then-not-is_reached
returns-then-not-is_reached c = state-waits _ _ _ _ _ c.in-Some.ensures c.if-not-is_reached.ensures

pub returns-else-not-is_reached : goal.returns-else-not-is_reached
returns-else-not-is_reached c = state-ends _ _ _ _ _ c.in-Some.ensures c.if-not-is_reached.ensures
