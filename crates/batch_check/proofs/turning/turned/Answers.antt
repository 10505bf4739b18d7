use Rattle.batch_check.proofs.{Raises.no_edge, CircleStarts.IsCircle-turned, CircleStarts.BeginsWithLeastName-turned, CircleStarts.length-turned}
use Rattle.batch_check.proofs.turning.turned.Goals as goal

pub returns-clause-circle : goal.returns-clause-circle
returns-clause-circle c = λ edges h. rw c.rotate_left.ensures.items (IsCircle-turned edges c.args.circle.items c.place_of_least_name-start.result h)

pub returns-clause-first : goal.returns-clause-first
returns-clause-first c =
    rw c.rotate_left.ensures.items
    (BeginsWithLeastName-turned c.args.cell.now c.args.circle.items c.place_of_least_name-start.result no_edge (rw c.deref.ensures.value at c.place_of_least_name-start.ensures.place)
    (rw c.deref.ensures.value at (c.place_of_least_name-start.ensures.least no_edge)))

pub returns-clause-sized : goal.returns-clause-sized
returns-clause-sized c = rw c.rotate_left.ensures.items (length-turned c.args.circle.items c.place_of_least_name-start.result)
