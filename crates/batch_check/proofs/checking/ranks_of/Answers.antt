use Rattle.std.proofs.Common.{length}
use Rattle.batch_cell.specs.LookUps.{resources_of}
use Rattle.batch_check.{specs.LeastRanking.IsEdgeCircle, specs.LeastRanking.IsLeastRanking, specs.Spreading.HasFewest, proofs.Circles.circle_stays, proofs.Circles.circle_within, proofs.Circles.is_shortest, proofs.Circles.stands_as_circle, proofs.RanksAlongPaths.least_ranks_rise, proofs.TightLeastRanks.least_ranks_tight}
use Rattle.batch_check.proofs.checking.ranks_of.Goals as goal

pub returns-in-Ranks-clause-least : goal.returns-in-Ranks-clause-least
returns-in-Ranks-clause-least c =
    let edges = c.in_ok-set.set.edges.items in
    let least : IsLeastRanking (length (resources_of c.args.cell.now)) edges c.in-Ranks.ranks.items = rw (c.in-Ranks.is, c.resources.ensures, c.deref.ensures.value) at c.in_ok-ranks.ensures in
    record {
      complete = least.complete;
      rising = λ known. least_ranks_rise c.args.cell.now c.args.recipes.now edges c.in-Ranks.ranks.items known c.in_ok-set.ensures.edges least;
      tight = λ candidates known. least_ranks_tight c.args.cell.now c.args.recipes.now edges c.in-Ranks.ranks.items candidates known c.in_ok-set.ensures.edges least;
    }

pub shortest_circle-requires-clause-circle : goal.shortest_circle-requires-clause-circle
shortest_circle-requires-clause-circle c =
    let old = c.in_ok-set.set.edges.items in
    let circle : IsEdgeCircle old c.in-Circle.circle.items = rw (c.in-Circle.is, c.deref.ensures.value) at c.in_ok-ranks.ensures in
    rw c.deref-in-Circle.ensures.value (circle_stays old c.in-Circle.circle.items circle c.add_pairs.new.set.edges.items c.in_ok-add_pairs-in-Circle.ensures.pairs.grown.stays)

pub turned-requires-clause-within : goal.turned-requires-clause-within
turned-requires-clause-within c =
    let edges = c.add_pairs.new.set.edges.items in
    let shortest = c.in_ok-shortest-in-Circle.shortest.items in
    let circle : IsEdgeCircle edges shortest = rw c.deref-in-Circle.ensures.value at c.in_ok-shortest-in-Circle.ensures.circle in
    circle_within edges shortest circle (length (resources_of c.args.cell.now)) c.in_ok-add_pairs-in-Circle.ensures.within

pub returns-clause-fault : goal.returns-clause-fault
returns-clause-fault c =
    let cell = c.args.cell.now in
    let recipes = c.args.recipes.now in
    let old = c.in_ok-set.set in
    let set = c.add_pairs.new.set in
    let pairs = c.in_ok-add_pairs-in-Circle.ensures.pairs in
    let shortest = c.in_ok-shortest-in-Circle.shortest.items in
    let circle : IsEdgeCircle set.edges.items shortest = rw c.deref-in-Circle.ensures.value at c.in_ok-shortest-in-Circle.ensures.circle in
    let fewest : HasFewest set.edges.items shortest = rw c.deref-in-Circle.ensures.value at c.in_ok-shortest-in-Circle.ensures.fewest in (
      stands_as_circle cell recipes old set pairs c.turned.result.items (c.turned.ensures.circle set.edges.items circle),
      c.turned.ensures.first,
      is_shortest cell recipes old set pairs shortest c.turned.result.items fewest c.turned.ensures.sized,
    )
