use Rattle.std.proofs.Common.{get_or}
use Rattle.batch_check.{specs.LeastRanking.IsEdgeCircle, specs.LeastRanking.IsLeastRanking, proofs.OrdersWithoutOne.circle_stays_in, proofs.OrdersWithoutOne.others_within, proofs.OrdersWithoutOne.ranks_rise}
use Rattle.batch_check.proofs.mending.rises_along_others.Goals as goal

pub least_ranks-requires : goal.least_ranks-requires
least_ranks-requires c = rw c.deref.ensures.value (others_within c.args.edges.now c.args.edge c.in_ok-others.others.items c.in_ok-others.ensures c.args.count c.requires)

pub returns-in-Ranks : goal.returns-in-Ranks
returns-in-Ranks c =
    let ranks = c.in-Ranks.field-0.items in
    let least : IsLeastRanking c.args.count c.in_ok-others.others.items ranks = rw (c.in-Ranks.is, c.deref.ensures.value) at c.in_ok-least_ranks.ensures in
    ((λ k. get_or ranks k 0), ranks_rise c.args.edges.now c.args.edge c.in_ok-others.others.items c.in_ok-others.ensures c.args.count ranks least)

pub returns : goal.returns
returns c =
    let circle : IsEdgeCircle c.in_ok-others.others.items c.in-Circle.field-0.items = rw (c.in-Circle.is, c.deref.ensures.value) at c.in_ok-least_ranks.ensures in
    λ rank rise. circle_stays_in c.args.edges.now c.args.edge c.in_ok-others.others.items c.in_ok-others.ensures c.in-Circle.field-0.items rank circle rise
