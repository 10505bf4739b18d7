use Rattle.std.proofs.Common.{List, [], ◌∷◌, ◌++◌, get_or, subst, sym, take}
use Rattle.std.proofs.lemmas.List.{take_all, take_more}
use Rattle.batch_check.{specs.declared.edge.Edge.Edge, specs.Mending.TellRises, specs.Mending.TellsRiseAlong, proofs.OrdersWithoutOne.TellRises-more, proofs.OrdersWithoutOne.told_standing, proofs.Raises.no_edge}
use Rattle.batch_check.proofs.mending.rise_along_others.Goals as goal

pub rises_along_others-requires : goal.rises_along_others-requires
rises_along_others-requires c = rw (c.deref.ensures.value, c.resources.ensures) c.in_ok-add_pairs.ensures.within

pub loop-edge-preserved : goal.loop-edge-preserved
loop-edge-preserved c =
    let cell = c.args.cell.now in
    let recipes = c.args.recipes.now in
    let edges = c.args.edges.now in
    let index = c.loop-edge.edge-index in
    let set = c.add_pairs.new.set in
    let edge : Edge = get_or edges index no_edge in
    let told : TellsRiseAlong set.edges.items edge c.in_ok-rises.rises = rw c.deref.ensures.value at c.in_ok-rises.ensures in
    rw c.in_ok-push.ensures.items
    (subst (λ (es : List Edge). TellRises cell recipes es (c.loop-edge.rise.items ++ c.in_ok-rises.rises ∷ [])) (sym (take_more edges index no_edge c.loop-edge-test.true))
    (TellRises-more cell recipes (take index edges) c.loop-edge.rise.items edge c.in_ok-rises.rises c.loop-edge.invariant
    (told_standing cell recipes c.in_ok-set.set set c.in_ok-add_pairs.ensures.pairs edge c.in_ok-rises.rises told)))

pub returns : goal.returns
returns c = subst (λ (es : List Edge). TellRises c.args.cell.now c.args.recipes.now es c.loop-edge.rise.items) (take_all c.loop-edge.edge-index c.args.edges.now c.loop-edge-test.false) c.loop-edge.invariant
