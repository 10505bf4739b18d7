use Rattle.std.proofs.Common.{arith}
use Rattle.std.proofs.lemmas.List.Elements.{All-push}
use Rattle.batch_desk.{specs.PortState.IsNewPort, specs.DeskState.IsNewDesk, specs.Plans.places_free, specs.Plans.port_made, specs.Plans.places_planned, specs.Plans.port_planned, specs.Plans.sizes_made, specs.Plans.sizes_planned, proofs.PortEnds.planned_more, proofs.PortEnds.rings_pushed}
use Rattle.batch_desk.proofs.opening.open_ports.Goals as goal

pub loop-plan-preserved : goal.loop-plan-preserved
loop-plan-preserved c =
    let ports = c.loop-plan.ports.items in
    let desks = c.loop-plan.desks.items in
    let made = c.in-Ok.ensures.made in
    rw (c.push_reserved.ensures.items, c.reserve.ensures.items, c.push_reserved-in-loop-plan.ensures.items, c.reserve-else-is_err.ensures.items)
    (record {
      ports_new = All-push IsNewPort ports _ c.loop-plan.invariant.ports_new made.0;
      desks_new = All-push IsNewDesk desks _ c.loop-plan.invariant.desks_new made.1;
      rings = rings_pushed ports desks _ _ c.loop-plan.invariant.rings made.2;
      scopes = planned_more port_made port_planned ports c.in-Ok.port c.args.plans.now c.loop-plan.plan-index _ (omega arith) c.loop-plan.invariant.scopes made.3;
      places = planned_more places_free places_planned desks c.in-Ok.desk c.args.plans.now c.loop-plan.plan-index _ (omega arith) c.loop-plan.invariant.places made.4;
      sizes = planned_more sizes_made sizes_planned ports c.in-Ok.port c.args.plans.now c.loop-plan.plan-index _ (omega arith) c.loop-plan.invariant.sizes c.in-Ok.ensures.sizes;
    })
