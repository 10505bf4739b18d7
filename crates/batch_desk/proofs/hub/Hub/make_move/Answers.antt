use Rattle.std.proofs.Common.{ap, ◌∙◌, map}
use Rattle.batch_desk.{specs.HubState.outlines, specs.PortState.outline, proofs.Hubs.hub_moves, proofs.Hubs.made, proofs.Hubs.hub_roomless, proofs.Hubs.outlines_roomless, proofs.Hubs.outlines_told}
use Rattle.batch_desk.proofs.hub.Hub.make_move.Goals as goal

pub invariant_of-self-in_err-reserve_each : goal.invariant_of-self-in_err-reserve_each
invariant_of-self-in_err-reserve_each c =
    let h = c.self.inside in
    rw c.reserve.ensures.items (hub_roomless h.engine h.history.items h.outs.items h.ports.items _ c.self.invariant c.in_err-reserve_each.ensures.same)

pub returns-in_err-reserve_each-clause-outlines : goal.returns-in_err-reserve_each-clause-outlines
returns-in_err-reserve_each-clause-outlines c = outlines_roomless _ _ c.in_err-reserve_each.ensures.same ∙ ap outlines c.self.view_is

pub invariant_of-self-2 : goal.invariant_of-self-2
invariant_of-self-2 c =
    let h = c.self.inside in
    rw (c.push_reserved.ensures.items, c.reserve.ensures.items, c.queue_for_each.ensures)
    (hub_moves h.engine c.next_move.new.self h.history.items h.outs.items h.ports.items c.reserve_each.new.ports.items c.in-Some.line
    c.self.invariant (made _ _ _ _ c.in-Some.is c.next_move.ensures.next c.next_move.ensures.plant c.next_move.ensures.cleared) c.in_ok-reserve_each.ensures.same)

pub returns-clause-outlines : goal.returns-clause-outlines
returns-clause-outlines c =
    ap (map outline) c.queue_for_each.ensures ∙ (outlines_told c.in-Some.line c.reserve_each.new.ports.items ∙ (outlines_roomless _ _ c.in_ok-reserve_each.ensures.same ∙ ap outlines c.self.view_is))
