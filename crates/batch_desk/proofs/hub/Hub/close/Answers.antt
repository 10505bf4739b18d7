use Rattle.std.proofs.Common.{ap, ◌∙◌, ◌<◌, length, arith, refl}
use Rattle.batch_desk.{proofs.HubPorts.ports_changed, specs.PortState.port_rings, specs.HubState.rings, proofs.ListImages.map-changed, proofs.PortEnds.rings_tried, proofs.PortEnds.port_tried, proofs.PortEnds.hub_closes, proofs.PortEnds.hub_refuses, proofs.PortEnds.token_back}
use Rattle.batch_desk.proofs.hub.Hub.close.Goals as goal

pub invariant_of-self : goal.invariant_of-self
invariant_of-self c =
    let h = c.self.inside in record {
      leads = c.self.invariant.leads;
      ports = ports_changed h.history.items h.outs.items h.ports.items c.args.port c.index_mut-end.result.now c.close.new.self (omega arith) c.index_mut-end.ensures.value c.self.invariant.ports
          (λ is. port_tried h.history.items h.outs.items c.args.port c.len-recorded.result _ _ _ c.close.result (omega arith) c.close.ensures.ok c.close.ensures.err is);
    }

pub returns-clause-ok : goal.returns-clause-ok
returns-clause-ok c =
    let lt : c.args.port < length c.self.inside.ports.items = omega arith in
    hub_closes _ _ _ c.args.port c.len-recorded.result _ c.close.new.self _ c.close.result c.self.view_is c.self.invariant lt c.index_mut-end.ensures.value (omega arith) refl c.close.ensures.ok

pub returns-clause-err : goal.returns-clause-err
returns-clause-err c =
    let lt : c.args.port < length c.self.inside.ports.items = omega arith in
    hub_refuses _ _ _ c.args.port c.len-recorded.result _ c.close.new.self _ c.close.result c.self.view_is c.self.invariant lt c.index_mut-end.ensures.value refl c.close.ensures.err

pub returns-clause-back : goal.returns-clause-back
returns-clause-back c =
    let lt : c.args.port < length c.self.inside.ports.items = omega arith in
    token_back _ _ c.args.port _ _ c.close.result c.self.view_is lt c.index_mut-end.ensures.value c.close.ensures.back

pub returns-clause-rings : goal.returns-clause-rings
returns-clause-rings c =
    let x = c.index_mut-end.result.now in
    map-changed port_rings c.self.inside.ports.items c.args.port x c.close.new.self c.index_mut-end.ensures.value
    (rings_tried c.len-recorded.result x c.close.new.self _ c.close.result c.close.ensures.ok c.close.ensures.err)
    ∙ ap rings c.self.view_is
