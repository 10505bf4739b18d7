use Rattle.std.proofs.Common.{ap, ◌∙◌}
use Rattle.batch_desk.{specs.HubState.outlines, specs.PortState.outline, proofs.ListImages.map-changed, proofs.HubPorts.ports_changed, proofs.HubPorts.flushed, proofs.HubPorts.flushed_outline, proofs.HubPorts.within}
use Rattle.batch_desk.proofs.hub.Hub.flush.Goals as goal

pub invariant_of-self : goal.invariant_of-self
invariant_of-self c =
    let h = c.self.inside in record {
      leads = c.self.invariant.leads;
      ports = ports_changed h.history.items h.outs.items h.ports.items c.args.port c.index_mut-end.result.now c.flush.new.self (within _ _ _ c.self.view_is c.requires) c.index_mut-end.ensures.value c.self.invariant.ports
          (λ is. flushed h.history.items h.outs.items c.args.port _ _ is c.flush.ensures);
    }

pub returns-clause-outlines : goal.returns-clause-outlines
returns-clause-outlines c =
    map-changed outline c.self.inside.ports.items c.args.port _ _ c.index_mut-end.ensures.value (flushed_outline _ _ c.flush.ensures) ∙ ap outlines c.self.view_is
