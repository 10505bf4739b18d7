use Rattle.std.proofs.Common.{ap, ◌∙◌}
use Rattle.batch_desk.{specs.PortState.port_rings, specs.HubState.rings, proofs.ListImages.map-changed}
use Rattle.batch_desk.proofs.hub.Hub.cut.Goals as goal

pub returns-clause-rings : goal.returns-clause-rings
returns-clause-rings c =
    map-changed port_rings c.self.inside.ports.items c.args.port _ _ c.index_mut-end.ensures.value (ap port_rings c.cut.ensures) ∙ ap rings c.self.view_is
