use Rattle.std.proofs.Common.{◌∙◌, arith}
use Rattle.batch_desk.{specs.PortSteps.without_room, proofs.ListImages.map-changed, proofs.ListImages.map-same_length, proofs.HubPorts.room_more}
use Rattle.batch_desk.proofs.ports.reserve_each.Goals as goal

pub returns-in_err-reserve-clause-same : goal.returns-in_err-reserve-clause-same
returns-in_err-reserve-clause-same c =
    map-changed without_room c.loop-index.ports.items c.loop-index.index _ _ c.index_mut-port.ensures.value c.in_err-reserve.ensures.same ∙ c.loop-index.invariant.0

pub loop-index-preserved : goal.loop-index-preserved
loop-index-preserved c = (
  map-changed without_room c.loop-index.ports.items c.loop-index.index _ _ c.index_mut-port.ensures.value c.in_ok-reserve.ensures.same ∙ c.loop-index.invariant.0,
  room_more c.loop-index.ports.items c.loop-index.index c.reserve.new.self (omega (arith, map-same_length without_room _ _ c.loop-index.invariant.0)) c.in_ok-reserve.ensures.room c.loop-index.invariant.1,
)
