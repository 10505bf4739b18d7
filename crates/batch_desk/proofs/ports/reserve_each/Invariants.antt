use Rattle.std.proofs.Common.{◌≡◌, ℕ, ◌<◌, map, get_or}
use Rattle.batch_desk.specs.{PortState.PortState, PortSteps.HasRoom, PortSteps.without_room}
use Rattle.batch_desk.proofs.ports.reserve_each.Given as goal

abbrev pub invariant-loop-index : goal.invariant-loop-index
invariant-loop-index l =
    (map without_room l.ports.items ≡ map without_room l.initial.ports.items)
    × ((k : ℕ) (d : PortState) → k < l.index → HasRoom (get_or l.ports.items k d))
