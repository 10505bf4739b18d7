-- surface: laws of the hub's account.
use Rattle.std.specs.Prelude.{◌≡◌, map}
use Rattle.batch_desk.specs.HubState.{HubState, outlines, rings}

abbrev pub OutlinesKeepRings : Type 0
OutlinesKeepRings = (h g : HubState) → outlines g ≡ outlines h → (rings g ≡ rings h) × (map (λ p. p.scope) g.ports ≡ map (λ p. p.scope) h.ports)
