-- Ports with the same outlines.
use Rattle.std.proofs.Common.{◌≡◌, map, sym, ◌∙◌, ap}
use mathlib.Core.List.{map-map}
use Rattle.batch_desk.specs.{PortState.PortState, PortState.outline, PortState.port_rings, HubState.HubState, HubState.rings, HubState.outlines}

-- ports with the same outlines have the same values of a function of the outline
shown_stays : {X : Type 0} (f : PortState → X) (h g : HubState) → outlines g ≡ outlines h → map (λ p. f (outline p)) g.ports ≡ map (λ p. f (outline p)) h.ports
shown_stays f h g same = sym (map-map f outline g.ports) ∙ (ap (map f) same ∙ map-map f outline h.ports)

pub rings_stay : (h g : HubState) → outlines g ≡ outlines h → rings g ≡ rings h
rings_stay h g same = shown_stays port_rings h g same

pub scopes_stay : (h g : HubState) → outlines g ≡ outlines h → map (λ (p : PortState). p.scope) g.ports ≡ map (λ (p : PortState). p.scope) h.ports
scopes_stay h g same = shown_stays (λ (p : PortState). p.scope) h g same
