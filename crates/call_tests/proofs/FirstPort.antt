-- The first port's desk, or the inbox and the token that it left, belong to the port.
use Rattle.std.proofs.Common.{◌≡◌, ◌<◌, List, [], ◌∷◌, map, length, Option, Some, None, IfSome, IsSome, slice_get, get_or, refl, sym, ap, subst, set, arith}
use Rattle.std.{specs.declared.alloc.Global.Global, proofs.lemmas.Bool.false≢true, proofs.lemmas.Option.none-some, proofs.lemmas.Option.same_Some}
use Rattle.rtrb.specs.declared.{AnyItems.AnyItems, finished.Finished.Finished}
use Rattle.batch_engine.specs.declared.{event.Event.Event, out.Out.Out}
use Rattle.batch_desk.specs.{DeskState.DeskState, DeskState.InboxState, DeskState.IsLeftOf, DeskState.desk_rings, Ends.Seals, HubState.HubState, HubState.rings, PortState.PortState, PortState.port_rings, PortState.sealed, Rings.Ring, Rings.IsOfRing}
use Rattle.call_tests.specs.Seats.{IsLeft, IsSeated}

-- the first of the desks is that of the first port

first_events : (ps : List PortState) (ds : List DeskState) (d : DeskState) → map port_rings ps ≡ map desk_rings ds → 0 < length ds → d ≡ get_or ds 0 d → IfSome (slice_get (map port_rings ps) 0) (λ r. r.0 ≡ d.events)
first_events ps [] d e lt at = absurd (omega arith)
first_events ps (x ∷ ds) d e lt at = rw e (ap (λ (y : DeskState). y.events) (sym at))

first_outs : (ps : List PortState) (ds : List DeskState) (d : DeskState) → map port_rings ps ≡ map desk_rings ds → 0 < length ds → d ≡ get_or ds 0 d → IfSome (slice_get (map port_rings ps) 0) (λ r. IfSome r.1 (λ ring. ring ≡ d.outs))
first_outs ps [] d e lt at = absurd (omega arith)
first_outs ps (x ∷ ds) d e lt at = rw e (ap (λ (y : DeskState). y.outs) (sym at))

pub first_seated : (h : HubState) (ds : List DeskState) (d : DeskState) → rings h ≡ map desk_rings ds → 0 < length ds → d ≡ get_or ds 0 d → IsSeated h d
first_seated h ds d e lt at = record { events = first_events h.ports ds d e lt at; outs = first_outs h.ports ds d e lt at }

-- a fact of the first of the ports' rings is one of the first port's rings, and the other way round

at_first : (ps : List PortState) (P : Ring × Option Ring → Type 0) → IfSome (slice_get (map port_rings ps) 0) P → IfSome (slice_get ps 0) (λ p. P (port_rings p))
at_first [] P is = tt
at_first (p ∷ ps) P is = is

tokens_at_first : (h : HubState) (token : Option (Finished Event Global AnyItems)) → IfSome token (λ t. IfSome (slice_get (rings h) 0) (λ r. IsOfRing t r.0)) → IfSome token (λ t. IfSome (slice_get h.ports 0) (λ p. IsOfRing t p.events))
tokens_at_first h None is = tt
tokens_at_first h (Some t) is = at_first h.ports (λ r. IsOfRing t r.0) is

pub tokens_of_port : (h : HubState) (token : Option (Finished Event Global AnyItems)) (i : InboxState) → IsLeft h token i → IfSome token (λ t. IfSome (slice_get h.ports 0) (λ p. IsOfRing t p.events))
tokens_of_port h token i is = tokens_at_first h token is.events

from_first : (ps : List PortState) (P : Ring → Type 0) → IfSome (slice_get ps 0) (λ p. P p.events) → IfSome (slice_get (map port_rings ps) 0) (λ r. P r.0)
from_first [] P is = tt
from_first (p ∷ ps) P is = is

tokens_from_first : (h : HubState) (token : Option (Finished Event Global AnyItems)) → IfSome token (λ t. IfSome (slice_get h.ports 0) (λ p. IsOfRing t p.events)) → IfSome token (λ t. IfSome (slice_get (rings h) 0) (λ r. IsOfRing t r.0))
tokens_from_first h None is = tt
tokens_from_first h (Some t) is = from_first h.ports (λ ring. IsOfRing t ring) is

-- the token and the inbox of a desk that finishes

token_left : (rs : List (Ring × Option Ring)) (token : Option (Finished Event Global AnyItems)) (ring : Ring) → IfSome (slice_get rs 0) (λ r. r.0 ≡ ring) → IfSome token (λ t. IsOfRing t ring) → IfSome token (λ t. IfSome (slice_get rs 0) (λ r. IsOfRing t r.0))
token_left rs None ring is shown = tt
token_left [] (Some t) ring is shown = tt
token_left (r ∷ rs) (Some t) ring is shown = rw is shown

pub left_seated : (h : HubState) (d : DeskState) (token : Option (Finished Event Global AnyItems)) (i : InboxState) → IsSeated h d → IfSome token (λ t. IsOfRing t d.events) → IsLeftOf d i → IsLeft h token i
left_seated h d token i seated shown left = record { events = token_left (rings h) token d.events seated.events shown; outs = rw left.0 seated.outs }

-- the facts stay with the rings

pub seated_stays : (h g : HubState) (d e : DeskState) → rings g ≡ rings h → desk_rings e ≡ desk_rings d → IsSeated h d → IsSeated g e
seated_stays h g d e same own is =
    let events : e.events ≡ d.events = ap (λ (r : Ring × Option Ring). r.0) own in
    let outs : e.outs ≡ d.outs = same_Some e.outs d.outs (ap (λ (r : Ring × Option Ring). r.1) own) in
    record {
      events = subst (λ (rs : List (Ring × Option Ring)). IfSome (slice_get rs 0) (λ r. r.0 ≡ e.events)) (sym same) (rw events is.events);
      outs = subst (λ (rs : List (Ring × Option Ring)). IfSome (slice_get rs 0) (λ r. IfSome r.1 (λ ring. ring ≡ e.outs))) (sym same) (rw outs is.outs);
    }

outs_stay : (h g : HubState) (i j : InboxState) → rings g ≡ rings h → j.outs ≡ i.outs → IfSome (slice_get (rings h) 0) (λ r. IfSome r.1 (λ ring. ring ≡ i.outs)) → IfSome (slice_get (rings g) 0) (λ r. IfSome r.1 (λ ring. ring ≡ j.outs))
outs_stay h g i j same own is = subst (λ (rs : List (Ring × Option Ring)). IfSome (slice_get rs 0) (λ r. IfSome r.1 (λ ring. ring ≡ j.outs))) (sym same) (rw own is)

pub left_stays : (h g : HubState) (token : Option (Finished Event Global AnyItems)) (i j : InboxState) → rings g ≡ rings h → j.outs ≡ i.outs → IsLeft h token i → IsLeft g token j
left_stays h g token i j same own is = record {
  events = subst (λ (rs : List (Ring × Option Ring)). IfSome token (λ t. IfSome (slice_get rs 0) (λ r. IsOfRing t r.0))) (sym same) is.events;
  outs = outs_stay h g i j same own is.outs;
}

-- the token was handed to the hub, and came back or not

pub left_back : (h g : HubState) (old token : Option (Finished Event Global AnyItems)) (i : InboxState) → rings g ≡ rings h → IfSome token (λ t. IfSome (slice_get h.ports 0) (λ p. IsOfRing t p.events)) → IsLeft h old i → IsLeft g token i
left_back h g old token i same shown is = record {
  events = subst (λ (rs : List (Ring × Option Ring)). IfSome token (λ t. IfSome (slice_get rs 0) (λ r. IsOfRing t r.0))) (sym same) (tokens_from_first h token shown);
  outs = outs_stay h g i i same refl is.outs;
}

-- a sealed first port has its ring of events, and no ring of outs any more

sealed_events : (ps qs : List PortState) (p : PortState) (P : Ring → Type 0) → slice_get ps 0 ≡ Some p → qs ≡ set ps 0 (sealed p) → IfSome (slice_get (map port_rings ps) 0) (λ r. P r.0) → IfSome (slice_get (map port_rings qs) 0) (λ r. P r.0)
sealed_events [] qs p P at e is = absurd (none-some p at)
sealed_events (x ∷ ps) qs p P at e is = rw e (subst (λ (y : PortState). P y.events) (same_Some x p at) is)

sealed_outs : (ps qs : List PortState) (p : PortState) (ring : Ring) → slice_get ps 0 ≡ Some p → qs ≡ set ps 0 (sealed p) → IfSome (slice_get (map port_rings qs) 0) (λ r. IfSome r.1 (λ o. o ≡ ring))
sealed_outs [] qs p ring at e = absurd (none-some p at)
sealed_outs (x ∷ ps) qs p ring at e = rw e tt

sealed_token : (h g : HubState) (out : Option (Finished Out Global AnyItems)) (token : Option (Finished Event Global AnyItems)) → Seals 0 h g out → IfSome token (λ t. IfSome (slice_get (rings h) 0) (λ r. IsOfRing t r.0)) → IfSome token (λ t. IfSome (slice_get (rings g) 0) (λ r. IsOfRing t r.0))
sealed_token h g out None seals is = tt
sealed_token h g out (Some t) seals is = sealed_events h.ports g.ports seals.p (λ ring. IsOfRing t ring) seals.at seals.ports is

pub left_sealed : (h g : HubState) (out : Option (Finished Out Global AnyItems)) (token : Option (Finished Event Global AnyItems)) (i j : InboxState) → Seals 0 h g out → IsLeft h token i → IsLeft g token j
left_sealed h g out token i j seals is = record {
  events = sealed_token h g out token seals is.events;
  outs = sealed_outs h.ports g.ports seals.p j.outs seals.at seals.ports;
}

-- the token of the sealed first port is of the inbox's ring

sealed_ring : (o : Option Ring) (t : Finished Out Global AnyItems) (i : InboxState) → IsSome o → IfSome o (λ ring. IsOfRing t ring) → IfSome o (λ ring. ring ≡ i.outs) → IsOfRing t i.outs
sealed_ring None t i some shown is = absurd (false≢true some)
sealed_ring (Some ring) t i some shown is = rw (sym is) shown

pub rest_of : (h g : HubState) (t : Finished Out Global AnyItems) (token : Option (Finished Event Global AnyItems)) (i : InboxState) → Seals 0 h g (Some t) → IsLeft h token i → IsOfRing t i.outs
rest_of h g t token i seals is =
    sealed_ring seals.p.outs t i seals.can.1 seals.ring
    (subst (λ o. IfSome o (λ (p : PortState). IfSome p.outs (λ ring. ring ≡ i.outs))) seals.at (at_first h.ports (λ r. IfSome r.1 (λ ring. ring ≡ i.outs)) is.outs))
